-- One block's tests, bytes and places by its kind, and the count that its data come to. Assumes nothing.
use Rattle.format.specs.Kit.{List, ◌&&◌, ◌*◌, ◌+◌, ◌-◌, ◌<◌, ◌∙◌, ◌≡◌, ◌≤◌, ap, arith, cond, drop, eq-eqb, eqb, eqb-true, false, le-leb, leb, leb-true}
use Rattle.format.specs.Kit.{length, length-drop, lt-leb, ltb, ltb-true, ne_eqb, refl, suc, sym, take, true, zero, ℕ}
use Rattle.format.specs.Bytes.{from_low}
use Rattle.format.specs.IdsRead.{set_bits, shorts}
use Rattle.format.specs.LookUp.{ones_from}
use Rattle.format.specs.Pairs.{Below, asc_from}
use Rattle.format.specs.SetBytes.{missing, set_kind}
use Rattle.format.specs.SetCalls.{list_length_ok, set_data_bytes, set_data_fits, set_data_ok, set_places}
use Rattle.laws.proofs.Digits.{below_drop}
use Rattle.laws.proofs.Probes.{length_shorts}
use Rattle.laws.proofs.Tests.{both_true}
use Rattle.judge.proofs.Parts.{asc_test}
use Rattle.judge.proofs.LowFirst.{shorts_below}
use Rattle.set_format.proofs.Data.{ones_count}
use Rattle.set_format.proofs.Missing.{missing_length}

-- ---- lengths and sizes, by kind

pub length_listed : (t c : ℕ) → t ≡ 0 → list_length_ok t c ≡ leb 1 c && leb c 4096
unfolding list_length_ok
length_listed t c e = rw e

pub length_missing : (t c : ℕ) → t ≡ 1 → list_length_ok t c ≡ ltb c 4096
unfolding list_length_ok
length_missing t c e = rw e

pub length_bitmap : (t c : ℕ) → t ≡ 2 → list_length_ok t c ≡ eqb c 0
unfolding list_length_ok
length_bitmap t c e = rw e

pub length_le : (t c : ℕ) → t ≤ 2 → list_length_ok t c ≡ true → c ≤ 4096
unfolding list_length_ok
length_le zero c h e = leb-true c 4096 (both_true (leb 1 c) (leb c 4096) e).1
length_le (suc zero) c h e = omega (arith, ltb-true c 4096 e)
length_le (suc (suc t)) c h e = omega (arith, eqb-true c 0 e)

pub bytes_list : (t c : ℕ) → t ≤ 1 → set_data_bytes t c ≡ 2 * c
unfolding set_data_bytes
bytes_list zero c h = refl
bytes_list (suc zero) c h = refl
bytes_list (suc (suc t)) c h = absurd (omega arith)

pub bytes_bitmap : (t c : ℕ) → t ≡ 2 → set_data_bytes t c ≡ 8192
unfolding set_data_bytes
bytes_bitmap t c e = rw e

-- ---- the data

-- the ids that the data hold, 0 if they break a rule
abbrev pub counted : ℕ → ℕ → List ℕ → ℕ → ℕ
counted t c s at = cond (set_data_ok t c s at) (length (set_places t c (drop at s))) 0

pub fitting_list : (t c : ℕ) (s : List ℕ) (at : ℕ) → t ≤ 1 → set_data_fits t c s at ≡ asc_from 0 (shorts c (drop at s))
unfolding set_data_fits
fitting_list zero c s at h = refl
fitting_list (suc zero) c s at h = refl
fitting_list (suc (suc t)) c s at h = absurd (omega arith)

pub places_listed : (t c : ℕ) (s : List ℕ) → t ≡ 0 → set_places t c s ≡ shorts c s
unfolding set_places
places_listed t c s e = rw e

pub places_missing : (t c : ℕ) (s : List ℕ) → t ≡ 1 → set_places t c s ≡ missing 65536 0 (shorts c s)
unfolding set_places
places_missing t c s e = rw e

pub places_bitmap : (t c : ℕ) (s : List ℕ) → t ≡ 2 → set_places t c s ≡ set_bits 65536 0 (from_low (take 8192 s))
unfolding set_places
places_bitmap t c s e = rw e

fitting_bitmap : (t c : ℕ) (s : List ℕ) (at : ℕ) → t ≡ 2 → set_data_fits t c s at ≡ eqb (set_kind (ones_from s at 1024 0)) 2
unfolding set_data_fits
fitting_bitmap t c s at e = rw e

module _ (t c : ℕ) (s : List ℕ) (at : ℕ) where
  pub cut_off : length s < at + set_data_bytes t c → counted t c s at ≡ 0
  unfolding set_data_ok
  cut_off h = rw (lt-leb (at + set_data_bytes t c) (length s) h)

  test_list : t ≤ 1 → at + set_data_bytes t c ≤ length s → set_data_ok t c s at ≡ asc_from 0 (shorts c (drop at s))
  unfolding set_data_ok
  test_list h l = rw (le-leb (at + set_data_bytes t c) (length s) l) (fitting_list t c s at h)

  pub not_ascending : t ≤ 1 → at + set_data_bytes t c ≤ length s → asc_from 0 (shorts c (drop at s)) ≡ false → counted t c s at ≡ 0
  not_ascending h l e = rw (test_list h l ∙ e)

  pub count_listed : t ≡ 0 → at + set_data_bytes t c ≤ length s → asc_from 0 (shorts c (drop at s)) ≡ true → counted t c s at ≡ c
  count_listed h l e = rw (test_list (omega arith) l ∙ e, places_listed t c (drop at s) h) (length_shorts c (drop at s))

  pub count_missing : Below 256 s → t ≡ 1 → at + set_data_bytes t c ≤ length s → asc_from 0 (shorts c (drop at s)) ≡ true → counted t c s at ≡ 65536 - c
  count_missing u h l e =
      let fits : 2 * c ≤ length (drop at s) = omega (arith, length-drop at s, bytes_list t c (omega arith)) in
      let n : length (shorts c (drop at s)) + length (missing 65536 0 (shorts c (drop at s))) ≡ 65536 =
      missing_length 65536 0 (shorts c (drop at s)) (asc_test 0 (shorts c (drop at s)) e) (shorts_below c (drop at s) fits (below_drop 256 at s u)) in
      rw (test_list (omega arith) l ∙ e, places_missing t c (drop at s) h) (omega (arith, length_shorts c (drop at s)))

  test_bitmap : t ≡ 2 → at + set_data_bytes t c ≤ length s → set_data_ok t c s at ≡ eqb (set_kind (ones_from s at 1024 0)) 2
  unfolding set_data_ok
  test_bitmap h l = rw (le-leb (at + set_data_bytes t c) (length s) l) (fitting_bitmap t c s at h)

  pub other_ones : t ≡ 2 → at + set_data_bytes t c ≤ length s → (set_kind (ones_from s at 1024 0) ≡ 2 → ⊥) → counted t c s at ≡ 0
  other_ones h l n = rw (test_bitmap h l ∙ ne_eqb _ 2 n)

  pub count_bitmap : Below 256 s → t ≡ 2 → at + set_data_bytes t c ≤ length s → set_kind (ones_from s at 1024 0) ≡ 2 → counted t c s at ≡ ones_from s at 1024 0
  count_bitmap u h l e =
      rw (test_bitmap h l ∙ eq-eqb _ 2 e) (ap length (places_bitmap t c (drop at s) h) ∙ sym (ones_count s u at (omega (arith, bytes_bitmap t c h))))
