-- A place among the places that a block's data hold, by its kind: how many are below it, and whether it is there. Assumes nothing.
use Rattle.format.specs.Kit.{Bool, List, ◌%◌, ◌*◌, ◌++◌, ◌+◌, ◌-◌, ◌/◌, ◌<◌, ◌^◌, ◌∙◌, ◌≡◌, ◌≤◌, add-zero, ap, ap₂, arith, drop, eqb, false, leb, length}
use Rattle.format.specs.Kit.{length-drop, not, ones_in, refl, sym, take, true, zero-add, zero-le, ℕ}
use Rattle.format.specs.Bytes.{from_low, low, low_at}
use Rattle.format.specs.Ids.{bitmap, count_below, rank_bytes, rank_table}
use Rattle.format.specs.IdsRead.{set_bits, shorts}
use Rattle.format.specs.LookUp.{ones_from, stride_long, stride_rank}
use Rattle.format.specs.Pairs.{Asc, Below}
use Rattle.format.specs.SetCalls.{set_data_bytes, set_data_fits, set_data_ok, set_places}
use Rattle.format.specs.Walk.{listed}
use Rattle.laws.proofs.Dense.{bit_at_lem, inner_is}
use Rattle.laws.proofs.Digits.{below_drop}
use Rattle.laws.proofs.Find.{occurs_listed}
use Rattle.laws.proofs.Ones.{bit_is}
use Rattle.laws.proofs.SetBits.{set_asc}
use Rattle.laws.proofs.Tests.{both_true}
use Rattle.judge.proofs.Parts.{asc_test}
use Rattle.judge.proofs.LowFirst.{shorts_below}
use Rattle.set_format.proofs.ByKind.{bytes_bitmap, bytes_list, fitting_list, places_bitmap, places_listed, places_missing}
use Rattle.set_format.proofs.Data.{fits, longs}
use Rattle.set_format.proofs.Missing.{missing_count, missing_listed}

-- ---- in a bitmap

module _ (s : List ℕ) (at : ℕ) (rs rest : List ℕ) (asc : Asc 0 rs) (here : drop at s ≡ low 8192 (bitmap rs) ++ rest) (r : ℕ) (hr : r < 65536) where
  pub bits_below : ones_from s at (r / 64) 0 + ones_in 64 (low_at 8 s (at + 8 * (r / 64)) % 2 ^ (r % 64)) ≡ count_below r rs
  unfolding stride_rank stride_long rank_bytes rank_table
  bits_below =
      let e : at ≡ at + 0 = omega arith in
      let f : r / 64 ≡ r / 64 - 0 = omega arith in
      ap₂ (λ (x y : ℕ). ones_from s x y 0 + ones_in 64 (low_at 8 s (x + 8 * (r / 64)) % 2 ^ (r % 64))) e f
      ∙ sym (ap (λ (x : ℕ). x + ones_in 64 (low_at 8 s (at + 0 + 8 * (r / 64)) % 2 ^ (r % 64))) (zero-add (ones_from s (at + 0) (r / 64 - 0) 0)))
      ∙ inner_is 0 rs s at rest asc here zero-le (λ h. absurd (h refl)) r hr

  pub bits_listed : not (eqb (low_at 8 s (at + 8 * (r / 64)) / 2 ^ (r % 64) % 2) 0) ≡ listed r rs
  bits_listed =
      ap (λ (x : ℕ). not (eqb x 0)) (bit_at_lem s at (bitmap rs) rest here r hr ∙ bit_is r rs asc)
      ∙ ap not (occurs_listed r rs) ∙ twice (listed r rs)
    where
      twice : (b : Bool) → not (not b) ≡ b
      twice true = refl
      twice false = refl

-- ---- in a block that passed its tests

module _ (s : List ℕ) (u : Below 256 s) (t c at : ℕ) (ok : set_data_ok t c s at ≡ true) (r : ℕ) (hr : r < 65536) where
  abbrev the_places : List ℕ
  the_places = set_places t c (drop at s)

  pub bitmap_fits : t ≡ 2 → at + 8192 ≤ length s
  bitmap_fits e = omega (arith, fits at t c s ok, bytes_bitmap t c e)

  pub list_fits : t ≤ 1 → at + 2 * c ≤ length s
  list_fits e = omega (arith, fits at t c s ok, bytes_list t c e)

  -- a bitmap's
  pub below_bitmap : t ≡ 2 → ones_from s at (r / 64) 0 + ones_in 64 (low_at 8 s (at + 8 * (r / 64)) % 2 ^ (r % 64)) ≡ count_below r the_places
  below_bitmap e =
      let h : at + 8192 ≤ length s = bitmap_fits e in
      let m : ℕ = from_low (take 8192 (drop at s)) in
      bits_below s at (set_bits 65536 0 m) (drop 8192 (drop at s)) (set_asc 65536 0 m) (longs s u at h) r hr
      ∙ sym (ap (count_below r) (places_bitmap t c (drop at s) e))

  pub there_bitmap : t ≡ 2 → not (eqb (low_at 8 s (at + 8 * (r / 64)) / 2 ^ (r % 64) % 2) 0) ≡ listed r the_places
  there_bitmap e =
      let h : at + 8192 ≤ length s = bitmap_fits e in
      let m : ℕ = from_low (take 8192 (drop at s)) in
      bits_listed s at (set_bits 65536 0 m) (drop 8192 (drop at s)) (set_asc 65536 0 m) (longs s u at h) r hr
      ∙ sym (ap (listed r) (places_bitmap t c (drop at s) e))

  -- a list's
  pub below_list : t ≡ 0 → count_below r (shorts c (drop at s)) ≡ count_below r the_places
  below_list e = ap (count_below r) (sym (places_listed t c (drop at s) e))

  pub there_list : t ≡ 0 → listed r (shorts c (drop at s)) ≡ listed r the_places
  there_list e = ap (listed r) (sym (places_listed t c (drop at s) e))

  -- of the missing ones
  the_order : t ≡ 1 → Asc 0 (shorts c (drop at s))
  unfolding set_data_ok
  the_order e =
      let b = both_true (leb (at + set_data_bytes t c) (length s)) (set_data_fits t c s at) ok in
      asc_test 0 (shorts c (drop at s)) (sym (fitting_list t c s at (omega arith)) ∙ b.1)

  the_limit : t ≡ 1 → Below 65536 (shorts c (drop at s))
  the_limit e = shorts_below c (drop at s) (omega (arith, list_fits (omega arith), length-drop at s)) (below_drop 256 at s u)

  pub below_missing : t ≡ 1 → count_below r the_places + count_below r (shorts c (drop at s)) ≡ r
  below_missing e =
      ap (λ (l : List ℕ). count_below r l + count_below r (shorts c (drop at s))) (places_missing t c (drop at s) e)
      ∙ sym (add-zero _) ∙ missing_count 65536 0 r (shorts c (drop at s)) (the_order e) (the_limit e) zero-le (omega arith)

  pub there_missing : t ≡ 1 → not (listed r (shorts c (drop at s))) ≡ listed r the_places
  there_missing e =
      sym (ap (listed r) (places_missing t c (drop at s) e) ∙ missing_listed 65536 0 r (shorts c (drop at s)) (the_order e) (the_limit e) zero-le (omega arith))
