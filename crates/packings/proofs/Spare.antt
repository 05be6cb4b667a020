-- The spare bits of packed numbers: those of the last byte that no number fills. Assumes nothing.
use Rattle.format.specs.Kit.{◌≡◌, sym, ap, ◌∙◌, true, List, ℕ, ◌+◌, ◌-◌, ◌*◌, ◌/◌, ◌%◌, ◌^◌, ◌<◌, ◌≤◌, div-one, zero-div, zero-mod, mod-eq_of_lt, arith}
use Rattle.format.specs.Kit.{length, get_or, List·getD-eq-default, shr_lt, eqb-true, eq-eqb}
use Rattle.format.specs.Bits.{bit_bytes}
use Rattle.laws.proofs.Cases.{below_or}
use Rattle.laws.proofs.Bits.{high_order, gather_in}
use Rattle.laws.proofs.BitsLow.{low_order, low_in}
use Rattle.laws.proofs.Orders.{bits_past}
use Rattle.laws.proofs.Editions.{high_first_sound, low_first_sound}
use Rattle.packings.specs.declared.Order as Od
use Rattle.packings.specs.Packings.{last_bits, spare_ok}
use Rattle.packings.proofs.Packings.{sound_of}

no_bits : (o : Od.Order) (k : ℕ) → last_bits o 0 k ≡ 0
no_bits Od.Order.High k = zero-mod (2 ^ k)
no_bits Od.Order.Low k = zero-div (2 ^ (8 - k))

pub spare_none : (o : Od.Order) (s : List ℕ) (k : ℕ) → length s ≡ 0 → spare_ok o s k ≡ true
unfolding spare_ok
spare_none o s k h =
    let z : get_or s (length s - 1) 0 ≡ 0 = List·getD-eq-default s 0 (omega arith) in
    rw z (eq-eqb _ _ (no_bits o k))

-- the last k bits of byte b are the string's from there on
last_is : (o : Od.Order) (s : List ℕ) (b k : ℕ) → k ≤ 8 → get_or s b 0 < 256
    → last_bits o (get_or s b 0) k ≡ (sound_of o).order.gather ((sound_of o).order.bit_of 8 s) (b * 8 + (8 - k)) k
unfolding high_first_sound low_first_sound high_order low_order
last_is Od.Order.High s b k h l =
    sym (gather_in 8 s b (8 - k) k 0 (omega arith) ∙ ap (λ (x : ℕ). x % 2 ^ k) (div-one (get_or s b 0)))
last_is Od.Order.Low s b k h l =
    let e : 8 ≡ k + (8 - k) = omega arith in
    let m : get_or s b 0 / 2 ^ (8 - k) < 2 ^ k = shr_lt k (8 - k) (rw (← e) l) in
    sym (low_in 8 s b (8 - k) k (omega arith) ∙ mod-eq_of_lt m)

module _ (o : Od.Order) (s : List ℕ) (n : ℕ) (long : length s ≡ bit_bytes n) (byte : (k : ℕ) → get_or s k 0 < 256) where
  abbrev spare : ℕ
  spare = 8 * length s - n

  abbrev bits : ℕ → ℕ
  bits = (sound_of o).order.bit_of 8 s

  spare_is : 0 < length s → last_bits o (get_or s (length s - 1) 0) spare ≡ (sound_of o).order.gather bits n spare
  spare_is h =
      let e : (length s - 1) * 8 + (8 - spare) ≡ n = omega arith in
      last_is o s (length s - 1) spare (omega arith) (byte (length s - 1)) ∙ ap (λ (j : ℕ). (sound_of o).order.gather bits j spare) e

  pub spare_sound : spare_ok o s spare ≡ true → (j : ℕ) → n ≤ j → bits j ≡ 0
  unfolding spare_ok
  spare_sound e j h =
      below_or j (8 * length s)
      (λ l.
      let q : n + (j - n) ≡ j = omega arith in
      ap bits (sym q)
      ∙ (sound_of o).orderly.zero_number bits n spare (j - n) (sym (spare_is (omega arith)) ∙ eqb-true _ _ e) (omega arith))
      (λ l. bits_past (sound_of o).orderly s j l)

  pub spare_complete : ((j : ℕ) → n ≤ j → bits j ≡ 0) → spare_ok o s spare ≡ true
  unfolding spare_ok
  spare_complete f =
      below_or 0 (length s)
      (λ l. eq-eqb _ _ (spare_is l ∙ (sound_of o).orderly.zero_bits bits n spare (λ k b. f (n + k) (omega arith))))
      (λ l. spare_none o s spare (omega arith))
