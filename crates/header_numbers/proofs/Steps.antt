-- Reading a header number byte by byte: what the bytes from here on make of the sum so far. Assumes nothing.
use Rattle.format.specs.Kit.{◌≡◌, refl, sym, ap, ◌∙◌, true, false, not, List, ◌∷◌, ℕ, zero, suc, ◌+◌, ◌-◌, ◌*◌, ◌^◌, ◌≤◌, ◌<◌, pow-zero, pow-suc}
use Rattle.format.specs.Kit.{mul-add, mul_assoc, mul_comm, mul-one, le-mul_of_pos_right, one-le-pow, zero-lt-suc, le_of_eq, le_trans, add-zero}
use Rattle.format.specs.Kit.{mul-le-mul_left, add-one, arith, lt-ltb, le-ltb, eq-eqb, ne_eqb, eqb-true, eqb-false, not-true, not-false, eqb, length}
use Rattle.format.specs.Kit.{get_or, drop, drop_of_length-le, drop-cons}
use Rattle.format.specs.HeaderNumbers.{Got, got, short, bad, above, read_groups, read_number}
use Rattle.laws.proofs.Cases.{equal_or}
use Rattle.header_numbers.specs.Read.{number_is, number_of, number_on, decides_at}
use Rattle.header_numbers.specs.declared.Number.{Number}
use Rattle.header_numbers.specs.declared.NumberFault.{NumberFault}
use Rattle.header_numbers.specs.declared.NumberFault.TheVariants.{Short, Bad}
use Rattle.std.specs.Prelude.{Err}
use Rattle.std.specs.declared.result.Result.{Result}

-- ---- the scale: with `left` bytes before the tenth, it is what takes the tenth to 2^63

abbrev pub Scaled : ℕ → ℕ → Type 0
Scaled left scale = scale * 128 ^ left ≡ 2 ^ 63

scaled_end : (scale : ℕ) → Scaled 0 scale → scale ≡ 2 ^ 63
scaled_end scale e = sym (ap (λ (p : ℕ). scale * p) (pow-zero 128) ∙ mul-one scale) ∙ e

scaled_suc : (l scale : ℕ) → Scaled (suc l) scale → Scaled l (scale * 128)
scaled_suc l scale e = mul_assoc scale 128 (128 ^ l) ∙ ap (λ (p : ℕ). scale * p) (mul_comm 128 (128 ^ l) ∙ sym (pow-suc 128 l)) ∙ e

-- after k bytes, fewer than nine
module _ (k scale : ℕ) (h : k < 9) (e : Scaled (9 - k) scale) where
  pub scaled_step : Scaled (9 - (k + 1)) (scale * 128)
  scaled_step =
      let q : 9 - k ≡ suc (9 - (k + 1)) = omega arith in
      scaled_suc (9 - (k + 1)) scale (rw q at e)

  pub scaled_le : scale * 128 ≤ 2 ^ 63
  scaled_le = le_trans (le-mul_of_pos_right (scale * 128) (one-le-pow (9 - (k + 1)) 128 (zero-lt-suc 127))) (le_of_eq scaled_step)

  -- the scale, times a number below 128, has room
  pub room_more : (sum d : ℕ) → sum < scale → d < 128 → sum + scale * d < 2 ^ 63
  room_more sum d l j =
      let m : d ≤ 127 = omega arith in
      omega (arith, scaled_le, mul-le-mul_left scale m)

-- ---- a byte's seven bits below what follows

on_above : (scale sum i b : ℕ) (g : Got) → number_on scale sum i (above b g) ≡ number_on (scale * 128) (sum + scale * (b - 128)) (i + 1) g
unfolding above
on_above scale sum i b (got v k) =
    let e : sum + scale * (b - 128 + 128 * v) ≡ sum + scale * (b - 128) + scale * 128 * v =
    omega (arith, mul-add scale (b - 128) (128 * v), mul_assoc scale 128 v) in
    let q : i + suc k ≡ i + 1 + k = omega arith in
    rw (e, q)
on_above scale sum i b short = refl
on_above scale sum i b (bad k) = let q : i + suc k ≡ i + 1 + k = omega arith in rw q

of_above : (i b : ℕ) (g : Got) → number_of i (above b g) ≡ number_on 128 (b - 128) (i + 1) g
unfolding above
of_above i b (got v k) = let q : i + suc k ≡ i + 1 + k = omega arith in rw q
of_above i b short = refl
of_above i b (bad k) = let q : i + suc k ≡ i + 1 + k = omega arith in rw q

module _ (s : List ℕ) (i : ℕ) where
  pub at_end : (left scale sum : ℕ) → length s ≤ i → number_on scale sum i (read_groups left (drop i s)) ≡ Err Short
  unfolding read_groups
  at_end left scale sum h = rw (drop_of_length-le s h)

  pub none_first : length s ≤ i → number_of i (read_number (drop i s)) ≡ Err Short
  unfolding read_number
  none_first h = rw (drop_of_length-le s h)

  module _ {b : ℕ} (e : b ≡ get_or s i 0) (h : i < length s) where
    next : drop i s ≡ b ∷ drop (i + 1) s
    next = rw (add-one i, e) (drop-cons s i 0 h)

    -- the first byte

    pub small_first : b < 128 → number_of i (read_number (drop i s)) ≡ number_is b (i + 1)
    unfolding read_number
    small_first k = rw (next, lt-ltb b 128 k)

    pub more_first : 128 ≤ b → number_of i (read_number (drop i s)) ≡ number_on 128 (b - 128) (i + 1) (read_groups 8 (drop (i + 1) s))
    unfolding read_number
    more_first k = rw (next, le-ltb b 128 k) (of_above i b (read_groups 8 (drop (i + 1) s)))

    -- a later one, with `left` bytes before the tenth

    pub last : (left scale sum : ℕ) → (left ≡ 0 → ⊥) → b < 128 → (b ≡ 0 → ⊥) → number_on scale sum i (read_groups left (drop i s)) ≡ number_is (sum + scale * b) (i + 1)
    unfolding read_groups
    last zero scale sum n k z = absurd (n refl)
    last (suc l) scale sum n k z = rw (next, lt-ltb b 128 k, ne_eqb b 0 z)

    pub one_more : (left scale sum : ℕ) → (left ≡ 0 → ⊥) → 128 ≤ b
        → number_on scale sum i (read_groups left (drop i s)) ≡ number_on (scale * 128) (sum + scale * (b - 128)) (i + 1) (read_groups (left - 1) (drop (i + 1) s))
    unfolding read_groups
    one_more zero scale sum n k = absurd (n refl)
    one_more (suc l) scale sum n k =
        let q : suc l - 1 ≡ l = omega arith in
        rw (q, next, le-ltb b 128 k) (on_above scale sum i b (read_groups l (drop (i + 1) s)))

    -- the same after k bytes that go on: it decides, it ends the number, or it goes on

    module _ (k scale sum : ℕ) (few : k ≤ 9) where
      -- what the bytes from here on make of the sum
      abbrev rest : Result Number NumberFault
      rest = number_on scale sum i (read_groups (9 - k) (drop i s))

      pub decided : decides_at k b ≡ true → rest ≡ Err (Bad i)
      unfolding read_groups
      decided t =
          equal_or k 9
          (λ z.
          let q : 9 - k ≡ 0 = omega arith in
          let f : not (eqb b 1) ≡ true = rw (eq-eqb k 9 z) at t in
          rw (q, next, not-true (eqb b 1) f, add-zero))
          (λ n.
          let q : 9 - k ≡ suc (8 - k) = omega arith in
          let f : eqb b 0 ≡ true = rw (ne_eqb k 9 n) at t in
          let z = eqb-true b 0 f in
          rw (q, next, lt-ltb b 128 (omega arith), f, add-zero))

      module _ (t : decides_at k b ≡ false) where
        -- the tenth is 1, and no other is 0
        tenth_one : k ≡ 9 → b ≡ 1
        tenth_one z = let f : not (eqb b 1) ≡ false = rw (eq-eqb k 9 z) at t in eqb-true b 1 (not-false (eqb b 1) f)

        not_zero : (k ≡ 9 → ⊥) → b ≡ 0 → ⊥
        not_zero n = let f : eqb b 0 ≡ false = rw (ne_eqb k 9 n) at t in eqb-false b 0 f

        pub ended : b < 128 → rest ≡ number_is (sum + scale * b) (i + 1)
        unfolding read_groups
        ended h =
            equal_or k 9
            (λ z.
            let q : 9 - k ≡ 0 = omega arith in
            let one = tenth_one z in
            rw (q, next, eq-eqb b 1 one, one))
            (λ n. last (9 - k) scale sum (λ z. omega arith) h (not_zero n))

        -- a number that ends here is below 2^64
        pub room : sum < scale → Scaled (9 - k) scale → b < 128 → sum + scale * b < 2 ^ 64
        room l j h =
            equal_or k 9
            (λ z.
            let q : 9 - k ≡ 0 = omega arith in
            rw (tenth_one z, mul-one) (omega (arith, scaled_end scale (rw q at j))))
            (λ n. omega (arith, room_more k scale (omega arith) j sum b l h))

        pub not_tenth : 128 ≤ b → k < 9
        not_tenth h = equal_or k 9 (λ z. absurd (omega (arith, tenth_one z))) (λ n. omega arith)

        pub went_on : 128 ≤ b → rest ≡ number_on (scale * 128) (sum + scale * (b - 128)) (i + 1) (read_groups (9 - (k + 1)) (drop (i + 1) s))
        went_on h =
            let l = not_tenth h in
            let q : 9 - (k + 1) ≡ 9 - k - 1 = omega arith in
            rw q (one_more (9 - k) scale sum (λ z. omega arith) h)
