-- The bits of a long that are left, each in its place, and their ids. Assumes nothing.
use Rattle.format.specs.Kit.{◌≡◌, refl, sym, ap, ap₂, ◌∙◌, List, ◌∷◌, ℕ, suc, ◌+◌, ◌-◌, ◌*◌, ◌/◌, ◌^◌, ◌<◌, arith, count_trailing_zeros, zero-mul, mul-le-mul}
use Rattle.format.specs.Kit.{pow_pos, pow_mono, shr_lt, shl_lt, lt_of_lt_of_le}
use lib.Count.{trailing_of_zero}
use Rattle.format.specs.Limits.{Power}
use Rattle.format.specs.Ids.{rank_bytes}
use Rattle.laws.proofs.Cases.{equal_or}
use Rattle.read_in_block.specs.Rows.{longs_from}
use Rattle.read_in_block.specs.Stretch.{InLong}
use Rattle.read_in_block.proofs.BitRows.{bit_passed}
use Rattle.read_in_block.proofs.Lowest.{lowest_inside, lowest_up, lowest_away}
use Rattle.read_in_block.proofs.LongIds.{left_in, no_bit, a_bit}

-- the bits of long k that are left, each in its place, and the ids of these and of the longs after it
pub record Held (p : ℕ) (s : List ℕ) (t b k bits : ℕ) (list : List ℕ) : Type 0 where
  pub place : ℕ
  pub rest : ℕ
  pub inner : ℕ
  pub in_long : InLong p s t k place rest inner
  pub moved : bits ≡ rest * 2 ^ (place - 64 * k)
  pub ids : list ≡ left_in s (t + rank_bytes p) b (1023 - k) k place rest

module _ (p : ℕ) (h : Power p) (s : List ℕ) (t b k bits : ℕ) (list : List ℕ) (x : Held p s t b k bits list) where
  abbrev gap : ℕ
  gap = x.place - 64 * k

  pub held_none : bits ≡ 0 → list ≡ longs_from s (t + rank_bytes p) b (1023 - k) (suc k) (64 * suc k)
  held_none e =
      let z : x.rest ≡ 0 = none_left_of x.rest gap (sym x.moved ∙ e) in
      let tz : count_trailing_zeros 64 x.rest ≡ 64 = ap (count_trailing_zeros 64) z ∙ trailing_of_zero 64 in
      x.ids ∙ no_bit p h s t b k x.place x.rest x.inner x.in_long (1023 - k) (omega (arith, tz, x.in_long.from))
    where
      none_left_of : (n d : ℕ) → n * 2 ^ d ≡ 0 → n ≡ 0
      none_left_of n d f =
          equal_or n 0 (λ g. g)
          (λ g. absurd (omega (arith, f, mul-le-mul {n₁ = 1} {m₁ = 1} {n₂ = n} {m₂ = 2 ^ d} (omega (arith, g)) (omega (arith, pow_pos d)))))

  module _ (some : 0 < bits) where
    rest_some : 0 < x.rest
    rest_some = equal_or x.rest 0 (λ e. absurd (omega (arith, some, x.moved, ap (λ (n : ℕ). n * 2 ^ gap) e, zero-mul (2 ^ gap)))) (λ e. omega (arith, e))

    rest_small : x.rest < 2 ^ (64 - gap)
    rest_small =
        let g : 64 - gap + gap ≡ 64 = omega (arith, x.in_long.most) in
        rw x.in_long.rest_is (shr_lt (64 - gap) gap (rw g x.in_long.small))

    lowest_at : count_trailing_zeros 64 bits ≡ gap + count_trailing_zeros 64 x.rest
    lowest_at = ap (count_trailing_zeros 64) x.moved ∙ lowest_up 64 gap x.rest rest_some rest_small (omega (arith, x.in_long.most))

    here : x.place + count_trailing_zeros 64 x.rest ≡ 64 * k + count_trailing_zeros 64 bits
    here = omega (arith, lowest_at, x.in_long.from)

    inside : count_trailing_zeros 64 bits < 64
    inside =
        lowest_inside 64 bits some
        (rw x.moved (lt_of_lt_of_le (shl_lt (64 - gap) gap rest_small) (pow_mono {j = 64} (omega (arith, x.in_long.most)))))

    pub held_bit : (64 * k + count_trailing_zeros 64 bits < 65536)
        × ((more : List ℕ) × (list ≡ (b * 65536 + (64 * k + count_trailing_zeros 64 bits)) ∷ more) × Held p s t b k (bits - 2 ^ count_trailing_zeros 64 bits) more)
    held_bit =
        let z : ℕ = count_trailing_zeros 64 x.rest in
        let rest : ℕ = x.rest / 2 ^ (z + 1) in
        let l : x.place + z < 64 * k + 64 = omega (arith, here, inside) in
        let past = bit_passed p h s t k x.place x.rest x.inner x.in_long l in
        let one : suc (x.place + z) ≡ x.place + z + 1 = omega arith in
        let far : x.place + z + 1 - 64 * k ≡ gap + (z + 1) = omega (arith, x.in_long.from) in (
          omega (arith, inside, x.in_long.long_most),
          (
            left_in s (t + rank_bytes p) b (1023 - k) k (x.place + z + 1) rest,
            x.ids ∙ a_bit p h s t b k x.place x.rest x.inner x.in_long (1023 - k) l
                ∙ ap (λ (y : ℕ). (b * 65536 + y) ∷ left_in s (t + rank_bytes p) b (1023 - k) k (x.place + z + 1) rest) here,
            record {
              place = x.place + z + 1;
              rest = rest;
              inner = suc x.inner;
              in_long = rw (← one) past;
              moved = ap₂ (λ (m j : ℕ). m - 2 ^ j) x.moved lowest_at
                  ∙ lowest_away 64 gap x.rest rest_some rest_small (omega (arith, x.in_long.most)) ∙ rw far refl;
              ids = refl;
            },
          ),
        )
