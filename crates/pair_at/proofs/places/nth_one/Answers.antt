-- `pair_at::places::nth_one` meets its contract. Invariant: `bits` has the bits from y on, before which so many ones stand. Assumes nothing.
use Rattle.format.specs.Kit.{◌≡◌, sym, ap, ◌∙◌, ℕ, ◌+◌, ◌/◌, ◌%◌, ◌^◌, ◌<◌, arith, ones_in, count_trailing_zeros, shr-shr, div-one}
use Rattle.laws.proofs.LongBits.{none_below}
use Rattle.pair_at.proofs.BitAfter.{next_one, ones_to, is_one, ones_past}
use Rattle.pair_at.proofs.places.nth_one.Goals as goal
use Rattle.pair_at.proofs.places.nth_one.Goals.{After-zeros_below-z, At-loop-passed, Start}

small : (s : Start) → s.args.long < 2 ^ 64
small s = omega arith

-- a one is left
left : (l : At-loop-passed) → let a = l.args in ones_in 64 (a.long % 2 ^ l.loop-passed.y) < ones_in 64 a.long
left l = omega (arith, l.loop-passed.invariant.2, l.requires)

pub loop-passed-preserved : goal.loop-passed-preserved
loop-passed-preserved c =
    let a = c.args in
    let n : ℕ = count_trailing_zeros 64 (a.long / 2 ^ c.loop-passed.y) in
    let e : c.zeros_below-z.result ≡ n = c.zeros_below-z.ensures.0 ∙ ap (count_trailing_zeros 64) c.loop-passed.invariant.1 in
    let past = ones_past a.long (small (goal.at.loop-passed-preserved c).Start) c.loop-passed.y c.loop-passed.invariant.0 (left (goal.at.loop-passed-preserved c).At-loop-passed) in
    let g : c.loop-passed.y + (n + 1) ≡ c.loop-passed.y + n + 1 = omega arith in
    rw e (
      omega (arith, next_one a.long (small (goal.at.loop-passed-preserved c).Start) c.loop-passed.y c.loop-passed.invariant.0 (left (goal.at.loop-passed-preserved c).At-loop-passed)),
      c.bits_above-bits.ensures ∙ ap (λ (x : ℕ). c.loop-passed.bits / 2 ^ (x + 1)) e ∙ ap (λ (x : ℕ). x / 2 ^ (n + 1)) c.loop-passed.invariant.1
          ∙ shr-shr a.long c.loop-passed.y (n + 1) ∙ ap (λ (x : ℕ). a.long / 2 ^ x) g,
      omega (arith, past, c.loop-passed.invariant.2, c.loop-passed-test.true),
    )

pub returns : goal.returns
returns c =
    let a = c.args in
    let e : c.zeros_below.result ≡ count_trailing_zeros 64 (a.long / 2 ^ c.loop-passed.y) = c.zeros_below.ensures.0 ∙ ap (count_trailing_zeros 64) c.loop-passed.invariant.1 in
    rw e (
      next_one a.long (small (goal.at.returns c).Start) c.loop-passed.y c.loop-passed.invariant.0 (left (goal.at.returns c).At-loop-passed),
      is_one a.long (small (goal.at.returns c).Start) c.loop-passed.y c.loop-passed.invariant.0 (left (goal.at.returns c).At-loop-passed),
      ones_to a.long (small (goal.at.returns c).Start) c.loop-passed.y c.loop-passed.invariant.0 (left (goal.at.returns c).At-loop-passed) ∙ omega (arith, c.loop-passed.invariant.2, c.loop-passed-test.false),
    )

-- the zeros before it
few : (c : After-zeros_below-z) → (c.zeros_below-z.result < 64) × (c.loop-passed.y + c.zeros_below-z.result < 64)
few c =
    let a = c.args in
    let w = next_one a.long (small (goal.at.After-zeros_below-z c).Start) c.loop-passed.y c.loop-passed.invariant.0 (left (goal.at.After-zeros_below-z c).At-loop-passed) in
    let e = c.zeros_below-z.ensures.0 ∙ ap (count_trailing_zeros 64) c.loop-passed.invariant.1 in
    (omega (arith, w, e), omega (arith, w, e))

pub loop-passed-init : goal.loop-passed-init
loop-passed-init c = (omega arith, sym (div-one c.args.long), omega (arith, none_below c.args.long))

pub bits_above-bits-requires : goal.bits_above-bits-requires
bits_above-bits-requires c = (few c).0

pub overflow_add-y : goal.overflow_add-y
overflow_add-y c = omega (arith, (few (goal.at.overflow_add-y c).After-zeros_below-z).1)

pub overflow_add-y-in-loop-passed : goal.overflow_add-y-in-loop-passed
overflow_add-y-in-loop-passed c = omega (arith, (few (goal.at.overflow_add-y-in-loop-passed c).After-zeros_below-z).1)

pub overflow_add-result : goal.overflow_add-result
overflow_add-result c = omega (arith, c.zeros_below.ensures.1, c.loop-passed.invariant.0)
