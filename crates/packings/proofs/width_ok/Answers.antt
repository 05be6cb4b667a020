-- `packings::width_ok` meets its contract. Assumes nothing.
use Rattle.format.specs.Kit.{◌≡◌, sym, ℕ, ◌/◌, ◌%◌, ◌^◌, arith, bit_and, and_mask, le-leb}
use Rattle.format.specs.Limits.{max_width}
use Rattle.format.specs.Editions.{high_first, low_first}
use Rattle.packings.proofs.Widths.{listed_is}
use Rattle.packings.proofs.width_ok.Goals as goal

pub returns-in-High : goal.returns-in-High
unfolding high_first
returns-in-High c =
    rw c.in-High.is (sym (le-leb c.args.w max_width c.requires))

pub returns-in-Low : goal.returns-in-Low
unfolding low_first
returns-in-Low c =
    let w : ℕ = c.args.w in
    let place : bit_and w 63 ≡ w % 64 = and_mask w 6 in
    rw (c.in-Low.is, place, and_mask (72340173107564823 / 2 ^ (w % 64)) 1) (listed_is w c.requires)

pub overflow_shr-result : goal.overflow_shr-result
overflow_shr-result c = omega (arith, and_mask c.args.w 6)
