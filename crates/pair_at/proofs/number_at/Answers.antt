-- `pair_at::number_at` meets its contract. Assumes nothing.
use Rattle.format.specs.Kit.{◌≡◌, sym, ◌∙◌, arith}
use Rattle.format.specs.Bytes.{low_at}
use Rattle.pair_at.proofs.Numbers.{too_late, no_block, other_block, its_entry, no_entries}
use Rattle.pair_at.proofs.number_at.Goals as goal
use Rattle.pair_at.proofs.number_at.Goals.{After-size-k}

number : (c : After-size-k) → let a = c.args in c.size-k.result ≡ low_at 2 a.s.now a.at
number c = c.size-k.ensures ∙ c.short_at.ensures.0

pub returns-else-k-b : goal.returns-else-k-b
returns-else-k-b c =
    its_entry _ _ _ _ _ _ (number (goal.at.returns-else-k-b c).After-size-k) (omega (arith, c.if-a-at.false)) (omega (arith, c.if-k-ge-BLOCKS.false)) (sym (number (goal.at.returns-else-k-b c).After-size-k)
    ∙ omega (arith, c.if-k-b.false))

pub returns-else-jumps-gt0 : goal.returns-else-jumps-gt0
returns-else-jumps-gt0 c =
    no_entries _ _ _ _ _ _ (number (goal.at.returns-else-jumps-gt0 c).After-size-k) (omega (arith, c.if-a-at.false)) (omega (arith, c.if-k-ge-BLOCKS.false)) (omega (arith, c.if-jumps-gt0.false))

pub returns-then-a-at : goal.returns-then-a-at
returns-then-a-at c = too_late _ _ _ _ _ c.if-a-at.true

pub returns-then-k-ge-BLOCKS : goal.returns-then-k-ge-BLOCKS
returns-then-k-ge-BLOCKS c = no_block _ _ _ _ _ (omega (arith, c.if-k-ge-BLOCKS.true, number (goal.at.returns-then-k-ge-BLOCKS c).After-size-k))

pub returns-then-k-b : goal.returns-then-k-b
returns-then-k-b c = other_block _ _ _ _ _ c.if-jumps-gt0.true (λ e. omega (arith, c.if-k-b.true, number (goal.at.returns-then-k-b c).After-size-k, e))
