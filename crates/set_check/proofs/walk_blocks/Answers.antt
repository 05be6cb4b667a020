-- `set_check::walk_blocks` meets its contract. Assumes nothing.
use Rattle.format.specs.Kit.{refl, sym, ap, ◌∙◌, ℕ, ◌+◌, ◌-◌, arith}
use Rattle.answers.proofs.PassedOn.{passed_on}
use Rattle.laws.proofs.Digits.{below_all}
use Rattle.set_format.proofs.ByKind.{length_le}
use Rattle.set_blocks.specs.Kinds.{kind_number}
use Rattle.set_blocks.proofs.Steps.{kind_le}
use Rattle.set_check.specs.Tally.{walked_from}
use Rattle.set_check.proofs.Walking.{Read, read_block, halted, left_over, ended, turned}
use Rattle.set_check.proofs.walk_blocks.Goals as goal
use Rattle.set_check.proofs.walk_blocks.Goals.{In_ok-block}

-- the block that was read
block_read : (c : In_ok-block)
    → (Read c.args.s.now c.loop-left.least c.loop-left.at c.in_ok-block.block)
block_read c =
    let s = c.args.s.now in
    let u = below_all 256 s (λ i. (c.type_inv.s i).fits) in
    read_block s u _ _ _ c.in_ok-block.ensures.0 c.in_ok-block.ensures.1

pub returns-in_err-block : goal.returns-in_err-block
returns-in_err-block c =
    let l = c.loop-left in
    let a = c.args in
    rw (passed_on c.from_residual.result _ c.from_residual.ensures.1) (halted a.s.now a.id l.left l.least l.at l.t _ c.in_err-block.ensures.0 (omega arith) ∙ sym l.invariant.0)

pub add_block-t-requires : goal.add_block-t-requires
add_block-t-requires c =
    let l = c.loop-left in
    let b = block_read c in
    (b.sound, b.full, l.invariant.2, omega (arith, l.invariant.1, l.invariant.3))

pub data_bytes-requires : goal.data_bytes-requires
data_bytes-requires c =
    let b = c.in_ok-block.block in
    let o = (block_read (goal.at.data_bytes-requires c).In_ok-block).sound in
    length_le (kind_number b.kind) b.long (kind_le b.kind) o.long_is

pub loop-left-preserved : goal.loop-left-preserved
loop-left-preserved c =
    let d = c.data_bytes.ensures.0 in
    let l = c.loop-left in
    let a = c.args in
    let v = c.in_ok-block.block in
    let b = block_read (goal.at.loop-left-preserved c).In_ok-block in
    let e = c.add_block-t.ensures in (
      l.invariant.0 ∙ turned a.s.now a.id l.left _ l.least l.at l.t _ v (omega arith) refl b.head_is_is e
          ∙ ap (λ (n : ℕ). walked_from a.s.now a.id (l.left - 1) (v.block + 1) (v.start + n) c.add_block-t.result) (sym d),
      omega (arith, e.count_is, b.full.count_is, b.full.count_le, l.invariant.1, b.rises),
      e.below_le,
      omega (arith, b.full.number_le),
    )

pub returns-then-at-n : goal.returns-then-at-n
returns-then-at-n c =
    let l = c.loop-left in
    let a = c.args in
    left_over a.s.now a.id l.left l.least l.at l.t (omega arith) c.if-at-n.true ∙ sym l.invariant.0

pub returns : goal.returns
returns c =
    let l = c.loop-left in
    let a = c.args in
    ended a.s.now a.id l.left l.least l.at l.t (omega arith) c.if-at-n.false ∙ sym l.invariant.0

pub loop-left-init : goal.loop-left-init
loop-left-init c = (refl, omega arith, omega arith, omega arith)

pub overflow_add-at : goal.overflow_add-at
overflow_add-at c = omega (arith, (block_read (goal.at.overflow_add-at c).In_ok-block).ends, c.data_bytes.ensures.0)

pub overflow_add-least : goal.overflow_add-least
overflow_add-least c = omega (arith, (block_read (goal.at.overflow_add-least c).In_ok-block).full.number_le)
