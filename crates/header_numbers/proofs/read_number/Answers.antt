-- `header_numbers::read_number` meets its contract: a number's first byte, which may be its last. Assumes nothing.
use Rattle.format.specs.Kit.{sym, ◌∙◌}
use Rattle.header_numbers.proofs.Steps.{none_first, small_first, more_first}
use Rattle.header_numbers.proofs.read_number.Goals as goal

pub returns-then-s-at : goal.returns-then-s-at
returns-then-s-at c = let a = c.args in sym (none_first a.s.now a.at c.if-s-at.true)

pub returns-then-b-lt128 : goal.returns-then-b-lt128
returns-then-b-lt128 c =
    let a = c.args in
    sym (small_first a.s.now a.at c.from-b.ensures c.if-s-at.false c.if-b-lt128.true)

pub returns : goal.returns
returns c =
    let a = c.args in
    c.read_rest.ensures ∙ sym (more_first a.s.now a.at c.from-b.ensures c.if-s-at.false c.if-b-lt128.false)
