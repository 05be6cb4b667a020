-- `set_blocks::block_from` meets its contract. Assumes nothing.
use Rattle.format.specs.Kit.{◌∙◌, sym}
use Rattle.answers.proofs.PassedOn.{passed_on}
use Rattle.set_blocks.proofs.Steps.{block_limit, block_next, block_stop}
use Rattle.set_blocks.proofs.block_from.Goals as goal

pub returns-in_err-number : goal.returns-in_err-number
returns-in_err-number c =
    let a = c.args in
    rw (passed_on c.from_residual.result _ c.from_residual.ensures.1) (block_stop a.s.now a.at _ c.in_err-number.ensures a.least, tt)

pub returns-then-not-block_ok : goal.returns-then-not-block_ok
returns-then-not-block_ok c =
    let a = c.args in
    (block_limit a.s.now a.at _ _ c.in_ok-number.ensures a.least (sym c.block_ok.ensures ∙ c.if-not-block_ok.true), tt)

pub returns : goal.returns
returns c =
    let a = c.args in
    let k = c.kind_from.ensures in
    (k.0 ∙ block_next a.s.now a.at _ _ c.in_ok-number.ensures a.least (sym c.block_ok.ensures ∙ c.if-not-block_ok.false), k.1)
