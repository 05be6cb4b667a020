-- `set_blocks::kind_from` meets its contract. Assumes nothing.
use Rattle.format.specs.Kit.{◌∙◌, ap, ℕ}
use Rattle.answers.proofs.PassedOn.{passed_on}
use Rattle.format.specs.SetCalls.{length_from}
use Rattle.set_blocks.proofs.Steps.{kind_limit, kind_next, kind_stop}
use Rattle.set_blocks.proofs.kind_from.Goals as goal

pub returns-in_err-number : goal.returns-in_err-number
returns-in_err-number c =
    let a = c.args in
    rw (passed_on c.from_residual.result _ c.from_residual.ensures.1) (kind_stop a.s.now a.at _ c.in_err-number.ensures a.block, tt)

pub returns-in_default : goal.returns-in_default
returns-in_default c =
    let a = c.args in
    (kind_limit a.s.now a.at _ _ c.in_ok-number.ensures a.block c.in_default.ensures, tt)

pub returns : goal.returns
returns c =
    let a = c.args in
    let l = c.length_from.ensures in
    let k = c.in-Some.ensures in (
      l.0 ∙ ap (λ (x : ℕ). length_from a.block x a.s.now c.in_ok-number.number.next) k.0
          ∙ kind_next a.s.now a.at _ _ c.in_ok-number.ensures a.block k.1,
      l.1,
    )
