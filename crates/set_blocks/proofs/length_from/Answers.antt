-- `set_blocks::length_from` meets its contract. Assumes nothing.
use Rattle.format.specs.Kit.{◌∙◌, ap, sym, ℕ}
use Rattle.answers.proofs.PassedOn.{passed_on}
use Rattle.format.specs.SetCalls.{data_from, list_length_ok}
use Rattle.set_blocks.specs.Kinds.{kind_number}
use Rattle.set_blocks.proofs.Steps.{length_limit, length_next, length_stop}
use Rattle.set_blocks.proofs.length_from.Goals as goal

pub returns-in_err-number : goal.returns-in_err-number
returns-in_err-number c =
    let a = c.args in
    rw (passed_on c.from_residual.result _ c.from_residual.ensures.1) (length_stop a.s.now a.at _ c.in_err-number.ensures a.block (kind_number a.kind), tt)

pub returns-then-not-length_ok : goal.returns-then-not-length_ok
returns-then-not-length_ok c =
    let a = c.args in
    let out = sym c.length_ok.ensures ∙ c.if-not-length_ok.true in
    (length_limit a.s.now a.at _ _ c.in_ok-number.ensures a.block (kind_number a.kind) out, tt)

pub data_from-requires : goal.data_from-requires
data_from-requires c =
    let kept = sym c.length_ok.ensures ∙ c.if-not-length_ok.false in
    ap (list_length_ok (kind_number c.args.kind)) c.size.ensures ∙ kept

pub returns : goal.returns
returns c =
    let a = c.args in
    let kept = sym c.length_ok.ensures ∙ c.if-not-length_ok.false in
    let d = c.data_from.ensures in (
      d.0 ∙ ap (λ (x : ℕ). data_from a.block (kind_number a.kind) x a.s.now c.in_ok-number.number.next) c.size.ensures
          ∙ length_next a.s.now a.at _ _ c.in_ok-number.ensures a.block (kind_number a.kind) kept,
      d.1,
    )
