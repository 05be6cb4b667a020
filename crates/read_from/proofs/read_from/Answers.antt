-- `read_from::read_from` meets its contract. Assumes nothing.
use Rattle.format.specs.Kit.{◌≡◌, sym, ◌∙◌, true, leb, leb-true}
use Rattle.format.specs.Limits.{max_id}
use Rattle.format.specs.Editions.{editions}
use Rattle.answers.specs.declared.Refusal as Re
use Rattle.answers.proofs.PassedOn.{passed_on}
use Rattle.lookup.proofs.Calls.{opened_fits}
use Rattle.laws.proofs.ReadCalls.{id_above, not_opened, opened}
use Rattle.read_from.proofs.Replies.{leaves_as, refusal_leaves}
use Rattle.read_from.proofs.read_from.Goals as goal
use Rattle.read_from.proofs.read_from.Goals.{Else-not-id_ok}

in_range : (c : Else-not-id_ok) → leb c.args.from max_id ≡ true
in_range c = sym c.id_ok.ensures ∙ c.if-not-id_ok.false

pub returns-then-not-id_ok : goal.returns-then-not-id_ok
returns-then-not-id_ok c =
    let a = c.args in
    refusal_leaves _ Re.Refusal.Id a.ids.now a.values.now (id_above editions a.bytes.now a.from _ (sym c.id_ok.ensures
    ∙ c.if-not-id_ok.true))

pub read_steps-requires : goal.read_steps-requires
read_steps-requires c =
    let f = opened_fits _ _ (sym c.in_ok-column.ensures) in
    (f.0, f.1, leb-true _ max_id (in_range (goal.at.read_steps-requires c).Else-not-id_ok))

pub returns-in_err-column : goal.returns-in_err-column
returns-in_err-column c =
    let a = c.args in
    let e = passed_on c.from_residual.result _ c.from_residual.ensures.1 in
    rw e (refusal_leaves _ _ a.ids.now a.values.now
    (not_opened editions a.bytes.now a.from _ (in_range (goal.at.returns-in_err-column c).Else-not-id_ok) _ _
    (sym c.in_err-column.ensures)))

pub returns : goal.returns
returns c =
    let a = c.args in
    let w = c.read_steps in
    leaves_as _ _ w.result a.ids.now _ a.values.now _
    (opened editions a.bytes.now a.from _ (in_range (goal.at.returns c).Else-not-id_ok) _
    (sym c.in_ok-column.ensures)) w.ensures
