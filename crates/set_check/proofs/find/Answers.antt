-- `set_check::find` meets its contract. Assumes nothing.
use Rattle.std.specs.Prelude.{Ok}
use Rattle.std.specs.Bool.{then_some}
use Rattle.std.specs.declared.option.Option as Op
use Rattle.format.specs.Kit.{◌≡◌, refl, sym, ap, ◌∙◌, Bool, true, false, cond, ℕ, leb-false, leb-true}
use Rattle.answers.proofs.PassedOn.{passed_on}
use Rattle.format.specs.Limits.{max_id}
use Rattle.format.specs.Refusals.{done}
use Rattle.answers.specs.Replies.{member_of}
use Rattle.format.specs.SetCalls.{member_at, no_member}
use Rattle.set_check.proofs.Calls.{find_refused, find_done, find_above}
use Rattle.set_check.proofs.find.Goals as goal

-- the code's option as the definition's member
found : (there : Bool) (below : ℕ) → member_of (Ok (then_some there below)) ≡ done (cond there (member_at below) no_member)
found true below = refl
found false below = refl

pub returns-then-not-id_ok : goal.returns-then-not-id_ok
returns-then-not-id_ok c =
    let a = c.args in
    find_above a.s.now a.id (leb-false a.id max_id (sym c.id_ok.ensures ∙ c.if-not-id_ok.true))

pub returns-in_err-t : goal.returns-in_err-t
returns-in_err-t c =
    let a = c.args in
    rw (passed_on c.from_residual.result _ c.from_residual.ensures.1) (find_refused a.s.now a.id _ c.in_err-t.ensures (leb-true _ max_id (sym c.id_ok.ensures ∙ c.if-not-id_ok.false)))

pub returns : goal.returns
returns c =
    let a = c.args in
    let t = c.in_ok-t.t in
    ap (λ (r : Op.Option ℕ). member_of (Ok r)) c.then_some.ensures
    ∙ found t.there t.below
    ∙ find_done a.s.now a.id _ c.in_ok-t.ensures (leb-true _ max_id (sym c.id_ok.ensures ∙ c.if-not-id_ok.false))
