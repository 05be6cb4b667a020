-- `writer::write_checked` meets its contract. Assumes nothing.
use Rattle.format.specs.Kit.{◌≡◌, sym, ap, ◌∙◌, true, List, ℕ, length}
use Rattle.format.specs.Refusals.{Outcome}
use Rattle.format.specs.Editions.{Edition}
use Rattle.format.specs.Plan.{plan_ok, plan_edition}
use Rattle.format.specs.Writer.{write_as, write_reply, write_out}
use Rattle.laws.proofs.Plans.{planned_write}
use Rattle.values.specs.Edition.{edition_of}
use Rattle.writer.proofs.Written.{passed_few, plan_refused, plan_for, edition_is, refused_both}
use Rattle.writer.proofs.write_checked.Goals as goal
use Rattle.writer.proofs.write_checked.Goals.{After-edition_of_plan-edition}

pub returns-then-not-accepts : goal.returns-then-not-accepts
returns-then-not-accepts c =
    let a = c.args in
    let both = refused_both _ a.out.now
    (plan_refused a.power a.ids.now a.values.now c.requires a.table.now (length a.out.now)
    (sym c.accepts.ensures.0 ∙ c.if-not-accepts.true)) in
    record { replies = both.0; written = both.1 }

-- the plan is accepted, and its edition is the one that is written
taken : (c : After-edition_of_plan-edition) → let a = c.args in plan_ok a.table.now a.values.now ≡ true
taken c = sym c.accepts.ensures.0 ∙ c.if-not-accepts.false

edition : (c : After-edition_of_plan-edition) → edition_of c.edition_of_plan-edition.result ≡ plan_edition c.args.table.now
edition c = c.edition_of_plan-edition.ensures ∙ edition_is c.args.table.now

pub write_by-requires : goal.write_by-requires
write_by-requires c =
    let a = c.args in
    (c.requires, plan_for _ a.table.now a.values.now (edition (goal.at.write_by-requires c).After-edition_of_plan-edition) (taken (goal.at.write_by-requires c).After-edition_of_plan-edition) (c.accepts.ensures.1 c.if-not-accepts.false))

pub returns : goal.returns
returns c =
    let a = c.args in
    let room : ℕ = length a.out.now in
    let same =
    ap (λ (ed : Edition). write_as ed a.power a.ids.now a.values.now room) (edition (goal.at.returns c).After-edition_of_plan-edition)
    ∙ sym (planned_write a.power a.ids.now a.values.now a.table.now room (taken (goal.at.returns c).After-edition_of_plan-edition)) in
    record { replies = c.write_by.ensures.replies ∙ ap write_reply same; written = c.write_by.ensures.written ∙ ap (λ (o : Outcome (List ℕ)). write_out o a.out.now) same }

pub accepts-requires : goal.accepts-requires
accepts-requires c = passed_few c.args.power c.args.ids.now c.args.values.now c.requires
