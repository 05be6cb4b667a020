-- `writer::write_as` meets its contract. Assumes nothing.
use Rattle.format.specs.Kit.{sym, ap, ◌∙◌, List, ℕ, length}
use Rattle.answers.proofs.PassedOn.{passed_on}
use Rattle.format.specs.Refusals.{Outcome}
use Rattle.format.specs.Editions.{Edition}
use Rattle.format.specs.Plan.{chosen}
use Rattle.format.specs.Writer.{write_as, write_reply, write_out}
use Rattle.values.specs.Edition.{edition_of}
use Rattle.writer.proofs.Written.{why_as, no_plan, chosen_all, refused_both}
use Rattle.writer.proofs.write_as.Goals as goal

pub returns-in_err-refusal_of : goal.returns-in_err-refusal_of
returns-in_err-refusal_of c =
    let a = c.args in
    let both = refused_both _ a.out.now
    (why_as a.power a.ids.now a.values.now (length a.out.now) _ c.in_err-refusal_of.ensures (chosen (edition_of a.edition) a.values.now)) in
    rw (passed_on c.from_residual.result _ c.from_residual.ensures.1) (record { replies = both.0; written = both.1 })

-- by the planner's plan
pub returns-then-by_plan : goal.returns-then-by_plan
returns-then-by_plan c =
    let a = c.args in
    let same =
    ap (λ (ed : Edition). write_as (chosen ed a.values.now) a.power a.ids.now a.values.now (length a.out.now))
    (sym (c.by_plan.ensures.0 c.if-by_plan.true)) in
    record { replies = c.write_own.ensures.replies ∙ ap write_reply same; written = c.write_own.ensures.written ∙ ap (λ (o : Outcome (List ℕ)). write_out o a.out.now) same }

pub write_by-requires : goal.write_by-requires
write_by-requires c =
    let a = c.args in
    (c.in_ok-refusal_of.ensures, no_plan (edition_of a.edition) _ a.values.now (c.by_plan.ensures.1 c.if-by_plan.false))

pub returns : goal.returns
returns c =
    let a = c.args in
    let same =
    ap (λ (ed : Edition). write_as ed a.power a.ids.now a.values.now (length a.out.now))
    (sym (chosen_all (edition_of a.edition) a.values.now (c.by_plan.ensures.1 c.if-by_plan.false))) in
    record { replies = c.write_by.ensures.replies ∙ ap write_reply same; written = c.write_by.ensures.written ∙ ap (λ (o : Outcome (List ℕ)). write_out o a.out.now) same }

pub write_own-requires : goal.write_own-requires
write_own-requires c = c.in_ok-refusal_of.ensures
