-- `page::unopened` meets its contract. Assumes nothing.
use Rattle.format.specs.Kit.{sym, ◌∙◌, subst}
use Rattle.format.specs.Refusals.{Outcome}
use Rattle.format.specs.LookUp.{Look}
use Rattle.page.specs.Placed.{Holds}
use Rattle.page.proofs.Openings.{above_by, refused_by_lem}
use Rattle.page.proofs.unopened.Goals as goal

pub returns-then-id_ok : goal.returns-then-id_ok
returns-then-id_ok c bytes =
    let a = c.args in
    subst (λ (x : Outcome Look). Holds x c.refused.result)
    (sym (refused_by_lem bytes a.id (sym c.id_ok.ensures ∙ c.if-id_ok.true) a.why)) c.refused.ensures

pub returns : goal.returns
returns c bytes =
    subst (λ (x : Outcome Look). Holds x c.refused-2.result)
    (sym (above_by bytes c.args.id _ (sym c.id_ok.ensures ∙ c.if-id_ok.false))) c.refused-2.ensures
