-- `demands::layered_pages::open_then_look_up_layered_page` meets its contract. Assumes nothing.
use Rattle.format.specs.Kit.{sym, ap, ◌∙◌, List, length}
use Rattle.format.specs.Refusals.{Outcome}
use Rattle.format.specs.Editions.{editions}
use Rattle.format.specs.Layered.{LayeredLook}
use Rattle.format.specs.LayeredPage.{layered_reply, layered_after, layered_ordinal, layered_value, layered_kind, layered_column}
use Rattle.laws.proofs.LayeredPages.{opened_page}
use Rattle.demands.proofs.Lists.{not_refused}
use Rattle.demands.proofs.LayeredPages.{layered_page_answers}
use Rattle.demands.proofs.layered_pages.open_then_look_up_layered_page.Goals as goal

pub returns-in_err-lower : goal.returns-in_err-lower
returns-in_err-lower c =
    λ ro rv rk rc i j x y. not_refused c.args.machine.now c.in_err-lower.ensures i x

pub returns-in_err-upper : goal.returns-in_err-upper
returns-in_err-upper c =
    λ ro rv rk rc i j x y. not_refused c.args.correction.now c.in_err-upper.ensures j y

pub returns : goal.returns
returns c =
    let a = c.args in
    let m = a.machine.now in
    let t = a.correction.now in
    let e = c.look_up_layered_page_in.ensures in
    let same =
    opened_page editions m _ t _ (sym c.in_ok-lower.ensures) (sym c.in_ok-upper.ensures) a.ids.now
    (length a.ordinals.now) (length a.values.now) (length a.kinds.now) (length a.columns.now) in
    layered_page_answers m t a.ids.now a.ordinals.now _ a.values.now _ a.kinds.now _ a.columns.now _
    c.look_up_layered_page_in.result (e.replies ∙ ap layered_reply same)
    (e.ordinals_placed ∙ ap (λ (o : Outcome (List LayeredLook)). layered_after layered_ordinal o a.ordinals.now) same)
    (e.values_placed ∙ ap (λ (o : Outcome (List LayeredLook)). layered_after layered_value o a.values.now) same)
    (e.kinds_placed ∙ ap (λ (o : Outcome (List LayeredLook)). layered_after layered_kind o a.kinds.now) same)
    (e.columns_placed ∙ ap (λ (o : Outcome (List LayeredLook)). layered_after layered_column o a.columns.now) same)
