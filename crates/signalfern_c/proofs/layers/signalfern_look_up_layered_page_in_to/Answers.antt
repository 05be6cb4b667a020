-- `signalfern_c::layers::signalfern_look_up_layered_page_in_to` meets its contract. Assumes nothing.
use Rattle.format.specs.Kit.{ap, ap₂, ◌∙◌, List, length}
use Rattle.format.specs.Refusals.{Outcome}
use Rattle.format.specs.Opening.{Opened}
use Rattle.format.specs.Layered.{LayeredLook}
use Rattle.format.specs.LayeredPage.{layered_page_in, layered_reply, layered_after, layered_ordinal, layered_value, layered_kind, layered_column}
use Rattle.answers.specs.Words.{layered_page_words}
use Rattle.signalfern_c.proofs.layers.signalfern_look_up_layered_page_in_to.Goals as goal

pub returns : goal.returns
returns c =
    let a = c.args in
    let p = c.look_up_layered_page_in-told.ensures in
    let e = ap₂ (λ (x y : Opened).
    layered_page_in a.machine.now x a.correction.now y a.ids.now (length a.ordinals.now) (length a.values.now) (length a.kinds.now)
    (length a.columns.now)) c.column_in-below.ensures
    c.column_in-top.ensures in record {
      replies = c.put_layered_page.ensures ∙ ap (layered_page_words _) p.replies
          ∙ ap (λ (o : Outcome (List LayeredLook)). layered_page_words (length a.ids.now) (layered_reply o)) e;
      ordinals_placed = p.ordinals_placed ∙ ap (λ (o : Outcome (List LayeredLook)). layered_after layered_ordinal o a.ordinals.now) e;
      values_placed = p.values_placed ∙ ap (λ (o : Outcome (List LayeredLook)). layered_after layered_value o a.values.now) e;
      kinds_placed = p.kinds_placed ∙ ap (λ (o : Outcome (List LayeredLook)). layered_after layered_kind o a.kinds.now) e;
      columns_placed = p.columns_placed ∙ ap (λ (o : Outcome (List LayeredLook)). layered_after layered_column o a.columns.now) e;
    }
