-- `signalfern_c::layers::signalfern_read_layered_from_in_to` meets its contract. Assumes nothing.
use Rattle.format.specs.Kit.{ap, ap₂, ◌∙◌, length, min}
use Rattle.format.specs.Opening.{Opened}
use Rattle.format.specs.LayeredReading.{LayeredRead, read_layered_in, layered_read_reply, layered_read_after}
use Rattle.format.specs.LayeredReading.{pair_id, pair_value, pair_column}
use Rattle.answers.specs.Words.{layered_readout_words}
use Rattle.signalfern_c.proofs.layers.signalfern_read_layered_from_in_to.Goals as goal

pub returns : goal.returns
returns c =
    let w = c.read_layered_from_in-told in
    let a = c.args in
    let room = min (length a.columns.now) (min (length a.ids.now) (length a.values.now)) in
    let e = ap₂ (λ (x y : Opened). read_layered_in a.machine.now x a.correction.now y a.id room) c.column_in-below.ensures
    c.column_in-top.ensures in record { replies = c.put_layered_readout.ensures ∙ ap layered_readout_words w.ensures.replies ∙ ap (λ (o : LayeredRead). layered_readout_words (layered_read_reply o)) e; ids_placed = w.ensures.ids_placed ∙ ap (λ (o : LayeredRead). layered_read_after pair_id o a.ids.now) e; values_placed = w.ensures.values_placed ∙ ap (λ (o : LayeredRead). layered_read_after pair_value o a.values.now) e; columns_placed = w.ensures.columns_placed ∙ ap (λ (o : LayeredRead). layered_read_after pair_column o a.columns.now) e }
