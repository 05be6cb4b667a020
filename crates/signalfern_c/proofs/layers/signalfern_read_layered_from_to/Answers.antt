-- `signalfern_c::layers::signalfern_read_layered_from_to` meets its contract. Assumes nothing.
use Rattle.format.specs.Kit.{ap, ◌∙◌}
use Rattle.answers.specs.Words.{layered_readout_words}
use Rattle.signalfern_c.proofs.layers.signalfern_read_layered_from_to.Goals as goal

pub returns : goal.returns
returns c = let w = c.read_layered_from-told in record {
  replies = c.put_layered_readout.ensures ∙ ap
      layered_readout_words w.ensures.replies;
  ids_placed = w.ensures.ids_placed;
  values_placed = w.ensures.values_placed;
  columns_placed = w.ensures.columns_placed;
}
