-- `signalfern_c::pairs::signalfern_read_from_to` meets its contract. Assumes nothing.
use Rattle.format.specs.Kit.{ap, ◌∙◌}
use Rattle.answers.specs.Words.{readout_words}
use Rattle.signalfern_c.proofs.pairs.signalfern_read_from_to.Goals as goal

pub returns : goal.returns
returns c = let w = c.read_from-told in record { replies = c.put_readout.ensures ∙ ap readout_words w.ensures.replies; ids_placed = w.ensures.ids_placed; values_placed = w.ensures.values_placed }
