-- `signalfern_c::signalfern_look_up_in_to` meets its contract. Assumes nothing.
use Rattle.laws.proofs.Words.{look_up_in_few}
use Rattle.signalfern_c.proofs.signalfern_look_up_in_to.Goals as goal

pub returns : goal.returns
returns c = record { answers = c.look_in.ensures; words = look_up_in_few _ _ _ }
