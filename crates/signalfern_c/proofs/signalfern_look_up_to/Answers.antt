-- `signalfern_c::signalfern_look_up_to` meets its contract. Assumes nothing.
use Rattle.format.specs.Editions.{editions}
use Rattle.laws.proofs.Words.{look_up_few}
use Rattle.signalfern_c.proofs.signalfern_look_up_to.Goals as goal

pub returns : goal.returns
returns c = record { answers = c.look_from.ensures; words = λ z g. look_up_few editions _ z _ g }
