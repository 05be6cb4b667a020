-- `layered_reading::number_of` meets its contract. Assumes nothing.
use Rattle.format.specs.Kit.{sym, ap}
use Rattle.format.specs.Layered.{layer_number}
use Rattle.layered.specs.Answers.{layer_of}
use Rattle.layered.specs.declared.Layer.{Layer}
use Rattle.layered_reading.proofs.number_of.Goals as goal

pub returns-in-Machine : goal.returns-in-Machine
returns-in-Machine c = sym (ap (λ (l : Layer). layer_number (layer_of l)) c.in-Machine.is)

pub returns-in-Correction : goal.returns-in-Correction
returns-in-Correction c = sym (ap (λ (l : Layer). layer_number (layer_of l)) c.in-Correction.is)
