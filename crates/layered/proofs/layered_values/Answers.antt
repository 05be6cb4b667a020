-- `layered::layered_values` meets its contract. Assumes nothing.
use Rattle.format.specs.Kit.{refl, arith}
use Rattle.layered.specs.Answers.{layer_of}
use Rattle.layered.specs.declared.Layer as La
use Rattle.layered.proofs.Layering.{fits, length_most}
use Rattle.layered.proofs.layered_values.Goals as goal

pub overflow_add-end : goal.overflow_add-end
overflow_add-end c =
    let a = c.args in
    let p = c.layered_part-part in
    omega (
      arith,
      fits a.machine.now a.correction.now a.id p.result p.ensures p.result.layer refl,
      length_most a.machine.now a.correction.now (layer_of p.result.layer),
    )

pub slice_bounds-result-end : goal.slice_bounds-result-end
slice_bounds-result-end c =
    let a = c.args in
    let p = c.layered_part-part in
    fits a.machine.now a.correction.now a.id p.result p.ensures La.Layer.Machine c.in-Machine.is

pub slice_bounds-result-end-in-Correction : goal.slice_bounds-result-end-in-Correction
slice_bounds-result-end-in-Correction c =
    let a = c.args in
    let p = c.layered_part-part in
    fits a.machine.now a.correction.now a.id p.result p.ensures La.Layer.Correction c.in-Correction.is
