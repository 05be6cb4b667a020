-- `layered::layered_part` meets its contract. Assumes nothing.
use Rattle.format.specs.Kit.{ap, ◌∙◌}
use Rattle.std.specs.Prelude.{Ok}
use Rattle.layered.specs.declared.Layer as La
use Rattle.layered.proofs.Layering.{from_refused, from_absent, from_found}
use Rattle.layered.proofs.layered_part.Goals as goal

pub returns-in_default : goal.returns-in_default
returns-in_default c =
    let a = c.args in
    let l = c.look_up_layered in
    c.no_part.ensures ∙ from_refused a.machine.now a.correction.now a.id l.result l.ensures c.in_default.field-0 c.in_default.is

pub returns-in_default-look : goal.returns-in_default-look
returns-in_default-look c =
    let a = c.args in
    let l = c.look_up_layered in
    c.no_part-in_default-look.ensures ∙ from_absent a.machine.now a.correction.now a.id l.result l.ensures c.in-Ok.look c.in-Ok.is c.in_default-look.not-Found

pub returns-in-Machine : goal.returns-in-Machine
returns-in-Machine c =
    let a = c.args in
    let l = c.look_up_layered in
    c.section_in.ensures
    ∙ from_found a.machine.now a.correction.now a.id l.result l.ensures _ _ _ _ _ (c.in-Ok.is ∙ ap Ok c.in-Found.is) La.Layer.Machine c.in-Machine.is

pub returns-in-Correction : goal.returns-in-Correction
returns-in-Correction c =
    let a = c.args in
    let l = c.look_up_layered in
    c.section_in-in-Correction.ensures
    ∙ from_found a.machine.now a.correction.now a.id l.result l.ensures _ _ _ _ _ (c.in-Ok.is ∙ ap Ok c.in-Found.is) La.Layer.Correction c.in-Correction.is
