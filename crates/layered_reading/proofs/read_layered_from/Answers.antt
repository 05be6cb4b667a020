-- `layered_reading::read_layered_from` meets its contract. Assumes nothing.
use Rattle.format.specs.Kit.{◌≡◌, sym, ◌∙◌, true, leb}
use Rattle.format.specs.Limits.{max_id}
use Rattle.format.specs.Editions.{editions}
use Rattle.column.proofs.Facts.{opened_as_lem, refused_as_lem}
use Rattle.answers.specs.declared.Refusal as Re
use Rattle.layered.specs.declared.Layer as La
use Rattle.layered_reading.proofs.Calling.{refused_leaves, id_above, open_above}
use Rattle.layered_reading.proofs.read_layered_from.Goals as goal
use Rattle.layered_reading.proofs.read_layered_from.Goals.{Else-not-id_ok}
use Rattle.std.specs.Prelude.{Err}
use Rattle.layered.specs.Answers.{refused_in}

in_range : (c : Else-not-id_ok) → leb c.args.from max_id ≡ true
in_range c = sym c.id_ok.ensures ∙ c.if-not-id_ok.false

pub returns-then-not-id_ok : goal.returns-then-not-id_ok
returns-then-not-id_ok c =
    let a = c.args in
    refused_leaves _ (Err (refused_in La.Layer.Correction Re.Refusal.Id)) a.ids.now a.values.now a.columns.now
    (id_above editions a.machine.now a.correction.now a.from _ (sym c.id_ok.ensures ∙ c.if-not-id_ok.true))

pub over_machine-requires : goal.over_machine-requires
over_machine-requires c =
    let o = c.open in
    (opened_as_lem _ o.result c.in-Ok.column o.ensures c.in-Ok.is, in_range (goal.at.over_machine-requires c).Else-not-id_ok)

pub returns-in-Err : goal.returns-in-Err
returns-in-Err c =
    let a = c.args in
    let o = c.open in
    refused_leaves _ (Err (refused_in La.Layer.Correction c.in-Err.why)) a.ids.now a.values.now a.columns.now
    (open_above editions a.machine.now a.correction.now a.from _ (in_range (goal.at.returns-in-Err c).Else-not-id_ok) _ _
    (refused_as_lem a.correction.now o.result c.in-Err.why o.ensures c.in-Err.is))

pub returns-in-Ok : goal.returns-in-Ok
returns-in-Ok c = c.over_machine.ensures
