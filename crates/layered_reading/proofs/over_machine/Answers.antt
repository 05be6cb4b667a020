-- `layered_reading::over_machine` meets its contract. Assumes nothing.
use Rattle.format.specs.Kit.{◌≡◌, min, length, leb-true}
use Rattle.format.specs.Limits.{max_id}
use Rattle.format.specs.Refusals.{done}
use Rattle.format.specs.Editions.{editions}
use Rattle.format.specs.Opening.{open_column}
use Rattle.column.specs.Opened.{column_of}
use Rattle.column.proofs.Facts.{opened_as_lem, refused_as_lem}
use Rattle.lookup.proofs.Calls.{opened_fits}
use Rattle.layered_reading.specs.Buffers.{Kept}
use Rattle.layered_reading.proofs.Calling.{leaves_as, refused_leaves, read_both, open_below, steps_from}
use Rattle.layered_reading.proofs.over_machine.Goals as goal
use Rattle.layered_reading.proofs.over_machine.Goals.{In-Ok, Start}

-- the correction was opened
above : (s : Start) → Kept s.args.correction.now (column_of s.args.column)
above s = let f = opened_fits _ _ s.requires.0 in record { rules = f.0; whole = f.1 }

-- the machine column is
open_at : (c : In-Ok) → let a = c.args in open_column editions a.machine.now ≡ done (column_of c.in-Ok.below)
open_at c =
    let o = c.open in
    opened_as_lem _ o.result c.in-Ok.below o.ensures c.in-Ok.is

pub layered_steps-requires : goal.layered_steps-requires
layered_steps-requires c =
    let f = opened_fits _ _ (open_at (goal.at.layered_steps-requires c).In-Ok) in
    (record { rules = f.0; whole = f.1 }, above (goal.at.layered_steps-requires c).Start, leb-true _ max_id c.requires.1)

pub returns-in-Err : goal.returns-in-Err
returns-in-Err c =
    let a = c.args in
    let o = c.open in
    leaves_as _ _ c.below_refused.result a.ids.now _ a.values.now _ a.columns.now _
    (open_below editions a.machine.now a.correction.now a.from _ c.requires.1 (column_of a.column) c.requires.0 _ _
    (refused_as_lem a.machine.now o.result c.in-Err.why o.ensures c.in-Err.is))
    (refused_leaves _ c.below_refused.result a.ids.now a.values.now a.columns.now
    (c.below_refused.ensures (read_both a.machine.now a.correction.now a.from
    (min (length a.columns.now) (min (length a.ids.now) (length a.values.now))))))

pub returns-in-Ok : goal.returns-in-Ok
returns-in-Ok c =
    let a = c.args in
    let w = c.layered_steps in
    leaves_as _ _ w.result a.ids.now _ a.values.now _ a.columns.now _
    (steps_from editions a.machine.now a.correction.now a.from _ c.requires.1 (column_of a.column) c.requires.0 _ (open_at (goal.at.returns-in-Ok c).In-Ok)) w.ensures

pub below_refused-requires : goal.below_refused-requires
below_refused-requires c = (
  above (goal.at.below_refused-requires c).Start,
  leb-true _ max_id c.requires.1,
)
