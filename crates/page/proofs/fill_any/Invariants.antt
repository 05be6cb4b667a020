use Rattle.format.specs.Kit.{◌≤◌}
use Rattle.format.specs.Refusals.{done}
use Rattle.column.specs.Opened.{column_of}
use Rattle.page.specs.Openings.{look_by}
use Rattle.page.specs.Parts.{three, Filled}
use Rattle.page.proofs.Slots.{Known}
use Rattle.page.proofs.fill_any.Given as goal

-- `page::fill_any` meets its contract. Assumes nothing.
abbrev pub invariant-loop-i : goal.invariant-loop-i
invariant-loop-i l =
    Filled (look_by l.bytes (done (column_of l.column))) l.ids l.from l.i (three l.initial.ordinals l.initial.values l.initial.kinds) (three l.ordinals l.values l.kinds) l.counted l.words
    × Known l.bytes (column_of l.column) l.numbers l.steps × (l.anew ≤ l.i)
