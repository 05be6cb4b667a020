use Rattle.format.specs.Kit.{◌-◌, length}
use Rattle.format.specs.Refusals.{done}
use Rattle.column.specs.Opened.{column_of}
use Rattle.page.specs.Openings.{look_by}
use Rattle.page.specs.Parts.{three}
use Rattle.page.proofs.Pages.{Going}
use Rattle.page.proofs.fill.Given as goal

-- `page::fill` meets its contract. Assumes nothing.
abbrev pub invariant-loop-i : goal.invariant-loop-i
invariant-loop-i l =
    Going (look_by l.bytes (done (column_of l.column))) l.ids l.i (three l.initial.ordinals l.initial.values l.initial.kinds) (three l.ordinals l.values l.kinds) l.words

abbrev pub decreases-loop-i : goal.decreases-loop-i
decreases-loop-i l = length l.ids - l.i
