use Rattle.format.specs.Kit.{ℕ, ◌%◌, ◌≤◌, ◌<◌, get_or}
use Rattle.format.specs.Refusals.{done}
use Rattle.column.specs.Opened.{column_of}
use Rattle.page.specs.Openings.{look_by}
use Rattle.page.specs.Parts.{three, Filled}
use Rattle.page.specs.Runs.{ReadyIn}
use Rattle.page.proofs.fill_run.Given as goal

-- `page::fill_run` meets its contract. Assumes nothing.
abbrev pub invariant-loop-i : goal.invariant-loop-i
invariant-loop-i l =
    Filled (look_by l.bytes (done (column_of l.column))) l.ids l.from l.i (three l.initial.ordinals l.initial.values l.initial.kinds) (three l.ordinals l.values l.kinds) l.counted l.words
    × ((m : ℕ) → l.i ≤ m → m < l.e → ReadyIn l.bytes (column_of l.column) l.block l.entry (get_or l.ids m 0 % 65536))
