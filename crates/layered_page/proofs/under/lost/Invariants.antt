use Rattle.column.specs.Opened.{opened_of}
use Rattle.page.specs.Openings.{look_by}
use Rattle.layered_page.proofs.Lost.{Losing}
use Rattle.layered_page.proofs.under.lost.Given as goal

-- `layered_page::under::lost` meets its contract. Assumes nothing.
abbrev pub invariant-loop-i : goal.invariant-loop-i
invariant-loop-i l = Losing (look_by l.bytes (opened_of l.opening)) l.kinds l.ids l.i l.words
