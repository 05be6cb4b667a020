use Rattle.format.specs.Kit.{take}
use Rattle.layered_page.proofs.Marked.{Marking}
use Rattle.layered_page.proofs.mark.Given as goal

-- `layered_page::mark` meets its contract. Assumes nothing.
abbrev pub invariant-loop-i : goal.invariant-loop-i
invariant-loop-i l = Marking (take l.n l.kinds) l.initial.columns l.columns l.some l.i
