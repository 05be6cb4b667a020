use Rattle.layered_page.proofs.Gathered.{Gathering}
use Rattle.layered_page.proofs.under.gather.Given as goal

-- `layered_page::under::gather` meets its contract. Assumes nothing.
abbrev pub invariant-loop-i : goal.invariant-loop-i
invariant-loop-i l = Gathering l.kinds l.ids l.initial.batch l.initial.places l.i l.n l.batch l.places
