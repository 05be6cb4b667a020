use Rattle.layered_page.proofs.Gathered.{Putting}
use Rattle.layered_page.proofs.under.scatter.Given as goal

-- `layered_page::under::scatter` meets its contract. Assumes nothing.
abbrev pub invariant-loop-i : goal.invariant-loop-i
invariant-loop-i l =
    Putting l.places l.below_ordinals l.initial.ordinals l.i l.ordinals × Putting l.places l.below_values l.initial.values l.i l.values × Putting l.places l.below_kinds l.initial.kinds l.i l.kinds
