use Rattle.format.specs.Kit.{◌+◌, ◌-◌}
use Rattle.format.specs.Stores.{Fill}
use Rattle.format.specs.Editions.{codec}
use Rattle.values.specs.Edition.{edition_of, fields_of}
use Rattle.format.specs.Drawn.{drawn}
use Rattle.values.proofs.draw_each.Given as goal

-- `values::draw_each` meets its contract. Invariant: what is left are the values from ordinal o on. Assumes nothing.
abbrev pub invariant-loop-i : goal.invariant-loop-i
invariant-loop-i l =
    Fill l.initial.values l.from (drawn ((codec (edition_of l.edition)).value l.n (fields_of l.fields) l.section) (l.end - l.from) l.x) l.values l.i
    (drawn ((codec (edition_of l.edition)).value l.n (fields_of l.fields) l.section) (l.end - l.i) (l.x + (l.i - l.from)))
