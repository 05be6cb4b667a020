use Rattle.format.specs.Kit.{◌≡◌, ◌-◌, length}
use Rattle.column.specs.Opened.{opened_of}
use Rattle.page.specs.Openings.{look_by}
use Rattle.layered_page.proofs.Parts.{Going}
use Rattle.layered_page.proofs.under.fill_under.Given as goal

-- `layered_page::under::fill_under` meets its contract. Assumes nothing.
abbrev pub invariant-loop-i : goal.invariant-loop-i
invariant-loop-i l =
    Going (look_by l.correction (opened_of l.top)) (look_by l.machine (opened_of l.bottom)) l.ids l.i l.initial.ordinals l.ordinals l.initial.values l.values l.initial.kinds l.kinds l.below l.above
    × (l.n ≡ length l.ids)

abbrev pub decreases-loop-i : goal.decreases-loop-i
decreases-loop-i l = l.n - l.i
