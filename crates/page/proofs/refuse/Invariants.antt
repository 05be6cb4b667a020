use Rattle.format.specs.Kit.{List, ℕ}
use Rattle.answers.specs.Replies.{refused_as}
use Rattle.page.specs.Openings.{look_by}
use Rattle.page.specs.Parts.{three, Kept}
use Rattle.page.proofs.Pages.{Going}
use Rattle.page.proofs.refuse.Given as goal

-- `page::refuse` meets its contract. Assumes nothing.
abbrev pub invariant-loop-i : goal.invariant-loop-i
invariant-loop-i l =
    Kept (three l.initial.ordinals l.initial.values l.initial.kinds) (three l.ordinals l.values l.kinds)
    × ((bytes : List ℕ) → Going (look_by bytes (refused_as l.why)) l.ids l.i (three l.initial.ordinals l.initial.values l.initial.kinds) (three l.ordinals l.values l.kinds) l.words)
