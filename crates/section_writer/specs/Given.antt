-- What the iterator over the runs of ids gives. Assumes nothing.
use Rattle.std.specs.Prelude.{◌≡◌, Option, None, Some}
use Rattle.std.specs.Borrow.{Bor}
use Rattle.format.specs.Kit.{List, ℕ, length}
use Rattle.section_writer.specs.Good.{Begins}

-- the first run of the ids that are left, or none where none is left
abbrev pub GivesRun : List ℕ → Option (Bor (List ℕ)) → List ℕ → Type 0
GivesRun ids None left = (length ids ≡ 0) × (length left ≡ 0)
GivesRun ids (Some run) left = Begins ids run.now left
