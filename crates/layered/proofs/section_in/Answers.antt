-- `layered::section_in` meets its contract. Assumes nothing.
use Rattle.format.specs.Kit.{◌≡◌, sym, ap, ◌∙◌, arith}
use Rattle.format.specs.Refusals.{done}
use Rattle.format.specs.Editions.{editions}
use Rattle.format.specs.Opening.{open_column}
use Rattle.format.specs.Layered.{section_in}
use Rattle.laws.proofs.Open.{sound}
use Rattle.column.specs.Opened.{column_of}
use Rattle.column.proofs.Facts.{opened_as_lem, refused_as_lem}
use Rattle.layered.specs.Answers.{layer_of}
use Rattle.layered.proofs.section_in.Goals as goal
use Rattle.layered.proofs.section_in.Goals.{After-size-2}

open_at : (c : After-size-2) → open_column editions c.args.bytes.now ≡ done (column_of c.in-Ok.column)
open_at c = opened_as_lem c.args.bytes.now c.open.result c.in-Ok.column c.open.ensures c.in-Ok.is

pub returns-in_default : goal.returns-in_default
unfolding section_in
returns-in_default c =
    let o = c.open in
    let a = c.args in
    c.no_part.ensures ∙ sym (ap (section_in (layer_of a.layer)) (refused_as_lem a.bytes.now o.result c.in_default.field-0 o.ensures c.in_default.is))

pub overflow_add-result : goal.overflow_add-result
overflow_add-result c = omega (arith, (sound editions _ _ (open_at c)).whole)

pub returns : goal.returns
unfolding section_in
returns c = rw (open_at (goal.at.returns c).After-size-2, c.size-3.ensures, c.size-2.ensures, c.size.ensures)
