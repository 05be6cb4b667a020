-- `read_in_block::draw` meets its contract: the value section's values are the column's. Assumes nothing.
use Rattle.format.specs.Kit.{ap, ◌∙◌, List, ℕ, ◌+◌, ◌-◌, ℤ, eqb-true, length, sets}
use Rattle.format.specs.Editions.{codec}
use Rattle.format.specs.Opening.{value_in, value_of}
use Rattle.laws.proofs.Rules.{head_facts}
use Rattle.column.specs.Opened.{column_of}
use Rattle.lookup.proofs.Whole.{Parted, value_length, value_part_lem}
use Rattle.format.specs.Drawn.{drawn}
use Rattle.read_in_block.proofs.draw.Goals as goal
use Rattle.read_in_block.proofs.draw.Goals.{After-size-2}

parted : (c : After-size-2) → let a = c.args in
    Parted a.bytes.now (column_of a.column) c.size.result c.size-2.result
parted c = record { starts = c.size.ensures; ids = c.size-2.ensures; whole = eqb-true _ _ c.requires.1 }

pub draw-requires : goal.draw-requires
draw-requires c =
    let h = (column_of c.args.column).head in
    let f = head_facts h c.requires.0 in (
      f.count,
      ap ((codec h.edition).fields_ok h.count h.fields) (value_length (parted (goal.at.draw-requires c).After-size-2)) ∙ f.fields,
      c.requires.2,
      c.requires.3,
      c.requires.4,
    )

pub returns : goal.returns
unfolding value_of value_in
returns c =
    let a = c.args in
    let h = (column_of a.column).head in
    let g : List ℕ → List ℤ = λ l. drawn ((codec h.edition).value h.count h.fields l) (a.end - a.from) a.x in
    let e = ap g (value_part_lem (parted (goal.at.returns c).After-size-2)) in
    (c.draw.ensures.0 ∙ ap (λ (l : List ℤ). a.from + length l) e, c.draw.ensures.1 ∙ ap (sets a.values.now a.from) e)
