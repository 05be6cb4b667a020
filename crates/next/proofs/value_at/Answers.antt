-- `next::value_at` meets its contract: the value section answers step 7. Assumes nothing.
use Rattle.format.specs.Kit.{ap, ◌∙◌, eqb-true}
use Rattle.format.specs.Editions.{codec}
use Rattle.laws.proofs.Rules.{head_facts}
use Rattle.column.specs.Opened.{column_of}
use Rattle.lookup.proofs.Whole.{Parted, value_length, value_read}
use Rattle.next.proofs.value_at.Goals as goal
use Rattle.next.proofs.value_at.Goals.{After-size-2}

parted : (c : After-size-2) → let a = c.args in
    Parted a.bytes.now (column_of a.column) c.size.result c.size-2.result
parted c = record { starts = c.size.ensures; ids = c.size-2.ensures; whole = eqb-true _ _ c.requires.1 }

pub slot_of-slot-requires : goal.slot_of-slot-requires
slot_of-slot-requires c =
    let h = (column_of c.args.column).head in
    let f = head_facts h c.requires.0 in
    (f.count, ap ((codec h.edition).fields_ok h.count h.fields) (value_length (parted (goal.at.slot_of-slot-requires c).After-size-2)) ∙ f.fields, c.requires.2)

pub returns : goal.returns
returns c =
    value_read (parted (goal.at.returns c).After-size-2) c.args.ordinal c.slot_of-slot.result c.number_in-stored.result c.value_of.result
    c.slot_of-slot.ensures c.number_in-stored.ensures c.value_of.ensures
