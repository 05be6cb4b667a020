-- `page::runs::plain_valued` meets its contract: the value section answers step 7. Assumes nothing.
use Rattle.format.specs.Kit.{◌≡◌, sym, ap, ◌∙◌, subst, true, ◌+◌, ◌-◌, length, take, drop, eqb-true}
use Rattle.std.proofs.Common.{to_z-of_z, w64}
use Rattle.format.specs.Refusals.{Outcome}
use Rattle.format.specs.Editions.{Edition, plain, codec}
use Rattle.format.specs.Opening.{value_of}
use Rattle.format.specs.LookUp.{Look}
use Rattle.format.specs.Page.{place_ordinal, place_value, place_kind, place_words}
use Rattle.laws.proofs.Rules.{head_facts}
use Rattle.values.specs.Edition.{edition_of, order_of, SlotOf, stored_value, slot_number, fetched_of}
use Rattle.column.specs.Opened.{column_of}
use Rattle.lookup.proofs.Whole.{Parted, value_length, value_read, value_fits, value_found, value_outside}
use Rattle.page.specs.Placed.{Holds}
use Rattle.page.proofs.runs.plain_valued.Goals as goal
use Rattle.page.proofs.runs.plain_valued.Goals.{After-size-2, After-value_of}

parted : (c : After-size-2) → let a = c.args in
    Parted a.bytes.now (column_of a.column) c.size.result c.size-2.result
parted c = record { starts = c.size.ensures; ids = c.size-2.ensures; whole = eqb-true _ _ c.requires.1 }

read : (c : After-value_of) → let a = c.args in
    fetched_of c.value_of.result ≡ value_of a.bytes.now (column_of a.column) a.ordinal
read c =
    let h = (column_of c.args.column).head in
    let l = take (length c.args.bytes.now - (c.size.result + c.size-2.result)) (drop (c.size.result + c.size-2.result) c.args.bytes.now) in
    let e : plain ≡ h.edition = sym (ap edition_of c.requires.3) in
    value_read (parted (goal.at.After-value_of c).After-size-2) c.args.ordinal c.slot_of-slot.result c.plain_in-stored.result c.value_of.result
    (subst (λ (x : Edition). SlotOf x h.count h.fields l c.args.ordinal c.slot_of-slot.result) e c.slot_of-slot.ensures)
    (subst (λ (x : Edition). c.plain_in-stored.result ≡ slot_number (order_of x) l c.slot_of-slot.result) e c.plain_in-stored.ensures)
    (subst (λ (x : Edition). fetched_of c.value_of.result ≡ stored_value x h.fields l c.slot_of-slot.result c.plain_in-stored.result) e c.value_of.ensures)

pub slot_of-slot-requires : goal.slot_of-slot-requires
slot_of-slot-requires c =
    let h = (column_of c.args.column).head in
    let at = c.size.result + c.size-2.result in
    let l = take (length c.args.bytes.now - at) (drop at c.args.bytes.now) in
    let f = head_facts h c.requires.0 in (
      f.count,
      subst (λ (x : Edition). (codec x).fields_ok h.count h.fields (length l) ≡ true) (ap edition_of c.requires.3)
          (ap ((codec h.edition).fields_ok h.count h.fields) (value_length (parted (goal.at.slot_of-slot-requires c).After-size-2)) ∙ f.fields),
      c.requires.2,
    )

pub returns-in_default : goal.returns-in_default
returns-in_default c =
    subst (λ (x : Outcome Look). Holds x c.refused.result) (sym (value_outside _ _ c.value_of.result (read (goal.at.returns-in_default c).After-value_of) c.in_default.is))
    c.refused.ensures

pub returns : goal.returns
unfolding place_ordinal place_value place_kind place_words
returns c =
    let a = c.args in
    let z = c.in-Some.value in
    let e = c.in-Some.is in
    let f = value_fits a.bytes.now (column_of a.column) a.ordinal z (sym (read (goal.at.returns c).After-value_of) ∙ ap fetched_of e) in
    let q = sym (value_found _ _ c.value_of.result (read (goal.at.returns c).After-value_of) z e) in
    record {
      ordinal = ap place_ordinal q;
      value = to_z-of_z {w = w64} {z = z} (record { sfits = f }) ∙ ap place_value q;
      kind = ap place_kind q;
      words = ap place_words q;
    }
