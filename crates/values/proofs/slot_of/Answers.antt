-- `values::slot_of` meets its contract. Assumes nothing.
use Rattle.format.specs.Kit.{◌≡◌, ⊎_elim, sym, ap, subst, true, ◌^◌, ◌<◌, length}
use Rattle.format.specs.Editions.{Edition, plain, lucene, runs, codec}
use Rattle.answers.specs.Replies.{fields_of}
use Rattle.run_values.proofs.Reached.{Rules, rules_kept}
use Rattle.scaled_values.specs.Slots.{whole_slot}
use Rattle.values.specs.Edition.{edition_of, SlotOf}
use Rattle.values.proofs.Slots.{Whole, plain_whole, lucene_whole, slot_whole, slot_in_runs, table_rules, slot_by_table}
use Rattle.values.proofs.slot_of.Goals as goal
use Rattle.values.proofs.slot_of.Goals.{In-Runs, Start}
use Rattle.std.specs.declared.option.Option as Op
use Rattle.scaled_values.specs.declared.slots.Slot.{Slot}

-- one smallest value and width
whole : (s : Start) (ed : Edition) (r : Op.Option Slot) → edition_of s.args.edition ≡ ed → Whole ed → let a = s.args in
    (r ≡ whole_slot a.fields.width a.fields.smallest a.i) × (a.fields.smallest < 2 ^ 64)
    → SlotOf (edition_of a.edition) a.n (fields_of a.fields) a.section.now a.i r
whole s ed r e w z =
    let a = s.args in
    slot_whole (edition_of a.edition) a.n (fields_of a.fields) a.section.now a.i r (subst (λ (d : Edition). Whole d) (sym e) w) s.requires.0
    z.1 s.requires.1 s.requires.2 z.0

-- runs
in_runs_is : (c : In-Runs) → edition_of c.args.edition ≡ runs
in_runs_is c = ap edition_of c.in-Runs.is

the_rules : (c : In-Runs) → let a = c.args in Rules a.n (fields_of a.fields) (length a.section.now)
the_rules c =
    let a = c.args in
    rules_kept _ _ _ (subst (λ (d : Edition). (codec d).fields_ok a.n (fields_of a.fields) (length a.section.now) ≡ true) (in_runs_is c) c.requires.1)

pub returns-in-Runs : goal.returns-in-Runs
returns-in-Runs c =
    let a = c.args in
    slot_in_runs (edition_of a.edition) a.n (fields_of a.fields) a.section.now a.i c.slot_at.result (in_runs_is (goal.at.returns-in-Runs c).In-Runs) c.requires.1
    c.slot_at.ensures

pub returns-in-Table : goal.returns-in-Table
returns-in-Table c =
    let a = c.args in
    slot_by_table (edition_of a.edition) a.n (fields_of a.fields) a.section.now a.i c.slot_at-in-Table.result
    (ap edition_of c.in-Table.is) c.requires.0 c.requires.1 c.requires.2 c.slot_at-in-Table.ensures

pub slot_at-requires : goal.slot_at-requires
slot_at-requires c = ((the_rules c).directory, c.requires.2)

pub slot_at-requires-in-Table : goal.slot_at-requires-in-Table
slot_at-requires-in-Table c = let a = c.args in
    (table_rules (edition_of a.edition) (ap edition_of c.in-Table.is) a.n (fields_of a.fields) (length a.section.now) c.requires.1).most

pub returns-in-Plain : goal.returns-in-Plain
returns-in-Plain c =
    let s = (goal.at.returns-in-Plain c).Start in
    ⊎_elim (λ e. whole s plain _ (ap edition_of e) plain_whole c.whole.ensures) (λ e. whole s lucene _ (ap edition_of e) lucene_whole c.whole.ensures)
    c.in-Plain.is
