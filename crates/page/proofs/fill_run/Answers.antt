-- `page::fill_run` meets its contract. Assumes nothing.
use Rattle.format.specs.Kit.{◌≡◌, subst, ℕ, ◌%◌, ◌^◌, ◌<◌, arith, length, get_or}
use Rattle.format.specs.Refusals.{done}
use Rattle.column.specs.Opened.{column_of}
use Rattle.page.specs.Openings.{look_by}
use Rattle.page.specs.Parts.{three, Filled}
use Rattle.page.specs.Runs.{Way}
use Rattle.page.proofs.Parts.{fills_none, fills_on}
use Rattle.page.proofs.InTurn.{way_for, ready_later}
use Rattle.page.proofs.fill_run.Goals as goal
use Rattle.page.proofs.fill_run.Goals.{In-loop-i, Start}

small : (s : Start) → s.args.counted < 2 ^ 64
small s = omega arith

pub loop-i-init : goal.loop-i-init
loop-i-init c =
    (fills_none _ _ _ _ _ (small (goal.at.loop-i-init c).Start), λ m a b k. (omega arith, λ q x. absurd (omega arith)))

-- there is room for the id, and it is of the run's block
room : (c : In-loop-i) → let l = c.loop-i in (l.i < length l.ordinals) × (l.i < length l.values) × (l.i < length l.kinds)
room c =
    let k = c.loop-i.invariant.0.within.kept in
    let r = c.requires.3 in (
      omega (arith, r.ordinals_long, k.in_ordinals),
      omega (arith, r.values_long, k.in_values),
      omega (arith, r.kinds_long, k.in_kinds),
    )

way : (c : In-loop-i) → let l = c.loop-i in
    let a = c.args in
    Way a.bytes.now a.column (get_or a.ids.now l.i 0) a.block
way c =
    let l = c.loop-i in
    way_for c.requires.5 (get_or c.args.ids.now l.i 0) (c.requires.4 c.args.from l.i (omega arith) (omega arith) (omega arith)).1

pub next_entry-entry-requires : goal.next_entry-entry-requires
next_entry-entry-requires c =
    let l = c.loop-i in
    (c.requires.0, way (goal.at.next_entry-entry-requires c).In-loop-i, l.invariant.1 l.i (omega arith) (omega arith))

pub held_next-held-requires : goal.held_next-held-requires
held_next-held-requires c =
    (c.requires.0, way (goal.at.held_next-held-requires c).In-loop-i, c.next_entry-entry.ensures)

pub loop-i-preserved : goal.loop-i-preserved
loop-i-preserved c =
    let l = c.loop-i in
    let v = l.invariant in (
      fills_on v.0 (omega arith) (room (goal.at.loop-i-preserved c).In-loop-i) c.held_next-held.ensures c.put.ensures c.wrapping_add_u64-words.ensures.value,
      λ m a b.
          let o = c.requires.4 l.i m (omega arith) (omega arith) b in
          ready_later c.args.bytes.now (column_of c.args.column) c.args.block c.next_entry-entry.result _ c.next_entry-entry.ensures (get_or c.args.ids.now m 0 % 65536) (omega (arith, o.0, o.1)),
    )

pub returns : goal.returns
returns c =
    let l = c.loop-i in
    let a = c.args in
    let z : l.i ≡ a.e = omega arith in
    subst (λ (x : ℕ). Filled (look_by a.bytes.now (done (column_of a.column))) a.ids.now a.from x (three a.ordinals.now a.values.now a.kinds.now)
    (three l.ordinals l.values l.kinds) a.counted l.words) z l.invariant.0
