-- `pair_at::steps_at` meets its contract. Assumes nothing.
use Rattle.format.specs.Kit.{◌≡◌, sym, ap, ap₂, ◌∙◌, subst, ℕ, ◌+◌, ◌-◌, arith, eqb-true, ℤ, take, drop, List}
use mir.Facts.{to_z-of_z}
use mir.Syntax.{w64}
use Rattle.format.specs.Refusals.{Outcome, done}
use Rattle.format.specs.Next.{Candidate, candidate_at}
use Rattle.values.specs.Edition.{fetched_of}
use Rattle.column.specs.Opened.{column_of}
use Rattle.lookup.specs.Steps.{Fair}
use Rattle.lookup.proofs.Whole.{Parted, id_part_lem, id_length, value_fits}
use Rattle.next.specs.Blocks.{AskedOf}
use Rattle.next.proofs.Answers.{asked_of}
use Rattle.format.specs.PairAt.{place_with, pair_steps}
use Rattle.laws.proofs.PairAt.{no_pair_is}
use Rattle.pair_at.specs.Held.{pair_left, HeldIn}
use Rattle.pair_at.proofs.Answers.{no_place, no_value, a_pair}
use Rattle.pair_at.proofs.steps_at.Goals as goal
use Rattle.pair_at.proofs.steps_at.Goals.{After-ask_of-q, After-size, In-Some}

parted : (c : After-size) → let a = c.args in
    Parted a.bytes.now (column_of a.column) c.size-start.result c.size.result
parted c = record {
  starts = c.size-start.ensures;
  ids = c.size.ensures;
  whole = eqb-true _ _
      c.requires.1;
}

-- the id section
abbrev section : After-size → List ℕ
section c = let start = c.size-start.result in
    take (start + c.size.result - start) (drop start c.args.bytes.now)

asked : (c : After-ask_of-q) → AskedOf (column_of c.args.column) c.ask_of-q.result
asked c = asked_of (column_of c.args.column) 0 c.ask_of-q.result c.ask_of-q.ensures.0

pub held_in-requires : goal.held_in-requires
held_in-requires c = (
  subst (λ n. Fair n c.ask_of-q.result) (sym (id_length (parted (goal.at.held_in-requires c).After-size))) c.ask_of-q.ensures.1,
  omega
      (arith, c.if-head-ordinal.false, (asked c).count),
)

pub returns-in_default : goal.returns-in_default
returns-in_default c =
    let a = c.args in
    sym (c.in_default.ensures a.bytes.now (column_of a.column) (asked (goal.at.returns-in_default c).After-ask_of-q)
    (id_part_lem (parted (goal.at.returns-in_default c).After-size)))

-- the block
held : (c : In-Some) → HeldIn (section (goal.at.In-Some c).After-size) c.ask_of-q.result c.args.ordinal
    c.in-Some.number c.in-Some.block
held c = c.in-Some.ensures

left : (c : In-Some)
    → let a = c.args in
    let b = c.in-Some.block in
    pair_left a.bytes.now (column_of a.column) a.ordinal c.in-Some.number
    (place_with c.ask_of-q.result.power (section (goal.at.In-Some c).After-size) b.start b.count (a.ordinal - b.ordinal))
    ≡ pair_steps a.bytes.now (column_of a.column) a.ordinal
left c =
    let a = c.args in
    sym ((held c).steps_left a.bytes.now (column_of a.column) (asked (goal.at.In-Some c).After-ask_of-q) (id_part_lem (parted (goal.at.In-Some c).After-size)))

pub place_with-requires : goal.place_with-requires
place_with-requires c =
    let h = held (goal.at.place_with-requires c).In-Some in
    (c.ask_of-q.ensures.1.power, h.kind, h.data_end, omega (arith, h.from, h.below), h.many)

pub returns-in_default-place_with : goal.returns-in_default-place_with
returns-in_default-place_with c =
    let a = c.args in
    no_place a.bytes.now (column_of a.column) a.ordinal _ _ c.in_default-place_with.ensures ∙ left (goal.at.returns-in_default-place_with c).In-Some

pub returns-in_default-value_at : goal.returns-in_default-value_at
returns-in_default-value_at c =
    let a = c.args in
    no_value a.bytes.now (column_of a.column) a.ordinal _ _ _ c.in-Some-place_with.ensures.0
    (sym c.value_at.ensures ∙ ap fetched_of c.in_default-value_at.is) ∙ left (goal.at.returns-in_default-value_at c).In-Some

pub returns : goal.returns
returns c =
    let a = c.args in
    let col = column_of a.column in
    let v : ℤ = c.in-Some-value_at.value in
    let o = sym c.value_at.ensures ∙ ap fetched_of c.in-Some-value_at.is in
    ap₂ {C = Outcome Candidate} (λ (x : ℕ) (y : ℤ). done (candidate_at x a.ordinal y)) c.id_of.ensures
    (to_z-of_z {w = w64} {z = v} (record { sfits = value_fits a.bytes.now col a.ordinal v o }))
    ∙ a_pair a.bytes.now col a.ordinal _ _ _ c.in-Some-place_with.ensures.0 v o
    ∙ left (goal.at.returns c).In-Some

pub returns-then-head-ordinal : goal.returns-then-head-ordinal
returns-then-head-ordinal c = let a = c.args in sym (no_pair_is a.bytes.now (column_of a.column) a.ordinal c.if-head-ordinal.true)

pub overflow_add-end : goal.overflow_add-end
overflow_add-end c = omega (arith, (parted c).whole)

pub slice_bounds-s-count : goal.slice_bounds-s-count
slice_bounds-s-count c = omega (arith, (parted c).whole)

pub slice_bounds-s-start : goal.slice_bounds-s-start
slice_bounds-s-start c = omega (arith, (parted c).whole)

pub slice_bounds-s-end : goal.slice_bounds-s-end
slice_bounds-s-end c = omega (arith, (parted c).whole)

pub overflow_sub-ordinal : goal.overflow_sub-ordinal
overflow_sub-ordinal c = (held (goal.at.overflow_sub-ordinal c).In-Some).from

pub id_of-requires : goal.id_of-requires
id_of-requires c = ((held (goal.at.id_of-requires c).In-Some).number, c.in-Some-place_with.ensures.1)
