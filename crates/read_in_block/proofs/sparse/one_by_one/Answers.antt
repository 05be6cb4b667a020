-- `read_in_block::sparse::one_by_one` meets its contract. Invariant: the part up to place r, and the entries before j are below it. Assumes nothing.
use Rattle.format.specs.Kit.{◌≡◌, refl, sym, ap, ◌∙◌, inl, inr, List, ℕ, ◌+◌, ◌-◌, ◌*◌, ◌≤◌, ◌<◌, arith, length, take, drop, set, eqb-true}
use mir.Facts.{to_z-of_z}
use mir.Syntax.{w64}
use Rattle.laws.proofs.Cases.{false_true}
use Rattle.values.specs.Edition.{fetched_of}
use Rattle.column.specs.Opened.{column_of}
use Rattle.lookup.proofs.Whole.{Parted, id_part_lem, value_fits}
use Rattle.next_in_block.specs.First.{entry_in}
use Rattle.read_in_block.proofs.Parts.{passes, then}
use Rattle.read_in_block.proofs.Entries.{raised, sparse_data, sparse_end}
use Rattle.read_in_block.proofs.Entry.{entry_taken, entry_fails}
use Rattle.read_in_block.proofs.Left.{sparse_left}
use Rattle.read_in_block.proofs.sparse.one_by_one.Goals as goal
use Rattle.read_in_block.proofs.sparse.one_by_one.Goals.{After-id_of-id, After-size, After-size-e, After-value_at}

parted : (c : After-size)
    → Parted c.args.bytes.now (column_of c.args.column) c.size-start.result c.size.result
parted c = record { starts = c.size-start.ensures; ids = c.size.ensures; whole = eqb-true _ _ c.requires.0.whole }

-- the id section
abbrev section : After-size → List ℕ
section c = let at = c.size-start.result in take (at + c.size.result - at) (drop at c.args.bytes.now)

-- the block's entries
in_data : (c : After-size) → c.args.block.start + 2 * c.args.block.count ≤ length (section c)
in_data c =
    let a = c.args in
    sparse_data a.bytes.now (column_of a.column) a.b a.block c.requires.1 c.requires.2 _ (id_part_lem (parted c))

-- entry j
entry : (c : After-size-e) → (c.size-e.result ≡ entry_in (section (goal.at.After-size-e c).After-size) c.args.block.start c.loop-j.j) × (c.size-e.result < 65536)
entry c = (c.size-e.ensures ∙ c.short_at.ensures.0, omega (arith, c.size-e.ensures, c.short_at.ensures.1))

-- below the place

-- the lists are full

pub returns-then-i-room : goal.returns-then-i-room
returns-then-i-room c =
    let l = c.loop-j in
    let a = c.args in
    record {
      reads = l.invariant.0;
      place = l.invariant.1;
      left = λ e.
          sparse_left a.bytes.now (column_of a.column) a.b a.block c.requires.1 l.r c.requires.2 (section (goal.at.returns-then-i-room c).After-size) (id_part_lem (parted (goal.at.returns-then-i-room c).After-size)) l.j
          l.invariant.2 c.loop-j-test.true (omega (arith, entry (goal.at.returns-then-i-room c).After-size-e)) (omega (arith, (entry (goal.at.returns-then-i-room c).After-size-e).0, c.if-e-r.false));
      stops = inl c.if-i-room.true;
    }

-- the ordinal that was asked for
ordinal : (c : After-value_at) → let a = c.args in
    a.block.ordinal + c.long.result ≡ a.block.ordinal + c.loop-j.j
ordinal c = omega (arith, c.long.ensures)

pub returns-in_default : goal.returns-in_default
returns-in_default c =
    let l = c.loop-j in
    let a = c.args in
    record {
      reads = l.invariant.0;
      place = l.invariant.1;
      left = λ e. false_true e;
      stops = entry_fails a.bytes.now (column_of a.column) a.b a.block c.requires.1 c.requires.2 (section (goal.at.returns-in_default c).After-size) (id_part_lem (parted (goal.at.returns-in_default c).After-size)) l.r l.j
          l.invariant.2 c.size-e.result (a.block.ordinal + c.long.result) c.loop-j-test.true (entry (goal.at.returns-in_default c).After-size-e).0
          (entry (goal.at.returns-in_default c).After-size-e).1 (omega (arith, c.if-e-r.false)) (ordinal (goal.at.returns-in_default c).After-value_at)
          (sym c.value_at.ensures ∙ ap fetched_of c.in_default.is);
    }

pub loop-j-preserved : goal.loop-j-preserved
loop-j-preserved c =
    let l = c.loop-j in
    let a = c.args in
    let w = c.in-Some.value in
    let e = sym c.value_at.ensures ∙ ap fetched_of c.in-Some.is in
    let fits = value_fits a.bytes.now (column_of a.column) _ w e in
    let part = entry_taken a.bytes.now (column_of a.column) a.b a.block c.requires.1 c.requires.2 (section (goal.at.loop-j-preserved c).After-size) (id_part_lem (parted (goal.at.loop-j-preserved c).After-size)) l.r l.j
    l.invariant.2 c.size-e.result (a.block.ordinal + c.long.result) c.loop-j-test.true (entry (goal.at.loop-j-preserved c).After-size-e).0
    (entry (goal.at.loop-j-preserved c).After-size-e).1 (omega (arith, c.if-e-r.false)) (ordinal (goal.at.loop-j-preserved c).After-value_at) a.room l.i l.ids l.values c.id_of-id.result w _ _ e
    (omega (arith, l.invariant.0.most, c.if-i-room.false)) c.id_of-id.ensures refl
    (ap (set l.values l.i) (to_z-of_z {w = w64} {z = w} (record { sfits = fits }))) in (
      then l.invariant.0 part,
      omega (arith, (entry (goal.at.loop-j-preserved c).After-size-e).1),
      raised _ _ _ _ l.j c.size-e.result l.invariant.2 c.loop-j-test.true (entry (goal.at.loop-j-preserved c).After-size-e).0
          (omega (arith, c.if-e-r.false)),
    )

pub returns : goal.returns
returns c =
    let l = c.loop-j in
    let a = c.args in
    let w = sparse_end a.bytes.now (column_of a.column) a.b a.block c.requires.1 c.requires.2 _ (id_part_lem (parted (goal.at.returns c).After-size)) l.r l.j l.invariant.2
    (omega (arith, c.loop-j-test.false)) l.invariant.1 in
    record { reads = then l.invariant.0 (passes _ _ _ _ _ _ _ _ l.invariant.0.most w); place = omega arith; left = λ z. false_true z; stops = inr refl }

-- there is a place for the pair
room : (c : After-id_of-id) → let l = c.loop-j in
    (l.i < length l.ids) × (l.i < length l.values)
room c =
    let l = c.loop-j in
    let n = c.requires.0 in
    let h : l.i < c.args.room = omega (arith, l.invariant.0.most, c.if-i-room.false) in
    (omega (arith, h, l.invariant.0.in_ids.kept, n.in_ids), omega (arith, h, l.invariant.0.in_values.kept, n.in_values))

pub overflow_mul-j : goal.overflow_mul-j
overflow_mul-j c = omega (arith, c.loop-j-test.true, in_data (goal.at.overflow_mul-j c).After-size)

pub overflow_add-t : goal.overflow_add-t
overflow_add-t c = omega (arith, c.loop-j-test.true, in_data (goal.at.overflow_add-t c).After-size)

pub short_at-requires : goal.short_at-requires
short_at-requires c = omega (arith, c.loop-j-test.true, in_data (goal.at.short_at-requires c).After-size)
