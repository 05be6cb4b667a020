-- `read_in_block::sparse::pairs` meets its contract. Invariant: the part up to place r, and the entries before j are below it. Assumes nothing.
use Rattle.format.specs.Kit.{◌≡◌, refl, ap, ◌∙◌, inl, inr, List, ℕ, ◌+◌, ◌-◌, ◌*◌, ◌≤◌, ◌<◌, arith, length, take, drop, eqb-true, leb-true}
use Rattle.format.specs.Opening.{value_of}
use Rattle.column.specs.Opened.{column_of}
use Rattle.lookup.proofs.Whole.{Parted, id_part_lem}
use Rattle.next_in_block.specs.First.{entry_in}
use Rattle.read_in_block.proofs.Parts.{passes, then}
use Rattle.read_in_block.specs.Rows.{Rising}
use Rattle.read_in_block.proofs.Entries.{sparse_data, sparse_end}
use Rattle.read_in_block.proofs.Rows.{entries_below, entries_part}
use Rattle.read_in_block.proofs.Left.{sparse_left}
use Rattle.laws.proofs.Cases.{false_true}
use Rattle.laws.proofs.Drawn.{drawn_most}
use Rattle.read_in_block.proofs.sparse.pairs.Goals as goal
use Rattle.read_in_block.proofs.sparse.pairs.Goals.{After-draw-n, After-size}

parted : (c : After-size) → let a = c.args in
    Parted a.bytes.now (column_of a.column) c.size-start.result c.size.result
parted c = record {
  starts = c.size-start.ensures;
  ids = c.size.ensures;
  whole = eqb-true _ _
      c.requires.0.whole;
}

-- the id section
abbrev section : After-size → List ℕ
section c = let start = c.size-start.result in
    take (start + c.size.result - start) (drop start c.args.bytes.now)

-- the block's entries
in_data : (c : After-size) → let a = c.args in let start = c.size-start.result in
    a.block.start + 2 * a.block.count ≤ length (take (start + c.size.result - start) (drop start a.bytes.now))
in_data c =
    let a = c.args in
    sparse_data a.bytes.now (column_of a.column) a.b a.block c.requires.1 c.requires.2 _ (id_part_lem (parted c))

pub returns-then-i-room : goal.returns-then-i-room
returns-then-i-room c =
    let l = c.loop-j in
    let a = c.args in
    let y : ℕ = c.size-e.result in
    let e : y ≡ entry_in (section (goal.at.returns-then-i-room c).After-size) a.block.start l.j = c.size-e.ensures ∙ c.short_at.ensures.0 in
    let small : y < 65536 = omega (arith, c.size-e.ensures, c.short_at.ensures.1) in
    record {
      reads = l.invariant.0;
      place = l.invariant.1;
      left = λ z.
          sparse_left a.bytes.now (column_of a.column) a.b a.block c.requires.1 l.r c.requires.2 (section (goal.at.returns-then-i-room c).After-size) (id_part_lem (parted (goal.at.returns-then-i-room c).After-size)) l.j
          l.invariant.2
          c.loop-j-test.true
          (rw e at small)
          (rw e at (leb-true l.r y z));
      stops = inl c.if-i-room.true;
    }

-- an entry that is below the place

-- ---- entries that rise
-- how many values there are, and how many were asked for
within : (c : After-draw-n) → let l = c.loop-j in
    let a = c.args in
    let k = c.rising-k.result in
    (l.i ≤ c.draw-n.result) × (c.draw-n.result ≤ l.i + (k - l.j)) × (l.i + (k - l.j) ≤ a.room) × (l.j + (k - l.j) ≤ a.block.count)
within c =
    let l = c.loop-j in
    let a = c.args in
    let k : ℕ = c.rising-k.result in
    let m = c.min.ensures in
    let v = c.rising-k.ensures in
    let d = drawn_most (value_of a.bytes.now (column_of a.column)) (l.i + (k - l.j) - l.i) (a.block.ordinal + c.long.result) in (
      omega (arith, c.draw-n.ensures.0),
      omega (arith, c.draw-n.ensures.0, d),
      omega (arith, v.most, v.from, m, l.invariant.0.most),
      omega (arith, v.most, v.from, m, c.loop-j-test.true),
    )

risen : (c : After-draw-n) → let l = c.loop-j in
    let a = c.args in
    let k = c.rising-k.result in let start = c.size-start.result in
    Rising (take (start + c.size.result - start) (drop start a.bytes.now)) a.block.start l.r l.j (l.i + (k - l.j) - l.i)
risen c =
    let l = c.loop-j in
    let k : ℕ = c.rising-k.result in
    let e : l.i + (k - l.j) - l.i ≡ k - l.j = omega arith in
    rw e c.rising-k.ensures.rises

pub put_entries-y-requires : goal.put_entries-y-requires
put_entries-y-requires c =
    let f = within (goal.at.put_entries-y-requires c).After-draw-n in
    let l = c.loop-j in
    let n = c.requires.0 in (
      f.0,
      omega (arith, f.1, f.2, l.invariant.0.in_ids.kept, n.in_ids),
      omega
          (arith, f.0, f.1, f.3, in_data (goal.at.put_entries-y-requires c).After-size),
      c.requires.1.number,
    )

pub returns-then-n-end : goal.returns-then-n-end
returns-then-n-end c =
    let a = c.args in
    let l = c.loop-j in
    let k : ℕ = c.rising-k.result in
    let f = within (goal.at.returns-then-n-end c).After-draw-n in
    let w = entries_part a.bytes.now (column_of a.column) a.b a.block c.requires.1 c.requires.2 _ (id_part_lem (parted (goal.at.returns-then-n-end c).After-size)) a.room l.i
    (l.i + (k - l.j)) l.r l.j _ _ _ _
    (a.block.ordinal + c.long.result) c.draw-n.result c.put_entries-y.result
    (omega arith) f.2 (omega (arith, f.3)) l.invariant.2 (risen (goal.at.returns-then-n-end c).After-draw-n)
    (ap (λ (y : ℕ). a.block.ordinal + y) c.long.ensures)
    c.draw-n.ensures.0 c.draw-n.ensures.1 c.put_entries-y.ensures.0 c.put_entries-y.ensures.1 in
    let g = entries_below _ a.block.start a.b a.block.count l.r l.j (c.draw-n.result - l.i) (l.i + (k - l.j) - l.i)
    c.put_entries-y.result l.invariant.2 l.invariant.1
    (omega (arith, f.0, f.1, f.3)) (omega (arith, f.0, f.1)) (risen (goal.at.returns-then-n-end c).After-draw-n) c.put_entries-y.ensures.0 in
    record { reads = then l.invariant.0 w.0; place = g.1; left = λ z. false_true z; stops = w.1 c.if-n-end.true }

pub loop-j-preserved : goal.loop-j-preserved
loop-j-preserved c =
    let a = c.args in
    let l = c.loop-j in
    let k : ℕ = c.rising-k.result in
    let f = within (goal.at.loop-j-preserved c).After-draw-n in
    let w = entries_part a.bytes.now (column_of a.column) a.b a.block c.requires.1 c.requires.2 _ (id_part_lem (parted (goal.at.loop-j-preserved c).After-size)) a.room l.i
    (l.i + (k - l.j)) l.r l.j _ _ _ _
    (a.block.ordinal + c.long.result) c.draw-n.result c.put_entries-y.result
    (omega arith) f.2 (omega (arith, f.3)) l.invariant.2 (risen (goal.at.loop-j-preserved c).After-draw-n)
    (ap (λ (y : ℕ). a.block.ordinal + y) c.long.ensures)
    c.draw-n.ensures.0 c.draw-n.ensures.1 c.put_entries-y.ensures.0 c.put_entries-y.ensures.1 in
    let g = entries_below _ a.block.start a.b a.block.count l.r l.j (c.draw-n.result - l.i) (l.i + (k - l.j) - l.i)
    c.put_entries-y.result l.invariant.2 l.invariant.1
    (omega (arith, f.0, f.1, f.3)) (omega (arith, f.0, f.1)) (risen (goal.at.loop-j-preserved c).After-draw-n) c.put_entries-y.ensures.0 in
    let e : l.j + (c.draw-n.result - l.i) ≡ k = omega (arith, f.0, f.1, c.if-n-end.false, c.rising-k.ensures.from) in
    let b = g.0 in
    (then l.invariant.0 w.0, g.1, rw e at b)

pub returns : goal.returns
returns c =
    let a = c.args in
    let l = c.loop-j in
    let w =
    sparse_end a.bytes.now (column_of a.column) a.b a.block c.requires.1 c.requires.2 _ (id_part_lem (parted (goal.at.returns c).After-size))
    l.r l.j l.invariant.2
    (omega (arith, c.loop-j-test.false)) l.invariant.1 in
    record { reads = then l.invariant.0 (passes _ _ _ _ _ _ _ _ l.invariant.0.most w); place = omega arith; left = λ z. false_true z; stops = inr refl }

pub first_entry-j-requires : goal.first_entry-j-requires
first_entry-j-requires c = in_data (goal.at.first_entry-j-requires c).After-size

pub overflow_mul-j : goal.overflow_mul-j
overflow_mul-j c = omega (arith, c.loop-j-test.true, in_data (goal.at.overflow_mul-j c).After-size)

pub overflow_add-t : goal.overflow_add-t
overflow_add-t c = omega (arith, c.loop-j-test.true, in_data (goal.at.overflow_add-t c).After-size)

pub short_at-requires : goal.short_at-requires
short_at-requires c = omega (arith, c.loop-j-test.true, in_data (goal.at.short_at-requires c).After-size)

pub rising-k-requires : goal.rising-k-requires
rising-k-requires c = (
  omega arith,
  omega
      (arith, c.min.ensures, c.loop-j-test.true, in_data (goal.at.rising-k-requires c).After-size),
)
