-- `read_in_block::dense::in_longs` meets its contract. Assumes nothing.
use Rattle.format.specs.Kit.{◌≡◌, refl, sym, ◌∙◌, false, List, ℕ, ◌+◌, ◌-◌, ◌*◌, ◌/◌, ◌≤◌, ◌<◌, arith, length, take, drop, eqb-true}
use Rattle.format.specs.Limits.{Power}
use Rattle.format.specs.Ids.{rank_bytes}
use Rattle.laws.proofs.Cases.{false_true}
use Rattle.laws.proofs.Drawn.{drawn_most}
use Rattle.laws.proofs.Rules.{head_facts}
use Rattle.format.specs.Refusals.{refused, BROKEN}
use Rattle.format.specs.Opening.{value_of}
use Rattle.format.specs.Next.{next_steps}
use Rattle.column.specs.Opened.{column_of}
use Rattle.lookup.proofs.Whole.{Parted, id_part_lem}
use Rattle.read_in_block.specs.Parts.{Reads}
use Rattle.read_in_block.specs.Stretch.{WholeTo}
use Rattle.read_in_block.specs.declared.dense.Row as Ro
use Rattle.read_in_block.proofs.Parts.{stays, passes, then}
use Rattle.read_in_block.proofs.Longs.{dense_data}
use Rattle.read_in_block.proofs.Ahead.{place_most}
use Rattle.read_in_block.proofs.LongRows.{ahead_long, longs_read}
use Rattle.read_in_block.proofs.dense.in_longs.Goals as goal
use Rattle.read_in_block.proofs.dense.in_longs.Goals.{After-draw-n, After-put_longs-y, After-size, After-size-p, After-min-most, Start}

-- nothing was read
none_read : (s : Start) (w : Ro.Row) → (w.count ≡ s.args.from) × (w.place ≡ s.args.r) × (w.broken ≡ false) → let a = s.args in
    WholeTo a.bytes.now (column_of a.column) a.room a.b a.from a.r a.ids.now a.values.now w a.ids.now a.values.now
none_read s w e =
    rw (e.0, e.1)
    (record { reads = stays _ _ _ _ _ _ _ s.requires.0.upto; place = omega (arith, s.requires.3); failure = λ f. false_true (sym e.2 ∙ f) })

parted : (c : After-size) → Parted c.args.bytes.now (column_of c.args.column) c.size-start.result c.size.result
parted c = record { starts = c.size-start.ensures; ids = c.size.ensures; whole = eqb-true _ _ c.requires.0.whole }

-- the id section
abbrev section : After-size → List ℕ
section c = let at = c.size-start.result in take (at + c.size.result - at) (drop at c.args.bytes.now)

power : (c : After-size-p) → Power c.size-p.result
power c = rw c.size-p.ensures (head_facts _ c.requires.0.rules).power

in_data : (c : After-size-p) → c.args.block.start + rank_bytes c.size-p.result + 8192 ≤ length (section (goal.at.After-size-p c).After-size)
in_data c =
    let a = c.args in
    rw c.size-p.ensures (dense_data a.bytes.now (column_of a.column) a.b a.block c.requires.1 c.requires.2 _ (id_part_lem (parted (goal.at.After-size-p c).After-size)))

-- how many ids are asked for at most
asked : (c : After-min-most) → let a = c.args in
    (c.min-most.result ≤ a.room - a.from) × (c.index_of-rank.result + c.min-most.result ≤ a.block.count)
asked c = (
  omega (arith, c.min-most.ensures),
  omega (arith, c.min-most.ensures, c.size-2.ensures, c.if-count-rank.false, c.long-count.ensures),
)

pub longs_from-longs-requires : goal.longs_from-longs-requires
longs_from-longs-requires c =
    (power (goal.at.longs_from-longs-requires c).After-size-p, c.requires.3, in_data (goal.at.longs_from-longs-requires c).After-size-p, c.index_of-rank.ensures, omega (arith, (asked c).1, c.requires.1.last, (head_facts _ c.requires.0.rules).count))

-- as many values as were asked for, or fewer
within : (c : After-draw-n) → let a = c.args in
    (a.from ≤ c.draw-n.result) × (c.draw-n.result ≤ a.from + c.longs_from-longs.result.ones) × (a.from + c.longs_from-longs.result.ones ≤ a.room)
within c =
    let a = c.args in
    let d = drawn_most (value_of a.bytes.now (column_of a.column)) (a.from + c.longs_from-longs.result.ones - a.from)
    (a.block.ordinal + c.index_of-rank.result) in (
      omega (arith, c.draw-n.ensures.0),
      omega (arith, c.draw-n.ensures.0, d),
      omega (arith, c.longs_from-longs.ensures.few, (asked (goal.at.After-draw-n c).After-min-most).0, c.requires.0.upto),
    )

pub put_longs-y-requires : goal.put_longs-y-requires
put_longs-y-requires c =
    let a = c.args in
    let w = within (goal.at.put_longs-y-requires c).After-draw-n in
    let k = asked (goal.at.put_longs-y-requires c).After-min-most in (
      w.0,
      omega (arith, w.1, w.2, c.requires.0.in_ids),
      c.requires.1.number,
      power (goal.at.put_longs-y-requires c).After-size-p,
      c.requires.3,
      in_data (goal.at.put_longs-y-requires c).After-size-p,
      ahead_long a.bytes.now (column_of a.column) a.b a.block c.requires.1 c.requires.2 (section (goal.at.put_longs-y-requires c).After-size) (id_part_lem (parted (goal.at.put_longs-y-requires c).After-size)) c.size-p.result
          c.size-p.ensures (power (goal.at.put_longs-y-requires c).After-size-p) a.room a.from a.r c.index_of-rank.result c.min-most.result c.longs_from-longs.result
          c.longs_from-longs.ensures c.requires.0.upto k.0 k.1 (c.draw-n.result - a.from) (omega (arith, w.0, w.1)),
    )

-- what was read
read : (c : After-put_longs-y) → let a = c.args in let y = c.put_longs-y.result in
    let end = a.from + c.longs_from-longs.result.ones in let n = c.draw-n.result in
    Reads a.bytes.now (column_of a.column) a.room a.from (a.b * 65536 + a.r) a.ids.now a.values.now n (a.b * 65536 + y)
    c.put_longs-y.new.ids c.draw-n.new.values
    × (n < end → next_steps a.bytes.now (column_of a.column) (a.b * 65536 + y) ≡ refused BROKEN 0)
    × (n ≡ end → next_steps a.bytes.now (column_of a.column) (a.b * 65536 + c.longs_from-longs.result.place)
    ≡ next_steps a.bytes.now (column_of a.column) (a.b * 65536 + y))
read c =
    let a = c.args in
    let k = asked (goal.at.After-put_longs-y c).After-min-most in
    longs_read a.bytes.now (column_of a.column) a.b a.block c.requires.1 c.requires.2 (section (goal.at.After-put_longs-y c).After-size) (id_part_lem (parted (goal.at.After-put_longs-y c).After-size)) c.size-p.result
    c.size-p.ensures (power (goal.at.After-put_longs-y c).After-size-p) a.room a.from a.r c.index_of-rank.result c.min-most.result c.longs_from-longs.result c.longs_from-longs.ensures
    c.requires.0.upto k.0 k.1 a.ids.now _ a.values.now _ (a.from + c.longs_from-longs.result.ones) c.draw-n.result
    (a.block.ordinal + c.index_of-rank.result) c.put_longs-y.result refl refl c.draw-n.ensures.0 c.draw-n.ensures.1 c.put_longs-y.ensures.0
    c.put_longs-y.ensures.1

pub returns-then-n-end : goal.returns-then-n-end
returns-then-n-end c =
    let e = read (goal.at.returns-then-n-end c).After-put_longs-y in
    record { reads = e.0; place = c.put_longs-y.ensures.2; failure = λ f. e.1 c.if-n-end.true }

pub returns : goal.returns
returns c =
    let to = c.longs_from-longs.ensures in
    let e = read (goal.at.returns c).After-put_longs-y in
    let w = within (goal.at.returns c).After-draw-n in
    record {
      reads = then e.0 (passes _ _ _ _ _ _ _ _ (omega (arith, w.1, w.2)) (e.2 (omega (arith, c.if-n-end.false, w.1))));
      place = omega (arith, to.place, place_most to.number (c.args.r / 64) c.args.r to.upto c.requires.3);
      failure = λ f. false_true f;
    }

pub index_of-rank-requires : goal.index_of-rank-requires
index_of-rank-requires c = (power c, c.requires.3, in_data c)
