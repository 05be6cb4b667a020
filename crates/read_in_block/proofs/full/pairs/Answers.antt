-- `read_in_block::full::pairs` meets its contract: places from the first on, as many as there is room for and as have values. Assumes nothing.
use Rattle.format.specs.Kit.{refl, ap, inl, inr, ℕ, ◌+◌, ◌-◌, ◌≤◌, arith, ltb-true}
use Rattle.column.specs.Opened.{column_of}
use Rattle.format.specs.Opening.{value_of}
use Rattle.laws.proofs.Rules.{head_facts}
use Rattle.laws.proofs.Cases.{below_or, false_true}
use Rattle.in_block.proofs.ByKind.{all_count}
use Rattle.read_in_block.proofs.Rows.{all_part}
use Rattle.read_in_block.proofs.Left.{all_left}
use Rattle.laws.proofs.Drawn.{drawn_most}
use Rattle.read_in_block.proofs.full.pairs.Goals as goal
use Rattle.read_in_block.proofs.full.pairs.Goals.{After-draw-i}

-- the values drawn are no more than asked for
within : (c : After-draw-i) → let a = c.args in
    (a.from ≤ c.draw-i.result) × (c.draw-i.result ≤ a.from + c.min.result)
within c =
    let m = c.min.result in
    let a = c.args in
    let d = drawn_most (value_of a.bytes.now (column_of a.column)) (a.from + m - a.from) (a.block.ordinal + c.long.result) in
    (omega (arith, c.draw-i.ensures.0), omega (arith, c.draw-i.ensures.0, d))

pub overflow_add-x : goal.overflow_add-x
overflow_add-x c =
    omega (arith, all_count c.args.block.count c.requires.2, c.requires.1.last, (head_facts _ c.requires.0.rules).count, c.long.ensures, c.requires.3)

pub draw-i-requires : goal.draw-i-requires
draw-i-requires c =
    let n = c.requires.0 in (
      n.rules,
      n.whole,
      omega (arith, all_count c.args.block.count c.requires.2, c.requires.1.last, c.long.ensures, c.min.ensures, c.requires.3),
      omega arith,
      omega (arith, c.min.ensures, n.in_values, n.upto),
    )

pub count_up-requires : goal.count_up-requires
count_up-requires c =
    let n = c.requires.0 in (
      (within (goal.at.count_up-requires c).After-draw-i).0,
      omega (arith, (within (goal.at.count_up-requires c).After-draw-i).1, c.min.ensures, n.in_ids, n.upto),
      omega
          (arith, (within (goal.at.count_up-requires c).After-draw-i).1, c.min.ensures, c.requires.1.number, c.id_of.ensures, c.requires.3),
    )

pub returns-then-i-end : goal.returns-then-i-end
returns-then-i-end c =
    let a = c.args in
    let n = c.requires.0 in
    let f = within (goal.at.returns-then-i-end c).After-draw-i in
    let w = all_part a.bytes.now (column_of a.column) a.b a.block c.requires.1 c.requires.2 a.room a.from (a.from + c.min.result)
    a.place _ _ _ _
    (a.block.ordinal + c.long.result) c.id_of.result c.draw-i.result (a.place + (c.draw-i.result - a.from))
    (omega arith) (omega (arith, c.min.ensures, n.upto)) (omega (arith, c.min.ensures, c.requires.3))
    (ap (λ (y : ℕ). a.block.ordinal + y) c.long.ensures) c.id_of.ensures
    c.draw-i.ensures.0 c.draw-i.ensures.1 c.count_up.ensures refl in
    record { reads = w.0; place = omega (arith, f.0, f.1, c.min.ensures, c.requires.3); left = λ z. false_true z; stops = w.1 c.if-i-end.true }

pub returns : goal.returns
returns c =
    let a = c.args in
    let n = c.requires.0 in
    let f = within (goal.at.returns c).After-draw-i in
    let w = all_part a.bytes.now (column_of a.column) a.b a.block c.requires.1 c.requires.2 a.room a.from (a.from + c.min.result)
    a.place _ _ _ _
    (a.block.ordinal + c.long.result) c.id_of.result c.draw-i.result (a.place + (c.draw-i.result - a.from))
    (omega arith) (omega (arith, c.min.ensures, n.upto)) (omega (arith, c.min.ensures, c.requires.3))
    (ap (λ (y : ℕ). a.block.ordinal + y) c.long.ensures) c.id_of.ensures
    c.draw-i.ensures.0 c.draw-i.ensures.1 c.count_up.ensures refl in
    record {
      reads = w.0;
      place = omega (arith, f.0, f.1, c.min.ensures, c.requires.3);
      left = λ z. all_left a.bytes.now (column_of a.column) a.b a.block c.requires.1 _ c.requires.2 (ltb-true _ _ z);
      stops = below_or (a.room - a.from) (65536 - a.place)
          (λ h. inl (omega (arith, h, f.0, f.1, c.if-i-end.false, c.min.ensures, n.upto)))
          (λ h. inr (omega (arith, h, f.0, f.1, c.if-i-end.false, c.min.ensures, c.requires.3)));
    }

pub overflow_add-r : goal.overflow_add-r
overflow_add-r c = omega (arith, (within (goal.at.overflow_add-r c).After-draw-i).0, (within (goal.at.overflow_add-r c).After-draw-i).1, c.min.ensures, c.requires.3)
