-- `read_in_block::dense::in_long` meets its contract. Assumes nothing.
use Rattle.format.specs.Kit.{◌≡◌, refl, ap, ◌∙◌, ℕ, ◌+◌, ◌-◌, ◌<◌, min, arith, ones_in}
use Rattle.format.specs.Limits.{Power}
use Rattle.laws.proofs.Rules.{head_facts}
use Rattle.column.specs.Opened.{column_of}
use Rattle.read_in_block.proofs.OneLong.{no_index, within, bits_here, some_index}
use Rattle.read_in_block.proofs.dense.in_long.Goals as goal
use Rattle.read_in_block.proofs.dense.in_long.Goals.{After-draw-n, After-min-want, Start}

power : (c : Start) → Power c.args.column.head.power
power c = (head_facts _ c.requires.0.rules).power

-- as many as are wanted
few : (c : After-min-want) → let a = c.args in c.min-want.result ≡ min (ones_in 64 a.rest) (a.room - a.from)
few c =
    let a = c.args in
    c.min-want.ensures ∙ ap (λ (x : ℕ). min x (a.room - a.from)) (c.size.ensures ∙ c.ones_of.ensures.0)

pub returns-then-count-inner : goal.returns-then-count-inner
returns-then-count-inner c =
    let a = c.args in
    no_index a.bytes.now (column_of a.column) a.b a.block c.requires.1 c.requires.2 (power (goal.at.returns-then-count-inner c).Start) a.room a.from a.r a.rest a.inner
    c.requires.3
    c.requires.0.upto _ (few (goal.at.returns-then-count-inner c).After-min-want) _ _ (omega (arith, c.if-count-inner.true, c.long-count.ensures))

-- some index is left, and as many values are drawn
left : (c : After-draw-n) → let a = c.args in
    a.inner < a.block.count
left c = omega (arith, c.if-count-inner.false, c.long-count.ensures)

asked : (c : After-draw-n) → let a = c.args in
    a.from + c.min.result
    ≡ a.from + min c.min-want.result (a.block.count - a.inner)
asked c =
    let a = c.args in
    ap (λ (x : ℕ). a.from + x) (c.min.ensures
    ∙ ap (min c.min-want.result) (c.size-2.ensures
    ∙ ap (λ (x : ℕ). x - a.inner) c.long-count.ensures))

pub put_bits-place-requires : goal.put_bits-place-requires
put_bits-place-requires c =
    let a = c.args in
    let f = within a.bytes.now (column_of a.column) a.b a.block c.requires.1 c.requires.2 (power (goal.at.put_bits-place-requires c).Start) a.room a.from a.r a.rest a.inner
    c.requires.3
    c.requires.0.upto _ (few (goal.at.put_bits-place-requires c).After-min-want) (left (goal.at.put_bits-place-requires c).After-draw-n) _ _ (asked (goal.at.put_bits-place-requires c).After-draw-n) _ refl c.draw-n.ensures.0 in (
      f.0,
      omega (arith, f.1, f.2, c.requires.0.in_ids),
      c.requires.1.number,
      omega (arith, c.requires.3.most, c.requires.3.long_most),
      bits_here a.bytes.now (column_of a.column) a.b a.block c.requires.1 c.requires.2 (power (goal.at.put_bits-place-requires c).Start) a.room a.from a.r a.rest a.inner
          c.requires.3
          c.requires.0.upto _ (few (goal.at.put_bits-place-requires c).After-min-want) (left (goal.at.put_bits-place-requires c).After-draw-n) _ _ (asked (goal.at.put_bits-place-requires c).After-draw-n) _ refl c.draw-n.ensures.0,
    )

pub returns : goal.returns
returns c =
    let a = c.args in
    some_index a.bytes.now (column_of a.column) a.b a.block c.requires.1 c.requires.2 (power (goal.at.returns c).Start) a.room a.from a.r a.rest a.inner
    c.requires.3
    c.requires.0.upto _ (few (goal.at.returns c).After-min-want) (left (goal.at.returns c).After-draw-n) _ _ (asked (goal.at.returns c).After-draw-n) _ refl c.draw-n.ensures.0 _ _ _ _ _
    c.draw-n.ensures.1 c.put_bits-place.ensures.0
    c.put_bits-place.ensures.1
