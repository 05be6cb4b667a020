-- `in_block::inner_of` meets its contract. Assumes nothing.
use Rattle.format.specs.Kit.{◌≡◌, sym, ◌∙◌, arith}
use Rattle.format.specs.Ids.{sparse, dense, kind_of}
use Rattle.laws.proofs.Blocks.{kind_sparse, kind_dense, kind_all}
use Rattle.in_block.proofs.ByKind.{of_sparse, of_dense, of_all}
use Rattle.in_block.proofs.inner_of.Goals as goal
use Rattle.in_block.proofs.inner_of.Goals.{Then-count-lt-DENSE_COUNT, Then-count-lt-PLACES}

is_sparse : (c : Then-count-lt-DENSE_COUNT) → kind_of c.args.block.count ≡ sparse
is_sparse c = kind_sparse _ c.if-count-lt-DENSE_COUNT.true

is_dense : (c : Then-count-lt-PLACES) → kind_of c.args.block.count ≡ dense
is_dense c = kind_dense _ (omega (arith, c.if-count-lt-DENSE_COUNT.false)) c.if-count-lt-PLACES.true

pub sparse-requires : goal.sparse-requires
sparse-requires c =
    let a = c.args in
    let f = of_sparse a.p a.block.count a.s.now a.block.start a.r (is_sparse (goal.at.sparse-requires c).Then-count-lt-DENSE_COUNT) in
    (omega (arith, f.0), omega (arith, c.if-count-lt-DENSE_COUNT.true), omega arith)

pub returns-then-count-lt-DENSE_COUNT : goal.returns-then-count-lt-DENSE_COUNT
returns-then-count-lt-DENSE_COUNT c =
    let a = c.args in
    let f = of_sparse a.p a.block.count a.s.now a.block.start a.r (is_sparse (goal.at.returns-then-count-lt-DENSE_COUNT c).Then-count-lt-DENSE_COUNT) in
    let g = rw c.long.ensures at c.sparse.ensures in
    (g.0.0 ∙ sym f.1, g.1, g.0.1 ∙ sym f.2)

pub dense-requires : goal.dense-requires
dense-requires c =
    let b = c.args.block in
    (c.requires.0, c.requires.1, omega (arith, (of_dense c.args.p b.count c.args.s.now b.start c.args.r (is_dense c)).0))

pub returns-then-count-lt-PLACES : goal.returns-then-count-lt-PLACES
returns-then-count-lt-PLACES c =
    let a = c.args in
    let f = of_dense a.p a.block.count a.s.now a.block.start a.r (is_dense (goal.at.returns-then-count-lt-PLACES c).Then-count-lt-PLACES) in
    let g = c.dense.ensures in
    (g.0 ∙ sym f.1, g.1, g.2 ∙ sym f.2)

pub returns : goal.returns
returns c =
    let b = c.args.block in
    let f = of_all c.args.p b.count c.args.s.now b.start c.args.r (kind_all b.count (omega (arith, c.if-count-lt-PLACES.false))) in
    (sym f.0, omega (arith, c.if-count-lt-PLACES.false), sym f.1)
