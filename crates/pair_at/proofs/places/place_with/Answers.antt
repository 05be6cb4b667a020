-- `pair_at::places::place_with` meets its contract. Assumes nothing.
use Rattle.format.specs.Kit.{◌≡◌, sym, ap, ◌∙◌, ℕ, ◌+◌, ◌*◌, ◌≤◌, arith, length}
use Rattle.format.specs.Bytes.{low_at}
use Rattle.format.specs.Ids as Ids
use Rattle.format.specs.Ids.{kind_of}
use Rattle.blocks.specs.Kinds.{kind_is}
use Rattle.next_in_block.proofs.OfKind as OfKind
use Rattle.pair_at.proofs.InBlock.{of_sparse, of_dense, of_all}
use Rattle.pair_at.proofs.places.place_with.Goals as goal
use Rattle.pair_at.proofs.places.place_with.Goals.{After-size, In-All, In-Dense, In-Sparse}

sparse_kind : (c : In-Sparse) → kind_of c.args.block.count ≡ Ids.sparse
sparse_kind c = sym c.requires.1 ∙ ap kind_is c.in-Sparse.is

dense_kind : (c : In-Dense) → kind_of c.args.block.count ≡ Ids.dense
dense_kind c = sym c.requires.1 ∙ ap kind_is c.in-Dense.is

all_kind : (c : In-All) → kind_of c.args.block.count ≡ Ids.all
all_kind c = sym c.requires.1 ∙ ap kind_is c.in-All.is

-- the entry is one of the block's
in_data : (c : After-size) → let a = c.args in a.block.start + 2 * c.size.result + 2 ≤ length a.s.now
in_data c =
    let a = c.args in
    omega (
      arith,
      (OfKind.of_sparse a.p a.block.count a.s.now a.block.start 0 (sparse_kind (goal.at.After-size c).In-Sparse)).0,
      c.requires.2,
      c.requires.3,
      c.size.ensures,
    )

pub returns-in-Sparse : goal.returns-in-Sparse
returns-in-Sparse c =
    let a = c.args in
    of_sparse a.p a.s.now a.block.start a.block.count a.i c.size-in-Sparse.result (sparse_kind (goal.at.returns-in-Sparse c).In-Sparse)
    (c.size-in-Sparse.ensures ∙ c.short_at.ensures.0 ∙ ap (λ (x : ℕ). low_at 2 a.s.now (a.block.start + 2 * x)) c.size.ensures)
    (omega (arith, c.size-in-Sparse.ensures, c.short_at.ensures.1))

pub in_dense-requires : goal.in_dense-requires
in_dense-requires c =
    let a = c.args in
    (c.requires.0, omega (arith, (OfKind.of_dense a.p a.block.count a.s.now a.block.start 0 (dense_kind c)).0, c.requires.2))

pub returns-in-Dense : goal.returns-in-Dense
returns-in-Dense c =
    let a = c.args in
    of_dense a.p a.s.now a.block.start a.block.count a.i c.in_dense.result (dense_kind (goal.at.returns-in-Dense c).In-Dense) c.in_dense.ensures

pub returns-in-All : goal.returns-in-All
returns-in-All c =
    let a = c.args in
    let k = all_kind (goal.at.returns-in-All c).In-All in
    of_all a.p a.s.now a.block.start a.block.count a.i c.size-in-All.result k c.size-in-All.ensures (omega (arith, c.requires.3, c.requires.4))

pub overflow_mul-size : goal.overflow_mul-size
overflow_mul-size c = omega (arith, in_data c)

pub overflow_add-start : goal.overflow_add-start
overflow_add-start c = omega (arith, in_data c)

pub short_at-requires : goal.short_at-requires
short_at-requires c = in_data c
