-- `next_in_block::first_in` meets its contract. Assumes nothing.
use Rattle.format.specs.Kit.{◌≡◌, sym, ap, ◌∙◌, arith}
use Rattle.format.specs.Ids.{sparse, dense, all, kind_of}
use Rattle.blocks.specs.Kinds.{kind_is}
use Rattle.in_block.proofs.ByKind.{all_count}
use Rattle.next_in_block.specs.First.{meets}
use Rattle.next_in_block.proofs.OfKind.{of_sparse, of_dense, of_all}
use Rattle.next_in_block.proofs.first_in.Goals as goal
use Rattle.next_in_block.proofs.first_in.Goals.{In-Dense, In-Sparse}

is_sparse : (c : In-Sparse) → kind_of c.args.block.count ≡ sparse
is_sparse c = sym c.requires.2 ∙ ap kind_is c.in-Sparse.is

is_dense : (c : In-Dense) → kind_of c.args.block.count ≡ dense
is_dense c = sym c.requires.2 ∙ ap kind_is c.in-Dense.is

pub sparse-requires : goal.sparse-requires
sparse-requires c =
    let b = c.args.block in
    (omega (arith, (of_sparse c.args.p b.count c.args.s.now b.start c.args.r (is_sparse c)).0), c.requires.1)

pub dense-requires : goal.dense-requires
dense-requires c =
    let b = c.args.block in
    (c.requires.0, c.requires.1, omega (arith, (of_dense c.args.p b.count c.args.s.now b.start c.args.r (is_dense c)).0))

pub returns-in-All : goal.returns-in-All
returns-in-All c =
    let e : kind_of c.args.block.count ≡ all = sym c.requires.2 ∙ ap kind_is c.in-All.is in (
      ap (meets c.args.r) c.long.ensures ∙ of_all _ _ _ _ _ e c.requires.1,
      (c.requires.1, omega (arith, all_count c.args.block.count e)),
    )

pub returns-in-Sparse : goal.returns-in-Sparse
returns-in-Sparse c = (c.sparse.ensures.0 ∙ (of_sparse _ _ _ _ _ (is_sparse (goal.at.returns-in-Sparse c).In-Sparse)).1 _, c.sparse.ensures.1)

pub returns-in-Dense : goal.returns-in-Dense
returns-in-Dense c = (c.dense.ensures.0 ∙ (of_dense _ _ _ _ _ (is_dense (goal.at.returns-in-Dense c).In-Dense)).1 _, c.dense.ensures.1)
