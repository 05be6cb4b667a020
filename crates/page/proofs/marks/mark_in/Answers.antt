-- `page::marks::mark_in` meets its contract. Assumes nothing.
use Rattle.format.specs.Kit.{◌≡◌, refl, sym, ap, ◌∙◌, arith}
use Rattle.format.specs.Ids.{sparse, dense, all, kind_of}
use Rattle.blocks.specs.Kinds.{kind_is}
use Rattle.in_block.proofs.ByKind.{of_sparse, of_dense, of_all, sparse_count, all_count}
use Rattle.page.specs.Marks.{mark_of}
use Rattle.page.proofs.marks.mark_in.Goals as goal
use Rattle.page.proofs.marks.mark_in.Goals.{In-All, In-Dense, In-Sparse}

is_sparse : (c : In-Sparse) → kind_of c.args.block.count ≡ sparse
is_sparse c = sym c.requires.2 ∙ ap kind_is c.in-Sparse.is

is_dense : (c : In-Dense) → kind_of c.args.block.count ≡ dense
is_dense c = sym c.requires.2 ∙ ap kind_is c.in-Dense.is

is_all : (c : In-All) → kind_of c.args.block.count ≡ all
is_all c = sym c.requires.2 ∙ ap kind_is c.in-All.is

pub in_sparse-requires : goal.in_sparse-requires
in_sparse-requires c =
    let b = c.args.block in
    let e = is_sparse c in (
      omega (arith, (of_sparse c.args.p b.count c.args.s.now b.start c.args.r e).0, c.requires.4),
      c.requires.3,
      sparse_count b.count e,
      c.requires.1,
      c.requires.5,
    )

pub in_dense-requires : goal.in_dense-requires
in_dense-requires c =
    let b = c.args.block in (
      c.requires.0,
      c.requires.1,
      omega (arith, (of_dense c.args.p b.count c.args.s.now b.start c.args.r (is_dense c)).0, c.requires.4),
      c.requires.5,
    )

pub returns-in-Sparse : goal.returns-in-Sparse
returns-in-Sparse c =
    let a = c.args in
    let b = a.block in
    let f = of_sparse a.p b.count a.s.now b.start a.r (is_sparse (goal.at.returns-in-Sparse c).In-Sparse) in
    (c.in_sparse.ensures.0 ∙ ap (mark_of b.ordinal) (sym f.1), c.in_sparse.ensures.1)

pub returns-in-Dense : goal.returns-in-Dense
returns-in-Dense c =
    let a = c.args in
    let b = a.block in
    let f = of_dense a.p b.count a.s.now b.start a.r (is_dense (goal.at.returns-in-Dense c).In-Dense) in
    (c.in_dense.ensures.0 ∙ ap (mark_of b.ordinal) (sym f.1), c.in_dense.ensures.1)

pub returns-in-All : goal.returns-in-All
returns-in-All c =
    let b = c.args.block in
    let f = of_all c.args.p b.count c.args.s.now b.start c.args.r (is_all (goal.at.returns-in-All c).In-All) in
    (rw (c.long.ensures, f.0) refl, omega (arith, c.long.ensures, all_count b.count (is_all (goal.at.returns-in-All c).In-All), c.requires.1))
