-- `page::runs::mark_at` meets its contract. Assumes nothing.
use Rattle.format.specs.Kit.{◌≡◌, refl, sym, ap, ◌∙◌, ℕ, arith, drop}
use Rattle.format.specs.Ids.{sparse, all, kind_of}
use Rattle.format.specs.IdsRead.{shorts}
use Rattle.format.specs.LookUp.{halved, in_sparse}
use Rattle.blocks.specs.Kinds.{kind_is}
use Rattle.in_block.proofs.ByKind.{of_sparse, of_all, sparse_count, all_count}
use Rattle.page.specs.Marks.{mark_of}
use Rattle.page.proofs.runs.mark_at.Goals as goal
use Rattle.page.proofs.runs.mark_at.Goals.{In-All, In-Sparse}

is_sparse : (c : In-Sparse) → kind_of c.args.block.count ≡ sparse
is_sparse c = sym c.requires.1 ∙ ap kind_is c.in-Sparse.is

is_all : (c : In-All) → kind_of c.args.block.count ≡ all
is_all c = sym c.requires.1 ∙ ap kind_is c.in-All.is

pub entry_mark-requires : goal.entry_mark-requires
entry_mark-requires c =
    let e = is_sparse (goal.at.entry_mark-requires c).In-Sparse in
    let x = c.requires.4 e in
    (x.0, sparse_count c.args.block.count e, c.requires.3, x.1, rw c.long.ensures x.2)

pub returns-in-Sparse : goal.returns-in-Sparse
returns-in-Sparse c =
    let a = c.args in
    let b = a.block in (
      λ p. let f = of_sparse p b.count a.s.now b.start a.r (is_sparse (goal.at.returns-in-Sparse c).In-Sparse) in
          c.entry_mark.ensures.0
          ∙ ap (λ (y : ℕ). mark_of b.ordinal (in_sparse (halved y (shorts b.count (drop b.start a.s.now))))) c.long.ensures
          ∙ ap (mark_of b.ordinal) (sym f.1),
      c.entry_mark.ensures.1,
    )

pub returns-in-All : goal.returns-in-All
returns-in-All c =
    let b = c.args.block in (
      λ p. let f = of_all p b.count c.args.s.now b.start c.args.r (is_all (goal.at.returns-in-All c).In-All) in rw (c.long-in-All.ensures, f.0) refl,
      omega (arith, c.long-in-All.ensures, all_count b.count (is_all (goal.at.returns-in-All c).In-All), c.requires.0),
    )
