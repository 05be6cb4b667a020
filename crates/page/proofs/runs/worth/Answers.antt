-- `page::runs::worth` meets its contract. Assumes nothing.
use Rattle.format.specs.Kit.{◌≡◌, sym, ap, ◌∙◌, arith}
use Rattle.format.specs.Ids.{sparse, kind_of}
use Rattle.format.specs.Opening.{id_part}
use Rattle.blocks.specs.Kinds.{kind_is}
use Rattle.in_block.proofs.ByKind.{of_sparse}
use Rattle.column.specs.Opened.{column_of}
use Rattle.page.proofs.InTurn.{not_both, sparse_dense}
use Rattle.page.proofs.runs.worth.Goals as goal
use Rattle.page.proofs.runs.worth.Goals.{In-Sparse}

is_sparse : (c : In-Sparse) → kind_of c.args.block.count ≡ sparse
is_sparse c = sym c.requires.2 ∙ ap kind_is c.in-Sparse.is

pub climb-requires : goal.climb-requires
climb-requires c =
    let b = c.args.block in
    let k = column_of c.args.column in
    rw (c.id_section.ensures)
    (omega (arith, c.requires.3, (of_sparse k.head.power b.count (id_part c.args.bytes.now k) b.start 0 (is_sparse (goal.at.climb-requires c).In-Sparse)).0))

pub returns-else-n-count : goal.returns-else-n-count
returns-else-n-count c z =
    (λ d. not_both sparse_dense (is_sparse (goal.at.returns-else-n-count c).In-Sparse) d, λ y. rw (← c.id_section.ensures) (c.climb.ensures z))
