-- `block_writer::put_data` meets its contract. Assumes nothing.
use Rattle.format.specs.Kit.{sym, ap, ◌∙◌, arith, sets}
use Rattle.block_writer.proofs.Data.{bytes_by_sparse, bytes_by_dense, data_by_sparse, data_by_dense, data_by_all, from_fine}
use Rattle.block_writer.proofs.put_data.Goals as goal

pub put_sparse-requires : goal.put_sparse-requires
put_sparse-requires c = omega (arith, bytes_by_sparse c.args.p _ (sym c.in-Sparse.ensures))

pub put_dense-requires : goal.put_dense-requires
put_dense-requires c =
    (from_fine c.args.part.now c.requires.0, c.requires.1, omega (arith, bytes_by_dense c.args.p _ (sym c.in-Dense.ensures)))

pub returns-in-Sparse : goal.returns-in-Sparse
returns-in-Sparse c =
    let a = c.args in
    c.put_sparse.ensures ∙ ap (sets a.out.now a.at) (sym (data_by_sparse a.p a.part.now (sym c.in-Sparse.ensures)))

pub returns-in-Dense : goal.returns-in-Dense
returns-in-Dense c =
    let a = c.args in
    c.put_dense.ensures ∙ ap (sets a.out.now a.at) (sym (data_by_dense a.p a.part.now (sym c.in-Dense.ensures)))

pub returns-in-All : goal.returns-in-All
returns-in-All c =
    let a = c.args in
    ap (sets a.out.now a.at) (sym (data_by_all a.p a.part.now (sym c.in-All.ensures)))
