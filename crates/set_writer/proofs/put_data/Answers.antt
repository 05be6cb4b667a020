-- `set_writer::put_data` meets its contract. Assumes nothing.
use Rattle.format.specs.Kit.{◌∙◌, ap, arith, refl, sets}
use Rattle.laws.proofs.Sizes.{ranks_none}
use Rattle.block_writer.proofs.Data.{length_places}
use Rattle.block_writer.specs.Part.{places_from}
use Rattle.set_blocks.specs.Kinds.{kind_number}
use Rattle.set_writer.proofs.Blocks.{data_bitmap, data_listed, data_missing, long_bitmap, long_listed, long_missing, no_ranks}
use Rattle.set_writer.proofs.put_data.Goals as goal

pub put_sparse-requires : goal.put_sparse-requires
put_sparse-requires c =
    let xs = c.args.part.now in
    omega (arith, c.requires.1, long_listed (kind_number c.args.kind) (places_from xs 0) (ap kind_number c.in-Listed.is), length_places xs)

pub returns-in-Listed : goal.returns-in-Listed
returns-in-Listed c =
    let a = c.args in
    c.put_sparse.ensures ∙ ap (sets a.out.now a.at) (data_listed (kind_number a.kind) (places_from a.part.now 0) (ap kind_number c.in-Listed.is))

pub put_missing-requires : goal.put_missing-requires
put_missing-requires c =
    (c.requires.0, omega (arith, c.requires.1, long_missing (kind_number c.args.kind) (places_from c.args.part.now 0) (ap kind_number c.in-Missing.is)))

pub returns-in-Missing : goal.returns-in-Missing
returns-in-Missing c =
    let a = c.args in
    c.put_missing.ensures ∙ ap (sets a.out.now a.at) (data_missing (kind_number a.kind) (places_from a.part.now 0) (ap kind_number c.in-Missing.is))

pub put_dense-requires : goal.put_dense-requires
put_dense-requires c =
    let long = long_bitmap (kind_number c.args.kind) (places_from c.args.part.now 0) (ap kind_number c.in-Bitmap.is) in
    (c.requires.0, no_ranks, omega (arith, c.requires.1, long, ranks_none 0 refl))

pub returns-in-Bitmap : goal.returns-in-Bitmap
returns-in-Bitmap c =
    let a = c.args in
    c.put_dense.ensures ∙ ap (sets a.out.now a.at) (data_bitmap (kind_number a.kind) (places_from a.part.now 0) (ap kind_number c.in-Bitmap.is))
