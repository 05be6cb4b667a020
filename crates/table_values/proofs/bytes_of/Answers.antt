-- `table_values::bytes_of` meets its contract. Assumes nothing.
use Rattle.format.specs.Kit.{ap, ◌∙◌, arith}
use Rattle.format.specs.Bits.{packed_bytes}
use Rattle.table_values.proofs.bytes_of.Goals as goal

pub returns : goal.returns
returns c =
    let e = c.packed_bytes.ensures.0 ∙ ap (packed_bytes c.args.n) c.code_width.ensures.0 in
    (rw e, omega (arith, c.packed_bytes.ensures.1))

pub packed_bytes-requires : goal.packed_bytes-requires
packed_bytes-requires c = (c.requires.2, omega (arith, c.code_width.ensures.1))

pub overflow_add-result : goal.overflow_add-result
overflow_add-result c = omega (arith, c.packed_bytes.ensures.1, c.requires.1, c.requires.2)
