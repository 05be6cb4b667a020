-- `set_writer::block_len` meets its contract. Assumes nothing.
use Rattle.format.specs.Kit.{ap, ℕ, arith, length}
use Rattle.format.specs.HeaderNumbers.{number}
use Rattle.set_writer.proofs.Blocks.{head_long, its_data, its_length}
use Rattle.set_writer.proofs.block_len.Goals as goal

pub returns : goal.returns
returns c =
    let d = c.data_bytes-d.ensures in
    let k = c.head_of-h in
    let xs = c.args.part.now in
    let l1 = c.number_len-first.ensures in
    let l2 = c.number_len-second.ensures in
    let l3 = c.number_len-third.ensures in
    let long = ap (λ (x : ℕ). length (number x)) c.long.ensures in (
      omega (
        arith,
        its_length xs c.requires k.result k.ensures,
        head_long k.result,
        its_data xs c.requires k.result k.ensures,
        d.0,
        l1.0,
        l2.0,
        l3.0,
        ap (λ (x : ℕ). length (number x)) c.number.ensures,
        long,
      ),
      omega (arith, d.1, l1.2, l2.2, l3.2),
    )

pub data_bytes-d-requires : goal.data_bytes-d-requires
data_bytes-d-requires c = c.head_of-h.ensures.long_le
