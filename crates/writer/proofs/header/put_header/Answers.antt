-- `writer::header::put_header` meets its contract. Assumes nothing.
use Rattle.format.specs.Kit.{ap, ◌∙◌, List, ℕ, arith, length, sets}
use Rattle.format.specs.Bytes.{bytes_of}
use Rattle.format.specs.HeaderNumbers.{number}
use Rattle.writer.proofs.header.put_header.Goals as goal

pub put_numbers-requires : goal.put_numbers-requires
put_numbers-requires c =
    let e = ap (λ (ns : List ℕ). length (bytes_of number ns)) c.head_numbers-ns.ensures in
    omega (arith, e)

pub returns : goal.returns
returns c =
    let e = c.head_numbers-ns.ensures in
    let out = c.args.out.now in (
      c.put_numbers.ensures.0 ∙ ap (λ (ns : List ℕ). length (bytes_of number ns)) e,
      c.put_numbers.ensures.1 ∙ ap (λ (ns : List ℕ). sets out 0 (bytes_of number ns)) e,
    )
