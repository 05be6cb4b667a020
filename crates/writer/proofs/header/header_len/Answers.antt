-- `writer::header::header_len` meets its contract. Assumes nothing.
use Rattle.format.specs.Kit.{ap, ◌∙◌, List, ℕ, length}
use Rattle.format.specs.Bytes.{bytes_of}
use Rattle.format.specs.HeaderNumbers.{number}
use Rattle.writer.proofs.header.header_len.Goals as goal

pub returns : goal.returns
returns c =
    let n = c.numbers_len.ensures in
    (n.0 ∙ ap (λ (ns : List ℕ). length (bytes_of number ns)) c.head_numbers-ns.ensures, n.1)
