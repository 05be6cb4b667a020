-- `scaled_reader::put_four` meets its contract. Assumes nothing.
use Rattle.scaled_reader.proofs.Each.{four_stored}
use Rattle.scaled_reader.proofs.put_four.Goals as goal

pub returns : goal.returns
returns c =
    let a = c.args in
    four_stored a.order a.low a.divisor a.x a.w a.values.now a.i c.put_part.ensures c.put_part-2.ensures
    c.put_part-3.ensures c.put_part-4.ensures
