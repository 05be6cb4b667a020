-- `table_values::share` meets its contract. Assumes nothing.
use Rattle.format.specs.Kit.{arith, length-append}
use Rattle.format.specs.Bytes.{bytes_of}
use Rattle.format.specs.Table.{value_share}
use Rattle.table_values.proofs.share.Goals as goal

pub returns : goal.returns
unfolding value_share bytes_of
returns c =
    let l = c.number_len-l.ensures.0 in
    let g = c.number_len-g.ensures.0 in
    let s = c.number_len-s.ensures.0 in
    let w = c.number_len-w.ensures.0 in
    simp length-append (omega (arith, c.long.ensures, l, g, s, w))
