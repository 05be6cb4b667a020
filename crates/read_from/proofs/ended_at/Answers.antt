-- `read_from::ended_at` meets its contract. Assumes nothing.
use Rattle.format.specs.Kit.{◌+◌, ◌*◌, arith}
use Rattle.column.specs.Opened.{column_of}
use Rattle.read_from.proofs.Passed.{above_all}
use Rattle.read_from.proofs.Replies.{end_of}
use Rattle.read_from.proofs.ended_at.Goals as goal

pub returns-then-id : goal.returns-then-id
returns-then-id c =
    let a = c.args in
    above_all a.bytes.now (column_of a.column) (a.b * 65536 + a.place) (omega (arith, c.if-id.true))

pub returns : goal.returns
returns c = end_of c.in_ok-next.next c.is_none.result _ c.is_none.ensures c.in_ok-next.ensures
