-- `tables::added` meets its contract: the value is there, or has no room, or is put in at its place. Assumes nothing.
use Rattle.format.specs.Kit.{arith}
use Rattle.signed.specs.Sign.{unbiased}
use Rattle.tables.proofs.PutIn.{was_there, no_room, now_there}
use Rattle.tables.proofs.added.Goals as goal

pub returns-then-has : goal.returns-then-has
returns-then-has c =
    let a = c.args in
    was_there a.table.now a.n c.place_of-k.result (unbiased a.b) c.requires.0 c.place_of-k.ensures.0 c.place_of-k.ensures.1
    (c.has.ensures.0 c.if-has.true)

pub returns-then-n-table : goal.returns-then-n-table
returns-then-n-table c =
    let a = c.args in
    no_room a.table.now a.n c.place_of-k.result (unbiased a.b) c.requires.0 c.place_of-k.ensures.0 c.place_of-k.ensures.1
    (c.has.ensures.1 c.if-has.false) c.if-n-table.true

pub returns : goal.returns
returns c =
    let a = c.args in
    now_there a.table.now a.n c.place_of-k.result (unbiased a.b) c.requires.0 c.place_of-k.ensures.0 c.place_of-k.ensures.1
    c.put_in.new.table
    c.put_in.auto.table (c.has.ensures.1 c.if-has.false) (omega (arith, c.requires.0, c.if-n-table.false))
    c.put_in.ensures
