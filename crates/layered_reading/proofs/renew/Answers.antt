-- `layered_reading::renew` meets its contract. Assumes nothing.
use Rattle.format.specs.Kit.{arith}
use Rattle.column.specs.Opened.{column_of}
use Rattle.layered_reading.proofs.Laws.{has_pair, has_ended}
use Rattle.layered_reading.proofs.renew.Goals as goal

pub returns-then-held : goal.returns-then-held
returns-then-held c =
    let a = c.args in
    has_pair a.bytes.now (column_of a.column) a.target a.want a.ids.now a.values.now a.held c.requires.1 c.if-held.true

pub returns-then-held-2 : goal.returns-then-held-2
returns-then-held-2 c =
    let a = c.args in
    has_ended a.bytes.now (column_of a.column) a.target a.want a.ids.now a.values.now a.held c.requires.1
    (λ h. omega (arith, c.if-held.false)) c.if-held-2.true

pub refill-requires : goal.refill-requires
refill-requires c =
    (c.requires.0, c.requires.1.target (omega (arith, c.if-held.false, c.requires.1.within.order)) c.if-held-2.false)

pub returns : goal.returns
returns c = c.refill.ensures
