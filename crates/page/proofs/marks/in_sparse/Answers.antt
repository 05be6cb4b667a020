-- `page::marks::in_sparse` meets its contract. Assumes nothing.
use Rattle.format.specs.Kit.{arith}
use Rattle.page.proofs.Marking.{sparse_at, sparse_not}
use Rattle.page.proofs.marks.in_sparse.Goals as goal

pub returns-then-i-lt-NOWHERE : goal.returns-then-i-lt-NOWHERE
returns-then-i-lt-NOWHERE c =
    let b = c.args.block in
    sparse_at c.args.s.now b.start b.count c.args.r b.ordinal c.index_in-i.result (omega (arith, c.requires.2)) c.index_in-i.ensures
    c.if-i-lt-NOWHERE.true

pub returns : goal.returns
returns c =
    let b = c.args.block in (
      sparse_not c.args.s.now b.start b.count c.args.r b.ordinal c.index_in-i.result (omega (arith, c.requires.2)) c.index_in-i.ensures
          (omega (arith, c.if-i-lt-NOWHERE.false)),
      tt,
    )
