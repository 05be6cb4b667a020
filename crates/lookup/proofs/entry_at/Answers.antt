-- `lookup::entry_at` meets its contract. Assumes nothing.
use Rattle.format.specs.Kit.{◌∙◌, arith}
use Rattle.lookup.proofs.Tested.{entry_none, entry_some}
use Rattle.lookup.proofs.entry_at.Goals as goal

pub returns-then-j-eq0 : goal.returns-then-j-eq0
returns-then-j-eq0 c =
    let a = c.args in
    let e = entry_none a.s.now a.a a.j a.b c.if-j-eq0.true in
    record { ordinal = rw e; start = rw e; few = omega arith; near = omega arith }

pub returns : goal.returns
returns c =
    let a = c.args in
    let e = entry_some a.s.now a.a a.j a.b c.if-j-eq0.false in
    let m = c.min.ensures in
    let l = c.int_at-start.ensures in
    let n = c.size.ensures in
    record { ordinal = rw (e, ← m) c.int_at-ordinal.ensures.0; start = rw (e, ← m) (n ∙ l.0); few = c.int_at-ordinal.ensures.1; near = rw n l.1 }
