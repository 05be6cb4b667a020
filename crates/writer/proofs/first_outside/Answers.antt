-- `writer::first_outside` meets its contract. Assumes nothing.
use Rattle.format.specs.Kit.{arith, refl, sym, ◌∙◌}
use Rattle.writer.proofs.Faults.{range_end, range_more, range_here}
use Rattle.writer.proofs.first_outside.Goals as goal

pub loop-i-init : goal.loop-i-init
loop-i-init c = refl

pub returns-then-not-id_ok : goal.returns-then-not-id_ok
returns-then-not-id_ok c =
    let q = c.id_ok in
    sym (c.loop-i.invariant ∙ range_here c.args.ids.now c.loop-i.i (omega arith) (sym q.ensures ∙ c.if-not-id_ok.true))

pub loop-i-preserved : goal.loop-i-preserved
loop-i-preserved c =
    let q = c.id_ok in
    c.loop-i.invariant ∙ range_more c.args.ids.now c.loop-i.i (omega arith) (sym q.ensures ∙ c.if-not-id_ok.false)

pub returns : goal.returns
returns c =
    let xs = c.args.ids.now in
    let i = c.loop-i.i in
    sym (c.loop-i.invariant ∙ range_end xs i (omega arith))
