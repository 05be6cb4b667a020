-- `in_block::by_count::index_in` meets its contract. Assumes nothing.
use Rattle.format.specs.Kit.{sym, ◌∙◌, arith}
use Rattle.in_block.proofs.ByCount.{goes_on, found, not_found}
use Rattle.in_block.proofs.by_count.index_in.Goals as goal

pub loop-n-preserved : goal.loop-n-preserved
loop-n-preserved c =
    let x = c.short_at-x in
    goes_on _ _ _ _ c.loop-n.invariant c.loop-n-test.true x.result _ _ x.ensures.0 c.left-lo.ensures c.left-hi.ensures

pub returns-then-is_there : goal.returns-then-is_there
returns-then-is_there c =
    let l = c.loop-n in
    c.long.ensures
    ∙ found _ _ _ _ l.invariant c.middle-m.result c.short_at-x-2.result c.middle-m.ensures
    c.short_at-x-2.ensures.0 (sym c.is_there.ensures ∙ c.if-is_there.true)

pub returns : goal.returns
returns c =
    not_found _ _ _ _ c.loop-n.invariant c.middle-m.result c.short_at-x-2.result c.middle-m.ensures
    c.short_at-x-2.ensures.0 (omega (arith, c.loop-n-test.false)) (sym c.is_there.ensures ∙ c.if-is_there.false)
