-- `section_check::block::ascending` meets its contract. Assumes nothing.
use Rattle.format.specs.Kit.{refl, sym, ◌∙◌, arith}
use Rattle.section_check.proofs.BlockTests.{asc_begin, asc_turn, asc_end}
use Rattle.answers.specs.Replies.{order_of}
use Rattle.section_check.proofs.block.ascending.Goals as goal

pub loop-i-preserved : goal.loop-i-preserved
loop-i-preserved c =
    let l = c.loop-i in
    l.invariant ∙ asc_turn _ _ _ _ _ _ _ l.right _ (omega arith) c.short_in-x.ensures.0 c.short_in-y.ensures.0 refl

pub loop-i-init : goal.loop-i-init
loop-i-init c = let a = c.args in asc_begin (order_of a.order) a.s.now a.t a.c _ refl

pub returns : goal.returns
returns c = sym (c.loop-i.invariant ∙ asc_end _ _ _ _ _ _ _ (omega arith))
