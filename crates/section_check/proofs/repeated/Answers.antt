-- `section_check::repeated` meets its contract. Assumes nothing.
use Rattle.format.specs.Kit.{sym, ◌∙◌, arith}
use Rattle.section_check.proofs.Turns.{kept_on, kept_stop, kept_end}
use Rattle.section_check.proofs.repeated.Goals as goal

pub returns-then-not-entry_is : goal.returns-then-not-entry_is
returns-then-not-entry_is c =
    (omega arith, kept_stop _ _ _ _ _ _ _ c.loop-i.invariant (omega arith) (sym c.entry_is.ensures ∙ c.if-not-entry_is.true))

pub loop-i-preserved : goal.loop-i-preserved
loop-i-preserved c = kept_on _ _ _ c.args.n _ _ c.loop-i.i c.loop-i.invariant (omega arith) (sym c.entry_is.ensures ∙ c.if-not-entry_is.false)

pub returns : goal.returns
returns c = (omega arith, kept_end _ _ _ _ _ _ _ c.loop-i.invariant (omega arith))
