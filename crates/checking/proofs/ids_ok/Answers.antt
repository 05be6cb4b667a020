-- `checking::ids_ok` meets its contract. Assumes nothing.
use Rattle.format.specs.Kit.{sym, subst}
use Rattle.format.specs.Limits.{Power}
use Rattle.column.specs.Opened.{head_is}
use Rattle.checking.specs.Tests.{holds}
use Rattle.checking.proofs.Steps.{ids_judged}
use Rattle.checking.proofs.ids_ok.Goals as goal

pub judge-requires : goal.judge-requires
judge-requires c = subst Power (sym c.size-p.ensures) c.requires.power

pub returns-in-Ok : goal.returns-in-Ok
unfolding holds
returns-in-Ok c =
    sym (ids_judged (head_is c.args.h) c.args.section.now _ _ c.size-p.ensures c.size-j.ensures _ (sym c.in-Ok.ensures))

pub returns-in-Err : goal.returns-in-Err
unfolding holds
returns-in-Err c =
    sym (ids_judged (head_is c.args.h) c.args.section.now _ _ c.size-p.ensures c.size-j.ensures _ (sym c.in-Err.ensures))
