-- `scaled_check::values_ok` meets its contract. Assumes nothing.
use Rattle.format.specs.Kit.{eq-eqb, ne_eqb}
use Rattle.scaled_check.specs.ValuesOk.{values_ok}
use Rattle.scaled_check.proofs.values_ok.Goals as goal

pub returns-then-fields-eq0 : goal.returns-then-fields-eq0
unfolding values_ok
returns-then-fields-eq0 c = rw (eq-eqb _ _ c.if-fields-eq0.true) c.equal_ok.ensures

pub returns : goal.returns
unfolding values_ok
returns c = rw (ne_eqb _ _ c.if-fields-eq0.false) c.spread_ok.ensures
