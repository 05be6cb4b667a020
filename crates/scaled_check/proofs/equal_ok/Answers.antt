-- `scaled_check::equal_ok` meets its contract. Assumes nothing.
use Rattle.format.specs.Kit.{ne_eqb, eq-eqb, le-leb, lt-leb}
use Rattle.scaled_check.specs.ValuesOk.{equal_ok}
use Rattle.scaled_check.proofs.equal_ok.Goals as goal

pub returns-then-n-ge1 : goal.returns-then-n-ge1
unfolding equal_ok
returns-then-n-ge1 c = rw (eq-eqb _ _ c.if-fields-eq1.true, le-leb _ _ c.if-n-ge1.true)

pub returns-else-n-ge1 : goal.returns-else-n-ge1
unfolding equal_ok
returns-else-n-ge1 c = rw (eq-eqb _ _ c.if-fields-eq1.true, lt-leb _ _ c.if-n-ge1.false)

pub returns-else-fields-eq1 : goal.returns-else-fields-eq1
unfolding equal_ok
returns-else-fields-eq1 c = rw (ne_eqb _ _ c.if-fields-eq1.false)
