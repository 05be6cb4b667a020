-- `layered_page::column_by` meets its contract. Assumes nothing.
use Rattle.layered_page.proofs.Marked.{by_machine, by_correction}
use Rattle.layered_page.proofs.column_by.Goals as goal

pub returns-then-kind-eq-ABSENT : goal.returns-then-kind-eq-ABSENT
returns-then-kind-eq-ABSENT c = by_machine _ c.if-kind-eq-ABSENT.true

pub returns-else-kind-eq-ABSENT : goal.returns-else-kind-eq-ABSENT
returns-else-kind-eq-ABSENT c = by_correction _ c.if-kind-eq-ABSENT.false
