-- `writer::range_fault` meets its contract. Assumes nothing.
use Rattle.format.specs.Kit.{arith, sym, ◌∙◌, ◌-◌, length, leb-true}
use Rattle.laws.proofs.Unique.{ordered}
use Rattle.writer.proofs.Faults.{in_limit}
use Rattle.writer.proofs.range_fault.Goals as goal

pub returns-then-id_ok : goal.returns-then-id_ok
returns-then-id_ok c =
    let q = c.id_ok in
    let ids = c.args.ids.now in
    sym (in_limit 0 0 (length ids - 1) ids (ordered ids c.requires) (omega arith) (leb-true _ _ (sym q.ensures ∙ c.if-id_ok.true)))
