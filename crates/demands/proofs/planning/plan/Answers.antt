-- `demands::planning::plan` meets its contract. Assumes nothing.
use Rattle.format.specs.Kit.{refl, length}
use Rattle.format.specs.Plan.{plan}
use Rattle.laws.proofs.WritersSay.{plan_exactly}
use Rattle.demands.proofs.Replies.{output_kept}
use Rattle.demands.proofs.Writing.{proposes_table, proposes_none}
use Rattle.demands.proofs.planning.plan.Goals as goal

pub returns : goal.returns
returns c =
    let a = c.args in
    let r = c.plan.result in
    let e = c.plan.ensures in record {
      says = record {
        outcome = plan a.values.now (length a.lent.now);
        says = (plan_exactly a.values.now (length a.lent.now) _).0 refl;
        reply = e.replies;
        after = e.proposed;
      };
      refused = output_kept a.lent.now _ r _ e.replies e.proposed;
      a_table = proposes_table a.values.now a.lent.now _ r e.replies e.proposed;
      plain = proposes_none a.values.now a.lent.now _ r e.replies e.proposed;
    }
