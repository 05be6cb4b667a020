-- `scaled_check::Numbers::widened` meets its contract. Assumes nothing.
use Rattle.format.specs.Kit.{◌≡◌, sym, ◌∙◌, true, ◌+◌, ℕ, arith}
use Rattle.answers.specs.Replies.{fields_of}
use Rattle.scaled_values.proofs.Facts.{rules_kept}
use Rattle.scaled_check.specs.Numbered.{ok_from, ranged}
use Rattle.scaled_check.proofs.Turns.{Turn, next, stops}
use Rattle.scaled_check.proofs.Numbers.widened.Goals as goal
use Rattle.scaled_check.proofs.Numbers.widened.Goals.{After-max}

turned : (r : After-max) → let a = r.args.self.now in
    Turn a.order a.n (fields_of a.fields) a.section.now (ranged a.order a.n (fields_of a.fields) a.section.now r.args.from r.args.old)
    (record { lo = r.min.result; hi = r.max.result; common = r.common-common.result }) r.renewed-m.result (r.loop-i.i + 1)
turned r =
    next r.loop-i.invariant (omega (arith, r.loop-i-test.true, r.requires.2)) r.number-x.ensures r.min.ensures r.max.ensures
    r.common-common.ensures r.renewed-m.ensures

pub returns-then-settled : goal.returns-then-settled
returns-then-settled c =
    let a = c.args.self.now in
    let t = turned (goal.at.returns-then-settled c).After-max in
    let stop : (i : ℕ) → ok_from a.order a.n (fields_of a.fields) a.section.now i c.min.result c.max.result c.common-common.result ≡ true =
    λ i. stops c.requires.0 _ _ _ _ _ i (rules_kept _ _ _ _ a.kept.rules) t.below c.settled.ensures c.if-settled.true in
    (t.below, stop c.args.end ∙ sym (stop (c.loop-i.i + 1)) ∙ t.same)

pub loop-i-preserved : goal.loop-i-preserved
loop-i-preserved c = turned (goal.at.loop-i-preserved c).After-max
