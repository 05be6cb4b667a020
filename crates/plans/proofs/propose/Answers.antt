-- `plans::propose` meets its contract. Assumes nothing.
use Rattle.format.specs.Kit.{ap, ◌∙◌, ℕ, lt-leb, le-leb, arith, length, rules}
use Rattle.format.specs.Refusals.{Outcome, done, need}
use Rattle.format.specs.Plan.{plan}
use Rattle.format.specs.Writer.{write_reply, write_out}
use Rattle.plans.proofs.propose.Goals as goal

pub returns-then-out-lt-MAX_ENTRIES : goal.returns-then-out-lt-MAX_ENTRIES
unfolding plan need write_reply write_out
returns-then-out-lt-MAX_ENTRIES c = rw (lt-leb 256 (length c.args.out.now) c.if-out-lt-MAX_ENTRIES.true) (search rules)

pub returns : goal.returns
unfolding plan need write_reply write_out
returns c =
    let a = c.args in
    let room = c.if-out-lt-MAX_ENTRIES.false in
    let n = c.long.ensures ∙ c.plan.ensures.0 in
    rw (le-leb 256 (length a.out.now) (omega (arith, room)))
    (record { replies = ap {B = Outcome ℕ} (λ (k : ℕ). done k) n; proposed = c.plan.ensures.3 })
