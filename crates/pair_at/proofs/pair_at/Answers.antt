-- `pair_at::pair_at` meets its contract. Assumes nothing.
use Rattle.format.specs.Kit.{sym, ap, ◌∙◌}
use Rattle.format.specs.Editions.{editions}
use Rattle.answers.specs.Replies.{candidate_of}
use Rattle.answers.proofs.PassedOn.{passed_on}
use Rattle.lookup.proofs.Calls.{opened_fits}
use Rattle.laws.proofs.PairAt.{pair_unopened, pair_opened}
use Rattle.pair_at.proofs.pair_at.Goals as goal

pub steps_at-requires : goal.steps_at-requires
steps_at-requires c = let f = opened_fits _ _ (sym c.in_ok-open.ensures) in (f.0, f.1)

pub returns-in_err-open : goal.returns-in_err-open
returns-in_err-open c =
    let a = c.args in
    ap candidate_of (passed_on c.from_residual.result _ c.from_residual.ensures.1)
    ∙ sym (pair_unopened editions a.bytes.now a.ordinal _ _ (sym c.in_err-open.ensures))

pub returns : goal.returns
returns c = let a = c.args in
    c.steps_at.ensures ∙ sym (pair_opened editions a.bytes.now a.ordinal _ (sym c.in_ok-open.ensures))
