-- `demands::pairs::open_then_pair_at` meets its contract. Assumes nothing.
use Rattle.format.specs.Kit.{sym, ◌∙◌}
use Rattle.format.specs.Editions.{editions}
use Rattle.laws.proofs.PairAt.{opened_pair_at}
use Rattle.demands.proofs.Lists.{not_refused}
use Rattle.demands.proofs.Answers.{pair_is}
use Rattle.demands.proofs.pairs.open_then_pair_at.Goals as goal

pub returns-in_err-opened : goal.returns-in_err-opened
returns-in_err-opened c =
    λ n x. not_refused c.args.bytes.now c.in_err-opened.ensures n x

pub returns : goal.returns
returns c =
    let a = c.args in
    let b = a.bytes.now in
    let opens = sym c.in_ok-opened.ensures in
    λ n x. c.pair_at_in.ensures ∙ opened_pair_at editions b a.ordinal _ opens ∙ pair_is b n x a.ordinal
