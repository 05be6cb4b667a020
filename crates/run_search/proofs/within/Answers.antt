-- `run_search::within` meets its contract. Assumes nothing.
use Rattle.format.specs.Kit.{◌≡◌, sym, ap, ◌∙◌, ◌&&◌, leb, le-leb, lt-leb}
use Rattle.format.specs.FirstBetween.{between}
use Rattle.signed.specs.Sign.{biased, unbiased}
use Rattle.signed.proofs.Signs.{read_back}
use Rattle.run_search.proofs.Ordered.{between_is}
use Rattle.run_search.proofs.within.Goals as goal
use Rattle.run_search.proofs.within.Goals.{After-biased-b}

is_between : (c : After-biased-b) → let a = c.args in
    between (unbiased a.low) (unbiased a.high) a.v ≡ (leb a.low c.biased-b.result && leb c.biased-b.result a.high)
is_between c =
    let f = c.ranges.v.sfits in
    between_is c.args.low c.args.high c.biased-b.result c.args.v f (c.biased-b.ensures ∙ ap biased (read_back c.args.v f))

pub returns-then-b-low : goal.returns-then-b-low
returns-then-b-low c =
    sym (is_between (goal.at.returns-then-b-low c).After-biased-b ∙ rw (lt-leb c.args.low c.biased-b.result c.if-b-low.true))

pub returns : goal.returns
returns c =
    sym (is_between (goal.at.returns c).After-biased-b ∙ rw (le-leb c.args.low c.biased-b.result c.if-b-low.false))
