-- `run_check::range_ok` meets its contract. Assumes nothing.
use Rattle.format.specs.Kit.{sym, ◌∙◌, eq-eqb, ne_eqb}
use Rattle.signed.proofs.Signs.{biased_unbiased}
use Rattle.run_check.specs.RunsOk.{range_ok}
use Rattle.run_check.proofs.range_ok.Goals as goal

pub returns-then-lo-ne0 : goal.returns-then-lo-ne0
unfolding range_ok
returns-then-lo-ne0 c = rw (ne_eqb c.args.lo 0 c.if-lo-ne0.true)

pub returns-then-not-width_least : goal.returns-then-not-width_least
unfolding range_ok
returns-then-not-width_least c =
    let a = c.args in
    rw (eq-eqb a.lo 0 c.if-lo-ne0.false, sym c.width_least.ensures ∙ c.if-not-width_least.true)

pub returns : goal.returns
unfolding range_ok
returns c =
    let a = c.args in
    rw (
      eq-eqb a.lo 0 c.if-lo-ne0.false,
      sym c.width_least.ensures ∙ c.if-not-width_least.false,
      biased_unbiased a.x.smallest,
      biased_unbiased a.x.greatest,
    )
    c.top_ok.ensures
