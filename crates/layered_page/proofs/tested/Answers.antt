-- `layered_page::tested` meets its contract. Assumes nothing.
use Rattle.format.specs.Kit.{sym, ◌∙◌}
use Rattle.format.specs.Refusals.{need}
use Rattle.layered_page.proofs.tested.Goals as goal

pub returns-then-not-head_ok : goal.returns-then-not-head_ok
unfolding need
returns-then-not-head_ok c = rw (sym c.head_ok.ensures ∙ c.if-not-head_ok.true)

pub returns-then-not-length_ok : goal.returns-then-not-length_ok
unfolding need
returns-then-not-length_ok c =
    rw (
      sym c.head_ok.ensures ∙ c.if-not-head_ok.false,
      sym c.length_ok.ensures ∙ c.if-not-length_ok.true,
    )

pub returns : goal.returns
unfolding need
returns c =
    rw (
      sym c.head_ok.ensures ∙ c.if-not-head_ok.false,
      sym c.length_ok.ensures ∙ c.if-not-length_ok.false,
    )
