-- `run_values::slot_in` meets its contract. Assumes nothing.
use Rattle.format.specs.Kit.{◌≡◌, sym, ◌∙◌, true, ◌+◌, ◌-◌, ◌*◌, ◌≤◌, arith, length, length-drop, le-leb}
use Rattle.format.specs.Limits.{max_width}
use Rattle.format.specs.Editions.{high_first}
use Rattle.run_values.specs.Summaries.{summary_is, reaches_in}
use Rattle.run_values.proofs.Reached.{narrow, at_reached, not_reached, reached}
use Rattle.run_values.proofs.slot_in.Goals as goal
use Rattle.run_values.proofs.slot_in.Goals.{After-fetched_from, Else-not-reaches}

-- the number is within the section
inside : (c : Else-not-reaches) → let a = c.args in
    reaches_in (length a.section.now - a.from) a.x.start a.x.width a.k ≡ true
inside c = sym c.reaches.ensures ∙ c.if-not-reaches.false

-- and the byte that it is fetched from
from_there : (c : After-fetched_from) → let a = c.args in
    (c.fetched_from.result ≤ length a.section.now) × (a.k * a.x.width + a.x.width ≤ 8 * (length a.section.now - c.fetched_from.result))
from_there c =
    let a = c.args in
    at_reached (length a.section.now) a.from a.x.start a.x.width a.k c.fetched_from.result c.requires.0 c.fetched_from.ensures
    (inside (goal.at.After-fetched_from c).Else-not-reaches)

pub returns-then-not-reaches : goal.returns-then-not-reaches
returns-then-not-reaches c =
    let a = c.args in
    (tt, λ g. not_reached a.section.now a.from g (summary_is a.x) a.k (sym c.reaches.ensures ∙ c.if-not-reaches.true))

pub returns : goal.returns
unfolding high_first
returns c =
    let a = c.args in
    let at = c.fetched_from.result in (
      (
        le-leb a.x.width max_width (narrow _ _ _ _ (inside (goal.at.returns c).Else-not-reaches)),
        omega (arith, c.requires.1),
        (from_there c).0,
        omega (arith, (from_there c).1, length-drop at a.section.now),
      ),
      λ g. reached a.section.now a.from g (summary_is a.x) a.k at c.fetched_from.ensures (inside (goal.at.returns c).Else-not-reaches),
    )
