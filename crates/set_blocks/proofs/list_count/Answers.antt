-- `set_blocks::list_count` meets its contract. Assumes nothing.
use Rattle.format.specs.Kit.{◌≡◌, sym, ap, ◌∙◌, drop}
use Rattle.format.specs.IdsRead.{shorts}
use Rattle.format.specs.Pairs.{asc_from}
use Rattle.judge.proofs.LowFirst.{shorts_low}
use Rattle.set_blocks.proofs.list_count.Goals as goal
use Rattle.set_blocks.proofs.list_count.Goals.{After-ascending}

-- what was asked of the shorts
asked : (c : After-ascending) → (let a = c.args in c.ascending.result ≡ asc_from 0 (shorts a.c (drop a.at a.s.now)))
asked c = c.ascending.ensures ∙ ap (asc_from 0) (shorts_low _ _)

pub returns-then-ascending : goal.returns-then-ascending
returns-then-ascending c =
    let e = sym (asked (goal.at.returns-then-ascending c).After-ascending) ∙ c.if-ascending.true in
    rw e c.long.ensures

pub returns-else-ascending : goal.returns-else-ascending
returns-else-ascending c =
    let e = sym (asked (goal.at.returns-else-ascending c).After-ascending) ∙ c.if-ascending.false in
    rw e
