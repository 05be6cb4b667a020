-- `page::runs::entry_mark` meets its contract. Assumes nothing.
use Rattle.format.specs.Kit.{sym, ◌∙◌, arith}
use Rattle.page.proofs.InTurn.{entry_found, entry_none, mark_found, mark_none}
use Rattle.page.proofs.runs.entry_mark.Goals as goal

pub returns-then-block-j : goal.returns-then-block-j
returns-then-block-j c =
    (mark_none _ _ (entry_none _ _ _ _ c.requires.3 _ c.requires.4 (λ l. absurd (omega (arith, c.if-block-j.true)))), tt)

pub returns-then-short_at-r : goal.returns-then-short_at-r
returns-then-short_at-r c =
    let b = c.args.block in
    let f = entry_found c.args.s.now b.start b.count c.args.r c.requires.3 c.args.j (omega (arith, c.if-block-j.false))
    (sym c.short_at.ensures.0 ∙ c.if-short_at-r.true) in (
      rw c.long.ensures (mark_found _ _ _ f),
      omega (arith, c.long.ensures, c.if-block-j.false),
    )

pub returns : goal.returns
returns c =
    (mark_none _ _ (entry_none _ _ _ _ c.requires.3 _ c.requires.4 (λ l e. c.if-short_at-r.false (c.short_at.ensures.0 ∙ e))), tt)
