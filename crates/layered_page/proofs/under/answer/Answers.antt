-- `layered_page::under::answer` meets its contract. Assumes nothing.
use Rattle.format.specs.Kit.{arith}
use Rattle.layered_page.proofs.Answered.{answers_so}
use Rattle.layered_page.proofs.under.answer.Goals as goal

pub returns : goal.returns
returns c =
    let p = c.requires in
    let e = c.scatter.ensures in
    answers_so _ _ _ _ c.fill_by-words.ensures p.1 (omega (arith, p.0)) (omega (arith, p.0)) (omega (arith, p.0)) e.0 e.1 e.2 c.lost-uncounted.ensures
