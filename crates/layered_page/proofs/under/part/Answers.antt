-- `layered_page::under::part` meets its contract. Assumes nothing.
use Rattle.format.specs.Kit.{refl, sym, ◌∙◌, arith, length-take-le}
use Rattle.layered_page.proofs.Gathered.{front, within_so}
use Rattle.layered_page.proofs.Answered.{laid_many, part_under}
use Rattle.layered_page.proofs.under.part.Goals as goal

pub answer-requires : goal.answer-requires
answer-requires c =
    let p = c.requires in
    let e = c.gather-n.ensures in
    let m = laid_many p.5 in
    let r = c.gather-n.result in
    let b = length-take-le r c.gather-n.new.batch (omega (arith, e.0, p.0, c.gather-n.auto.batch)) in
    let q = length-take-le r c.gather-n.new.places (omega (arith, e.0, p.0, c.gather-n.auto.places)) in (
      rw (front c.gather-n.new.batch r, b) (omega (arith, e.0, p.0)),
      rw (front c.gather-n.new.batch r, front c.gather-n.new.places r, b, q) refl,
      within_so (front c.gather-n.new.places r ∙ e.2) (m.0 ∙ sym m.2) (m.1 ∙ sym m.2),
      p.1,
      p.2,
    )

pub returns : goal.returns
returns c =
    let p = c.requires in
    let e = c.gather-n.ensures in
    let r = c.gather-n.result in
    part_under _ _ p.3 p.4 p.5 (front c.gather-n.new.batch r ∙ e.1) (front c.gather-n.new.places r ∙ e.2) c.answer.ensures
