-- `writer::plan` meets its contract. Assumes nothing.
use Rattle.format.specs.Kit.{ap, ◌∙◌, arith, ℕ, length}
use Rattle.format.specs.Ids.{id_section}
use Rattle.laws.proofs.RoundTrip.{count_le}
use Rattle.values.specs.Edition.{edition_of}
use Rattle.writer.proofs.Written.{power_as, planned}
use Rattle.writer.proofs.plan.Goals as goal

pub section_len-l-requires : goal.section_len-l-requires
section_len-l-requires c =
    let a = c.args in
    let ok = c.requires.0 in
    (ok.ascending, ok.range, power_as a.power a.ids.now a.values.now c.size.result ok (c.size.ensures ∙ c.wide32-p.ensures.0))

pub length-requires : goal.length-requires
length-requires c =
    let a = c.args in
    let ok = c.requires.0 in
    (c.requires.1, ok.fit, omega (arith, count_le a.power a.ids.now a.values.now ok, ok.lengths), ok.taken)

pub returns : goal.returns
returns c =
    let a = c.args in
    let e = c.long.ensures in
    planned a.power a.ids.now a.values.now (edition_of a.edition) c.requires.0 c.long-n.ensures c.wide32-p.ensures.0
    (e ∙ c.section_len-l.ensures.0 ∙ ap (λ (x : ℕ). length (id_section x a.ids.now)) c.size.ensures)
    (omega (arith, e, c.section_len-l.ensures.1)) (c.long-2.ensures ∙ c.jump_count-j.ensures.0 a.power)
    c.requires.1 c.length.ensures.0 c.length.ensures.1
