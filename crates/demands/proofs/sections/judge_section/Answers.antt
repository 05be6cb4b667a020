-- `demands::sections::judge_section` meets its contract. Assumes nothing.
use Rattle.format.specs.Pairs.{Below}
use Rattle.answers.specs.Replies.{order_of}
use Rattle.laws.proofs.Digits.{below_all}
use Rattle.judge.proofs.OneSection.{one_section}
use Rattle.demands.proofs.Judged.{accepted_exactly, faulty_exactly, header_exactly}
use Rattle.demands.proofs.sections.judge_section.Goals as goal

pub returns : goal.returns
returns c =
    let a = c.args in
    let u : Below 256 a.bytes.now = below_all 256 a.bytes.now (λ i. (c.type_inv.bytes i).fits) in
    let r = c.judge_section.result in
    let k = c.judge_section.ensures in record { accepts = accepted_exactly a.bytes.now u a.jump_count a.power a.order r k; one_list = one_section (order_of a.order) a.power a.bytes.now; faults = faulty_exactly a.bytes.now u a.jump_count a.power a.order r k; header = header_exactly a.bytes.now u a.jump_count a.power a.order r k }
