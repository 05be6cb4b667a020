-- `set_blocks::data_from` meets its contract. Assumes nothing.
use Rattle.laws.proofs.Digits.{below_all}
use Rattle.set_blocks.specs.Kinds.{kind_number}
use Rattle.set_blocks.proofs.Steps.{kind_le, data_damaged, data_fine}
use Rattle.set_blocks.proofs.data_from.Goals as goal

pub returns-then-count-eq0 : goal.returns-then-count-eq0
returns-then-count-eq0 c = let a = c.args in
    let u = below_all 256 a.s.now (λ i. (c.type_inv.s i).fits) in
    let d = c.data_count-count in
    (data_damaged (kind_number a.kind) a.c a.s.now a.at a.block d.result d.ensures (kind_le a.kind) c.requires u c.if-count-eq0.true, tt)

pub returns : goal.returns
returns c = let a = c.args in
    let d = c.data_count-count in
    let f = data_fine (kind_number a.kind) a.c a.s.now a.at a.block d.result d.ensures c.if-count-eq0.false in
    (f.taken, f.count)
