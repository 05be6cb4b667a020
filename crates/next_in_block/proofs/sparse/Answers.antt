-- `next_in_block::sparse` meets its contract. Assumes nothing.
use Rattle.format.specs.Kit.{◌≡◌, sym, ap₂, ◌∙◌, arith}
use Rattle.next_in_block.specs.First.{meets, entry_in}
use Rattle.next_in_block.proofs.Entries.{entry_first, entry_none}
use Rattle.next_in_block.proofs.sparse.Goals as goal

pub returns-then-i-count : goal.returns-then-i-count
returns-then-i-count c =
    let a = c.args in
    (sym (entry_none a.s.now a.at a.count a.r _ c.first_entry-i.ensures (omega arith)), tt)

pub returns : goal.returns
returns c =
    let a = c.args in
    let f = c.first_entry-i in
    let x = c.short_at in
    let e : meets c.size.result c.long.result ≡ meets (entry_in a.s.now a.at f.result) f.result =
    ap₂ meets (c.size.ensures ∙ x.ensures.0) c.long.ensures in (
      e ∙ sym (entry_first a.s.now a.at a.count a.r f.result f.ensures (omega (arith, f.ensures.passed.most)) (omega arith)),
      (omega arith, omega (arith, f.ensures.passed.most)),
    )
