-- `page::marks::find` meets its contract. Assumes nothing.
use Rattle.format.specs.Kit.{sym, ◌/◌, ◌<◌, arith}
use Rattle.laws.proofs.Rules.{head_facts}
use Rattle.column.specs.Opened.{column_of}
use Rattle.page.specs.Marks.{InBlock}
use Rattle.page.proofs.Marking.{in_block}
use Rattle.page.proofs.marks.find.Goals as goal
use Rattle.page.proofs.marks.find.Goals.{In-At, Start}

small : (s : Start) → s.args.id < 4294967296
small s = omega arith

-- the block in which the id is to be found
there : (c : In-At) → let a = c.args in
    InBlock a.bytes.now (column_of a.column) (a.id / 65536) c.in-At.block
there c = rw c.in-At.is at c.requires.2

pub mark_in-requires : goal.mark_in-requires
mark_in-requires c =
    let h = head_facts (column_of c.args.column).head c.requires.0 in
    let k = there (goal.at.mark_in-requires c).In-At in (
      rw c.size-power.ensures h.power,
      c.place_of.ensures.1,
      k.kind,
      k.some,
      rw (c.size-power.ensures, c.id_section.ensures) k.data_end,
      omega (arith, k.last, h.count),
    )

pub returns-in-At : goal.returns-in-At
returns-in-At c =
    let a = c.args in
    in_block a.bytes.now (column_of a.column) a.id (small (goal.at.returns-in-At c).Start) c.in-At.block (there (goal.at.returns-in-At c).In-At) _ _ _ c.mark_in.result
    c.size-power.ensures c.place_of.ensures.0 (sym c.id_section.ensures) c.mark_in.ensures
