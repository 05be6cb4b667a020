-- `page::runs::mark_next` meets its contract. Assumes nothing.
use Rattle.format.specs.Kit.{sym, refl, ◌<◌, arith}
use Rattle.laws.proofs.Rules.{head_facts}
use Rattle.column.specs.Opened.{column_of}
use Rattle.page.proofs.Marking.{in_block}
use Rattle.page.proofs.InTurn.{sparse_fits}
use Rattle.page.proofs.runs.mark_next.Goals as goal
use Rattle.page.proofs.runs.mark_next.Goals.{Start}

small : (s : Start) → s.args.id < 4294967296
small s = omega arith

pub mark_at-requires : goal.mark_at-requires
mark_at-requires c =
    let h = head_facts (column_of c.args.column).head c.requires.0.0 in
    let w = c.requires.1 in (
      c.place_of.ensures.1,
      w.block.kind,
      w.not_dense,
      omega (arith, w.block.last, h.count),
      λ e. rw (c.id_section.ensures, c.place_of.ensures.0) (sparse_fits w.block e, w.climbs e, c.requires.2 e),
    )

pub returns : goal.returns
returns c =
    let a = c.args in
    in_block a.bytes.now (column_of a.column) a.id (small (goal.at.returns c).Start) a.block c.requires.1.block (column_of a.column).head.power _ _
    c.mark_at.result refl c.place_of.ensures.0 (sym c.id_section.ensures) (c.mark_at.ensures.0 _, c.mark_at.ensures.1)
