-- `page::runs::next_entry` meets its contract. Assumes nothing.
use Rattle.column.specs.Opened.{column_of}
use Rattle.page.proofs.InTurn.{sparse_fits}
use Rattle.page.proofs.runs.next_entry.Goals as goal

pub entry_from-requires : goal.entry_from-requires
entry_from-requires c = (
  c.requires.1.block.kind,
  λ e. let y = c.requires.2 e in
      rw (c.id_section.ensures, c.place_of.ensures.0) (sparse_fits c.requires.1.block e, y.0, y.1),
)

pub returns : goal.returns
returns c e = rw (← c.id_section.ensures, ← c.place_of.ensures.0) (c.entry_from.ensures e)
