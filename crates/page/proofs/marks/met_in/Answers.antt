-- `page::marks::met_in` meets its contract. Assumes nothing.
use Rattle.format.specs.Kit.{◌≡◌, refl, sym, ap, ◌∙◌, length, eqb-true}
use Rattle.column.specs.Opened.{column_of}
use Rattle.lookup.proofs.Whole.{Parted, id_part_lem, id_length}
use Rattle.page.proofs.Marking.{block_is}
use Rattle.page.proofs.marks.met_in.Goals as goal
use Rattle.page.proofs.marks.met_in.Goals.{Start, After-id_section}

parted : (c : Start) → let k = column_of c.args.column in
    Parted c.args.bytes.now k k.start k.head.id_bytes
parted c = record { starts = refl; ids = refl; whole = eqb-true _ _ c.requires.1 }

long : (c : After-id_section) → length c.id_section.result.now ≡ (column_of c.args.column).head.id_bytes
long c =
    let p = parted (goal.at.After-id_section c).Start in
    ap length (c.id_section.ensures ∙ id_part_lem p) ∙ id_length p

pub block_for-requires : goal.block_for-requires
block_for-requires c = rw (long (goal.at.block_for-requires c).After-id_section) c.ask_of.ensures.1

pub returns : goal.returns
returns c =
    let q = c.ask_of in
    let a = c.args in
    block_is a.bytes.now (column_of a.column) a.id _ _ (sym c.id_section.ensures) q.ensures.0
    (rw (long (goal.at.returns c).After-id_section) q.ensures.1) c.block_for.result
    c.block_for.ensures
