-- `values::length` meets its contract. Assumes nothing.
use Rattle.format.specs.Kit.{arith}
use Rattle.values.specs.Edition.{edition_of, fields_of}
use Rattle.values.proofs.ByTable.{entries_few, length_is}
use Rattle.values.proofs.Layouts.{codec_is, by_table}
use Rattle.values.proofs.length.Goals as goal

pub length-requires : goal.length-requires
length-requires c = let p = rw (codec_is (edition_of c.args.edition) c.layout_of.ensures c.in-Whole.is) at c.requires in (p.0, p.1, p.2)

pub bytes_of-requires : goal.bytes_of-requires
bytes_of-requires c =
    let p = rw (by_table (edition_of c.args.edition) c.layout_of.ensures c.in-Table.is) at c.requires in
    let t = entries_few c.args.values.now p.3 (fields_of c.args.fields) p.0 in
    (t.0, t.1, p.2)

pub returns-in-Whole : goal.returns-in-Whole
returns-in-Whole c = rw (codec_is (edition_of c.args.edition) c.layout_of.ensures c.in-Whole.is) (c.length.ensures.0, omega (arith, c.length.ensures.1))

pub returns-in-Table : goal.returns-in-Table
returns-in-Table c =
    let e = by_table (edition_of c.args.edition) c.layout_of.ensures c.in-Table.is in
    let p = rw e at c.requires in
    rw e (length_is c.args.values.now p.3 (fields_of c.args.fields) p.0 c.bytes_of.result c.bytes_of.ensures.0)
