-- `values::plan` meets its contract. Assumes nothing.
use Rattle.format.specs.Kit.{◌∙◌, arith}
use Rattle.values.specs.Edition.{edition_of}
use Rattle.values.proofs.ByTable.{facts, fields_are, values_fit}
use Rattle.values.proofs.Layouts.{codec_is, by_table}
use Rattle.values.proofs.plan.Goals as goal

pub fields_of-requires : goal.fields_of-requires
fields_of-requires c =
    let f = facts c.args.table.now c.args.values.now (rw (by_table (edition_of c.args.edition) c.layout_of.ensures c.in-Table.is) at c.requires) in
    (omega (arith, f.least), omega (arith, f.most))

pub returns-in-Whole : goal.returns-in-Whole
returns-in-Whole c = rw (codec_is (edition_of c.args.edition) c.layout_of.ensures c.in-Whole.is) c.plan.ensures

pub returns-in-Table : goal.returns-in-Table
returns-in-Table c =
    let us = c.args.table.now in
    let vs = c.args.values.now in
    let e = by_table (edition_of c.args.edition) c.layout_of.ensures c.in-Table.is in
    let p = rw e at c.requires in
    rw e (c.fields_of.ensures ∙ fields_are us vs p, values_fit us vs p)
