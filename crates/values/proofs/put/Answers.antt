-- `values::put` meets its contract. Assumes nothing.
use Rattle.format.specs.Kit.{sym, ap, ◌∙◌, subst, List, ◌++◌, ℕ, ◌≤◌, arith, length, drop}
use Rattle.values.specs.Edition.{edition_of}
use Rattle.values.proofs.ByTable.{facts, section_is}
use Rattle.values.proofs.Layouts.{codec_is, by_table}
use Rattle.values.proofs.put.Goals as goal

pub put-requires : goal.put-requires
put-requires c = let p = rw (codec_is (edition_of c.args.edition) c.layout_of.ensures c.in-Whole.is) at c.requires in (p.0, p.1, p.3)

pub put-requires-in-Table : goal.put-requires-in-Table
put-requires-in-Table c =
    let us = c.args.table.now in
    let vs = c.args.values.now in
    let p = rw (by_table (edition_of c.args.edition) c.layout_of.ensures c.in-Table.is) at c.requires in
    let f = facts us vs p.2 in
    (omega (arith, f.least), f.most, f.up, f.holds, subst (λ (l : List ℕ). length l ≤ length c.args.out.now) (sym (section_is us vs p.2)) p.3)

pub returns-in-Whole : goal.returns-in-Whole
returns-in-Whole c = rw (codec_is (edition_of c.args.edition) c.layout_of.ensures c.in-Whole.is) c.put.ensures

pub returns-in-Table : goal.returns-in-Table
returns-in-Table c =
    let a = c.args in
    let t = by_table (edition_of c.args.edition) c.layout_of.ensures c.in-Table.is in
    let e = section_is a.table.now a.values.now (rw t at c.requires.2) in
    rw t (c.put-in-Table.ensures ∙ ap (λ (l : List ℕ). l ++ drop (length l) a.out.now) e)
