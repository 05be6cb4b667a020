-- `read_from::block_from` meets its contract. Assumes nothing.
use Rattle.format.specs.Kit.{refl, sym, subst, inr, arith, eqb-true}
use Rattle.column.specs.Opened.{column_of}
use Rattle.lookup.proofs.Whole.{Parted, id_part_lem, id_length}
use Rattle.lookup.specs.Steps.{Fair}
use Rattle.laws.proofs.Cases.{false_true}
use Rattle.read_in_block.proofs.Parts.{stays, passes}
use Rattle.read_from.specs.Blocks.{BlockIs}
use Rattle.read_from.proofs.Passed.{block_absent, block_broken}
use Rattle.read_from.proofs.block_from.Goals as goal
use Rattle.read_from.proofs.block_from.Goals.{After-met_in-met, After-size}

parted : (c : After-size) → let a = c.args in
    Parted a.bytes.now (column_of a.column) c.size-start.result c.size.result
parted c = record {
  starts = c.size-start.ensures;
  ids = c.size.ensures;
  whole = eqb-true _ _
      c.requires.0.whole;
}

pub met_in-met-requires : goal.met_in-met-requires
met_in-met-requires c = (subst (λ n. Fair n c.args.q) (sym (id_length (parted (goal.at.met_in-met-requires c).After-size))) c.requires.2, c.requires.3)

is_block : (c : After-met_in-met)
    → let a = c.args in BlockIs a.bytes.now (column_of a.column) a.b c.met_in-met.result
is_block c = c.met_in-met.ensures _ _ c.requires.1 (id_part_lem (parted (goal.at.After-met_in-met c).After-size))

pub pairs_in-requires : goal.pairs_in-requires
pairs_in-requires c = (c.requires.0, rw c.in-At.is at (is_block (goal.at.pairs_in-requires c).After-met_in-met), c.requires.4)

pub returns-in-Absent : goal.returns-in-Absent
returns-in-Absent c =
    let a = c.args in
    let h = rw c.in-Absent.is at (is_block (goal.at.returns-in-Absent c).After-met_in-met) in
    record {
      reads = passes _ _ _ _ _ _ _ _ c.requires.0.upto (block_absent a.bytes.now (column_of a.column) a.b a.place c.requires.3 c.requires.4 h);
      place = omega arith;
      left = λ z. false_true z;
      stops = inr refl;
    }

pub returns-in-Broken : goal.returns-in-Broken
returns-in-Broken c =
    let a = c.args in
    let h = rw c.in-Broken.is at (is_block (goal.at.returns-in-Broken c).After-met_in-met) in
    record {
      reads = stays _ _ _ _ _ _ _ c.requires.0.upto;
      place = omega (arith, c.requires.4);
      left = λ z. false_true z;
      stops = block_broken a.bytes.now (column_of a.column) a.b a.place c.requires.3 c.requires.4 h;
    }

pub overflow_add-end : goal.overflow_add-end
overflow_add-end c = omega (arith, (parted c).whole)

pub slice_bounds-met_in-count : goal.slice_bounds-met_in-count
slice_bounds-met_in-count c = omega (arith, (parted c).whole)

pub slice_bounds-met_in-start : goal.slice_bounds-met_in-start
slice_bounds-met_in-start c = omega (arith, (parted c).whole)

pub slice_bounds-met_in-end : goal.slice_bounds-met_in-end
slice_bounds-met_in-end c = omega (arith, (parted c).whole)
