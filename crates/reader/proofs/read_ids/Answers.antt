-- `reader::read_ids` meets its contract. Assumes nothing.
use Rattle.format.specs.Kit.{◌≡◌, ap₂, ◌∙◌, ℕ, ◌+◌, ◌-◌, arith, take, drop}
use Rattle.format.specs.Pairs.{Below}
use Rattle.format.specs.Editions.{editions}
use Rattle.format.specs.Opening.{id_part}
use Rattle.format.specs.Rules.{Sound}
use Rattle.column.specs.Opened.{column_of}
use Rattle.laws.proofs.Open.{sound}
use Rattle.laws.proofs.Digits.{below_all}
use Rattle.reader.proofs.Decoded.{id_slice, ids_asked, ids_given}
use Rattle.reader.proofs.read_ids.Goals as goal
use Rattle.reader.proofs.read_ids.Goals.{After-shared_slice_known-1, After-size, Start}

bytes_fit : (c : After-shared_slice_known-1) → Below 256 c.args.bytes.now
bytes_fit c = below_all 256 c.args.bytes.now (λ j. (c.type_inv.bytes j).fits)

column : (c : Start) → Sound c.args.bytes.now (column_of c.args.c)
column c = sound editions c.args.bytes.now (column_of c.args.c) c.requires.0.opens

-- the part that is lent
part : (c : After-size) → let a = c.args in
    take (c.size-start.result + c.size.result - c.size-start.result) (drop c.size-start.result a.bytes.now)
    ≡ id_part a.bytes.now (column_of a.c)
part c =
    id_slice c.args.bytes.now (column_of c.args.c) (bytes_fit (goal.at.After-size c).After-shared_slice_known-1) c.requires.0 c.size-start.result
    (c.size-start.result + c.size.result) c.size-start.ensures
    (ap₂ (λ (x y : ℕ). x + y) c.size-start.ensures c.size.ensures)

pub overflow_add-end : goal.overflow_add-end
overflow_add-end c = omega (arith, (column (goal.at.overflow_add-end c).Start).whole)

pub slice_bounds-fill_ids-end : goal.slice_bounds-fill_ids-end
slice_bounds-fill_ids-end c = omega (arith, (column (goal.at.slice_bounds-fill_ids-end c).Start).whole)

pub fill_ids-requires : goal.fill_ids-requires
fill_ids-requires c =
    ids_asked c.args.bytes.now (column_of c.args.c) (bytes_fit (goal.at.fill_ids-requires c).After-shared_slice_known-1) c.requires.0 _ c.size-power.result (part (goal.at.fill_ids-requires c).After-size) c.size-power.ensures _ c.requires.1

pub returns : goal.returns
returns c =
    c.fill_ids.ensures
    ∙ ids_given c.args.bytes.now (column_of c.args.c) (bytes_fit (goal.at.returns c).After-shared_slice_known-1) c.requires.0 _ c.size-power.result (part (goal.at.returns c).After-size) c.size-power.ensures
    c.args.ids.now
