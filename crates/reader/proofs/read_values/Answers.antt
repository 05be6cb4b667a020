-- `reader::read_values` meets its contract. Assumes nothing.
use Rattle.format.specs.Kit.{◌≡◌, ap₂, ◌∙◌, ℕ, ◌+◌, ◌-◌, arith, length, take, drop}
use Rattle.format.specs.Pairs.{Below}
use Rattle.format.specs.Editions.{editions}
use Rattle.format.specs.Opening.{value_part}
use Rattle.format.specs.Rules.{Sound}
use Rattle.column.specs.Opened.{column_of}
use Rattle.laws.proofs.Open.{sound}
use Rattle.laws.proofs.Digits.{below_all}
use Rattle.reader.proofs.Decoded.{value_slice, values_there, values_asked, values_given}
use Rattle.reader.proofs.read_values.Goals as goal
use Rattle.reader.proofs.read_values.Goals.{After-shared_slice_known-1, After-size-2, Start}

bytes_fit : (c : After-shared_slice_known-1) → Below 256 c.args.bytes.now
bytes_fit c = below_all 256 c.args.bytes.now (λ j. (c.type_inv.bytes j).fits)

column : (c : Start) → Sound c.args.bytes.now (column_of c.args.c)
column c = sound editions c.args.bytes.now (column_of c.args.c) c.requires.0.opens

-- the part that is lent
part : (c : After-size-2) → let a = c.args in
    take (length a.bytes.now - (c.size.result + c.size-2.result)) (drop (c.size.result + c.size-2.result) a.bytes.now)
    ≡ value_part a.bytes.now (column_of a.c)
part c =
    value_slice c.args.bytes.now (column_of c.args.c) (bytes_fit (goal.at.After-size-2 c).After-shared_slice_known-1) c.requires.0 (c.size.result + c.size-2.result)
    (ap₂ (λ (x y : ℕ). x + y) c.size.ensures c.size-2.ensures)

pub overflow_add-start : goal.overflow_add-start
overflow_add-start c = omega (arith, (column (goal.at.overflow_add-start c).Start).whole)

pub slice_bounds-fill-count : goal.slice_bounds-fill-count
slice_bounds-fill-count c = omega (arith, (column (goal.at.slice_bounds-fill-count c).Start).whole)

pub slice_bounds-fill-start : goal.slice_bounds-fill-start
slice_bounds-fill-start c = omega (arith, (column (goal.at.slice_bounds-fill-start c).Start).whole)

pub fill-requires : goal.fill-requires
fill-requires c =
    let b = c.args.bytes.now in
    let o = column_of c.args.c in
    let w = c.requires.0 in
    ((column (goal.at.fill-requires c).Start).facts.count, values_asked b o (bytes_fit (goal.at.fill-requires c).After-shared_slice_known-1) w _ (part (goal.at.fill-requires c).After-size-2), c.requires.1, (w.pairs.values, values_there b o (bytes_fit (goal.at.fill-requires c).After-shared_slice_known-1) w _ (part (goal.at.fill-requires c).After-size-2)))

pub returns : goal.returns
returns c =
    let b = c.args.bytes.now in
    let o = column_of c.args.c in
    let w = c.requires.0 in
    c.fill.ensures w.pairs.values (values_there b o (bytes_fit (goal.at.returns c).After-shared_slice_known-1) w _ (part (goal.at.returns c).After-size-2)) ∙ values_given b o (bytes_fit (goal.at.returns c).After-shared_slice_known-1) w c.args.values.now
