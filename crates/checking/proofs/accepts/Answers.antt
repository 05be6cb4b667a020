-- `checking::accepts` meets its contract. Assumes nothing.
use Rattle.format.specs.Kit.{◌≡◌, ap, ◌∙◌, arith}
use Rattle.format.specs.Editions.{editions, codec}
use Rattle.format.specs.Rules.{Sound}
use Rattle.format.specs.Check.{accepted}
use Rattle.laws.proofs.Digits.{below_all}
use Rattle.laws.proofs.Open.{sound}
use Rattle.column.specs.Opened.{column_of}
use Rattle.checking.specs.Tests.{column_ok, is_taken}
use Rattle.checking.proofs.Taken.{column_ok_lem}
use Rattle.checking.proofs.Steps.{values_long, ids_fail, ids_pass}
use Rattle.checking.proofs.accepts.Goals as goal
use Rattle.checking.proofs.accepts.Goals.{After-shared_slice_known-1, Start}

opened : (c : Start) → Sound c.args.bytes.now (column_of c.args.c)
opened c = sound editions c.args.bytes.now (column_of c.args.c) c.requires

-- the tests say what the definition says
tested : (c : After-shared_slice_known-1)
    → let bs = c.args.bytes.now in let o = column_of c.args.c in column_ok bs o ≡ is_taken (accepted bs o)
tested c =
    let bs = c.args.bytes.now in
    column_ok_lem bs (column_of c.args.c) (below_all 256 bs (λ i. (c.type_inv.bytes i).fits)) c.requires

pub overflow_add-end : goal.overflow_add-end
overflow_add-end c =
    omega (arith, (opened (goal.at.overflow_add-end c).Start).whole, c.size-start.ensures, c.size.ensures, c.well_formed.0.0)

pub slice_bounds-ids_ok-end : goal.slice_bounds-ids_ok-end
slice_bounds-ids_ok-end c = omega (arith, (opened (goal.at.slice_bounds-ids_ok-end c).Start).whole, c.size-start.ensures, c.size.ensures)

pub ids_ok-requires : goal.ids_ok-requires
ids_ok-requires c = (opened (goal.at.ids_ok-requires c).Start).facts

pub returns-then-not-ids_ok : goal.returns-then-not-ids_ok
returns-then-not-ids_ok c =
    ids_fail _ _ _ _ c.size-start.ensures c.size.ensures c.ids_ok.ensures c.if-not-ids_ok.true
    ∙ tested (goal.at.returns-then-not-ids_ok c).After-shared_slice_known-1

pub slice_bounds-check-count : goal.slice_bounds-check-count
slice_bounds-check-count c =
    omega (arith, (opened (goal.at.slice_bounds-check-count c).Start).whole, c.size-start.ensures, c.size.ensures)

pub slice_bounds-check-start : goal.slice_bounds-check-start
slice_bounds-check-start c =
    omega (arith, (opened (goal.at.slice_bounds-check-start c).Start).whole, c.size-start.ensures, c.size.ensures)

pub check-requires : goal.check-requires
check-requires c =
    let h = (column_of c.args.c).head in
    let f = (opened (goal.at.check-requires c).Start).facts in
    let v = values_long _ (column_of c.args.c) _ _ c.size-start.ensures c.size.ensures c.requires in
    (f.count, ap ((codec h.edition).fields_ok h.count h.fields) v ∙ f.fields)

pub returns : goal.returns
returns c =
    let l = c.if-not-ids_ok.false in
    ids_pass _ _ _ _ c.size-start.ensures c.size.ensures c.ids_ok.ensures l c.check.ensures ∙ tested (goal.at.returns c).After-shared_slice_known-1
