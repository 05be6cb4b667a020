-- `set_writer::write` meets its contract. Assumes nothing.
use Rattle.format.specs.Kit.{◌≡◌, sym, ap, ◌∙◌, none, ◌+◌, arith, length}
use Rattle.format.specs.Pairs.{ValidIds}
use Rattle.format.specs.Writer.{order_fault}
use Rattle.format.specs.SetBytes.{set_bytes}
use Rattle.section_writer.proofs.Whole.{good}
use Rattle.writer.specs.Asked.{fault_of}
use Rattle.set_writer.proofs.Whole.{whole_long, valid, no_order, no_range, too_long, put_all_lem}
use Rattle.set_writer.proofs.write.Goals as goal
use Rattle.set_writer.proofs.write.Goals.{After-number_len, In_default, In_default-range_fault}

in_order : (c : In_default) → order_fault c.args.ids.now ≡ none
in_order c = sym c.order_fault.ensures ∙ ap fault_of c.in_default.is

-- refusals 3 and 4 do not come: the ids are what the writer takes
taken : (c : In_default-range_fault) → ValidIds c.args.ids.now
taken c =
    valid c.args.ids.now (in_order (goal.at.In_default-range_fault c).In_default)
    (sym c.range_fault.ensures ∙ ap fault_of c.in_default-range_fault.is)

-- the sum of the two lengths is the set's
total : (c : After-number_len)
    → c.number_len.result + c.plan-sizes.result.bytes
    ≡ length (set_bytes c.args.ids.now)
total c =
    let p = c.plan-sizes in
    let ids = c.args.ids.now in
    omega (arith, whole_long ids p.result.blocks p.ensures.0, c.number_len.ensures.0, p.ensures.1)

pub returns-in-Some : goal.returns-in-Some
returns-in-Some c =
    let a = c.args in
    let both = no_order a.ids.now a.out.now _ _ (sym c.order_fault.ensures ∙ ap fault_of c.in-Some.is) c.long.ensures in
    record { replies = both.0; written = both.1 }

pub returns-in-Some-range_fault : goal.returns-in-Some-range_fault
returns-in-Some-range_fault c =
    let a = c.args in
    let both = no_range a.ids.now a.out.now _ _ (in_order (goal.at.returns-in-Some-range_fault c).In_default) (sym c.range_fault.ensures ∙ ap fault_of c.in-Some-range_fault.is) c.long-in-Some-range_fault.ensures in
    record { replies = both.0; written = both.1 }

pub returns-then-total-out : goal.returns-then-total-out
returns-then-total-out c =
    let a = c.args in
    let both = too_long a.ids.now a.out.now (taken (goal.at.returns-then-total-out c).In_default-range_fault) _ (c.long-then-total-out.ensures ∙ total (goal.at.returns-then-total-out c).After-number_len) (omega (arith, c.if-total-out.true, c.long-then-total-out.ensures)) in
    record { replies = both.0; written = both.1 }

pub put_set-requires : goal.put_set-requires
put_set-requires c =
    (good (taken (goal.at.put_set-requires c).In_default-range_fault).ascending (taken (goal.at.put_set-requires c).In_default-range_fault).range, c.plan-sizes.ensures.0, omega (arith, total (goal.at.put_set-requires c).After-number_len, c.if-total-out.false))

pub returns : goal.returns
returns c =
    let a = c.args in
    let both = put_all_lem a.ids.now a.out.now (taken (goal.at.returns c).In_default-range_fault) _ (c.long-2.ensures ∙ total (goal.at.returns c).After-number_len) _
    (omega (arith, c.if-total-out.false, c.long-2.ensures)) c.put_set.ensures in
    record { replies = both.0; written = both.1 }

pub range_fault-requires : goal.range_fault-requires
range_fault-requires c = in_order c

pub plan-sizes-requires : goal.plan-sizes-requires
plan-sizes-requires c = good (taken c).ascending (taken c).range
