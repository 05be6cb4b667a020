-- `writer::refusal_of` meets its contract. Assumes nothing.
use Rattle.format.specs.Kit.{◌≡◌, sym, ap, ◌∙◌, true, List, ℕ, length}
use Rattle.format.specs.Limits.{power_ok}
use Rattle.format.specs.Refusals.{Outcome, refused, ORDER, RANGE}
use Rattle.writer.specs.Asked.{fault_of}
use Rattle.writer.proofs.Written.{ask_lengths, ask_power, ask_order, ask_range, ask_none}
use Rattle.writer.proofs.refusal_of.Goals as goal
use Rattle.writer.proofs.refusal_of.Goals.{Else-not-power_ok}

-- what holds after the first two tests
passed_two : (c : Else-not-power_ok)
    → (let a = c.args in
    (length a.ids.now ≡ length a.values.now) × (power_ok a.power ≡ true))
passed_two c =
    let e = c.power_ok in
    (c.if-ids-values.false, ap power_ok (sym c.wide32.ensures.0) ∙ sym e.ensures ∙ c.if-not-power_ok.false)

pub returns-then-ids-values : goal.returns-then-ids-values
returns-then-ids-values c = let a = c.args in (λ next. ask_lengths a.power a.ids.now a.values.now next c.if-ids-values.true)

pub returns-then-not-power_ok : goal.returns-then-not-power_ok
returns-then-not-power_ok c =
    let a = c.args in
    let e = c.power_ok in
    λ next.
    ask_power a.power a.ids.now a.values.now next c.if-ids-values.false
    (ap power_ok (sym c.wide32.ensures.0) ∙ sym e.ensures ∙ c.if-not-power_ok.true)

pub returns-in-Some : goal.returns-in-Some
returns-in-Some c =
    let a = c.args in
    let two = passed_two (goal.at.returns-in-Some c).Else-not-power_ok in
    let order = sym c.order_fault.ensures ∙ ap fault_of c.in-Some.is in
    λ next.
    ap {B = Outcome (List ℕ)} (λ (x : ℕ). refused ORDER x) c.long.ensures
    ∙ ask_order a.power a.ids.now a.values.now next _ two.0 two.1 order

pub range_fault-requires : goal.range_fault-requires
range_fault-requires c = sym c.order_fault.ensures ∙ ap fault_of c.in_default.is

pub returns-in-Some-range_fault : goal.returns-in-Some-range_fault
returns-in-Some-range_fault c =
    let a = c.args in
    let two = passed_two (goal.at.returns-in-Some-range_fault c).Else-not-power_ok in
    let order = sym c.order_fault.ensures ∙ ap fault_of c.in_default.is in
    let range = sym c.range_fault.ensures ∙ ap fault_of c.in-Some-range_fault.is in
    λ next.
    ap {B = Outcome (List ℕ)} (λ (x : ℕ). refused RANGE x) c.long-in-Some-range_fault.ensures
    ∙ ask_range a.power a.ids.now a.values.now next _ two.0 two.1 order range

pub returns : goal.returns
returns c =
    let a = c.args in
    let two = passed_two (goal.at.returns c).Else-not-power_ok in
    let order = sym c.order_fault.ensures ∙ ap fault_of c.in_default.is in
    let range = sym c.range_fault.ensures ∙ ap fault_of c.in_default-range_fault.is in
    λ next. ask_none a.power a.ids.now a.values.now next two.0 two.1 order range
