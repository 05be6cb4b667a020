-- `scaled_values::slots::number_in` meets its contract. Assumes nothing.
use Rattle.format.specs.Kit.{◌≡◌, sym, ap, ◌∙◌, subst, List, ℕ, ◌-◌, ◌+◌, ◌*◌, ◌≤◌, arith, length, take, drop, length-drop, take_all}
use Rattle.packings.specs.Packings.{packing_of}
use Rattle.scaled_values.specs.Slots.{Stands, slot_number}
use Rattle.scaled_values.proofs.slots.number_in.Goals as goal
use Rattle.scaled_values.proofs.slots.number_in.Goals.{In-Some}
use Rattle.std.specs.Prelude.{Some}
use Rattle.std.specs.declared.option.Option as Op
use Rattle.scaled_values.specs.declared.slots.Slot.{Slot}

stands : (c : In-Some) → let a = c.args in
    Stands a.order a.section.now (Some c.in-Some.at)
stands c =
    subst (λ (y : Op.Option Slot). Stands c.args.order c.args.section.now y) c.in-Some.is c.requires

-- the bytes that are lent on
part_is : (c : In-Some) → let s = c.args.section.now in
    let at = c.in-Some.at.start in
    take (length s - at) (drop at s) ≡ drop at s
part_is c =
    let s = c.args.section.now in
    let at = c.in-Some.at.start in
    take_all (length s - at) (drop at s) (omega (arith, length-drop at s))

pub fetch-requires : goal.fetch-requires
fetch-requires c =
    let h = stands (goal.at.fetch-requires c).In-Some in
    let x = c.in-Some.at in (
      h.0,
      h.1,
      subst (λ (l : List ℕ). x.index * x.width + x.width ≤ 8 * length l) (sym (part_is (goal.at.fetch-requires c).In-Some)) h.3,
    )

pub returns : goal.returns
returns c =
    let a = c.args in
    let x = c.in-Some.at in
    c.fetch.ensures.0
    ∙ ap (λ (l : List ℕ). (packing_of a.order).fetch l x.width x.index) (part_is (goal.at.returns c).In-Some)
    ∙ ap (slot_number a.order a.section.now) (sym c.in-Some.is)

pub slice_bounds-fetch-count : goal.slice_bounds-fetch-count
slice_bounds-fetch-count c = omega (arith, (stands c).2)

pub slice_bounds-fetch-start : goal.slice_bounds-fetch-start
slice_bounds-fetch-start c = omega (arith, (stands c).2)
