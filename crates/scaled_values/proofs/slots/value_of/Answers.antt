-- `scaled_values::slots::value_of` meets its contract. Assumes nothing.
use Rattle.format.specs.Kit.{sym, ap, ◌∙◌}
use Rattle.scaled_values.specs.Slots.{slot_value}
use Rattle.scaled_values.proofs.slots.value_of.Goals as goal
use Rattle.std.specs.declared.option.Option as Op
use Rattle.scaled_values.specs.declared.slots.Slot.{Slot}

pub returns : goal.returns
returns c =
    let a = c.args in
    c.value_above.ensures ∙ ap (λ (y : Op.Option Slot). slot_value a.divisor y a.stored) (sym c.in-Some.is)
