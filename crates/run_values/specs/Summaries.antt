-- A run's summary in the code, whose smallest and greatest value are biased, and where a number stands. Assumes nothing.
use Rattle.std.specs.Prelude.{◌≡◌, ◌+◌, ◌-◌, ◌*◌, ◌&&◌, ◌||◌}
use Rattle.format.specs.Kit.{List, ℕ, Bool, Option, leb, eqb, ℤ}
use Rattle.format.specs.Limits.{max_width}
use Rattle.format.specs.ValueRuns as Va
use Rattle.signed.specs.Sign.{unbiased}
use Rattle.packings.specs.declared.Order as Od
use Rattle.scaled_values.specs.Slots.{Stands, slot_number, slot_value}
use Rattle.run_values.specs.declared.Summary.{Summary}
use Rattle.std.specs.declared.option.Option as Op
use Rattle.scaled_values.specs.declared.slots.Slot.{Slot}

abbrev pub summary_is : Summary → Va.Summary
summary_is x = record { smallest = unbiased x.smallest; greatest = unbiased x.greatest; start = x.start; width = x.width }

-- where a number stands: its bits are in the section, and its value is known by the divisor
abbrev pub SlotIs : List ℕ → Op.Option Slot → (ℕ → Option ℤ) → Type 0
SlotIs s x v = (Stands Od.Order.High s x) × ((g : ℕ) → slot_value g x (slot_number Od.Order.High s x) ≡ v g)

-- number k of w bits, from a start on, is within so many bytes; width 0 reaches nowhere
abbrev pub reaches_in : ℕ → ℕ → ℕ → ℕ → Bool
reaches_in room start w k = leb w max_width && (eqb w 0 || leb (k * w + w) (8 * (room - start)))
