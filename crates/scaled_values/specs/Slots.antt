-- Where a stored number stands in a section, its number and its value: step 7 of every edition. Assumes nothing.
use Rattle.std.specs.Prelude.{◌≡◌, ◌+◌, ◌*◌, ◌≤◌}
use Rattle.format.specs.Kit.{true, List, Option, none, ℕ, length, drop, ℤ}
use Rattle.format.specs.Limits.{max_count}
use Rattle.format.specs.HeaderNumbers.{unzigzag}
use Rattle.format.specs.Values.{value_at}
use Rattle.format.specs.Codec.{signed64}
use Rattle.signed.specs.Sign.{biased, unbiased}
use Rattle.packings.specs.declared.Order.{Order}
use Rattle.packings.specs.Packings.{packing_of}
use Rattle.std.specs.Prelude.{Some, None}
use Rattle.std.specs.declared.option.Option as Op
use Rattle.scaled_values.specs.declared.slots.Slot.{Slot}

-- of ordinal i, where all values have one width and one smallest value, a header number
abbrev pub whole_slot : ℕ → ℕ → ℕ → Op.Option Slot
whole_slot w m i = Some (record { start = 0; width = w; index = i; low = biased (unzigzag m) })

-- its bits are in the section
abbrev pub Stands : Order → List ℕ → Op.Option Slot → Type 0
Stands o s (Some x) =
    ((packing_of o).width_ok x.width ≡ true) × (x.index ≤ max_count) × (x.start ≤ length s)
    × (x.index * x.width + x.width ≤ 8 * length (drop x.start s))
Stands o s None = Unit {0}

abbrev pub slot_number : Order → List ℕ → Op.Option Slot → ℕ
slot_number o s (Some x) = (packing_of o).fetch (drop x.start s) x.width x.index
slot_number o s None = 0

-- by a divisor and the number
abbrev pub slot_value : ℕ → Op.Option Slot → ℕ → Option ℤ
slot_value g (Some x) n = signed64 (value_at (unbiased x.low) g n)
slot_value g None n = none
