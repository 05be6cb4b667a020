-- Where a code stands, and what it stands for. Assumes nothing.
use Rattle.std.specs.Prelude.{◌*◌}
use Rattle.format.specs.Kit.{ℕ, cond, List, Option, none, ltb, ℤ}
use Rattle.format.specs.Bytes.{low_at, untwos}
use Rattle.format.specs.Codec.{signed64}
use Rattle.std.specs.Prelude.{Some}
use Rattle.std.specs.declared.option.Option as Op
use Rattle.scaled_values.specs.declared.slots.Slot.{Slot}

-- code i of w bits, after t entries
abbrev pub code_slot : ℕ → ℕ → ℕ → Op.Option Slot
code_slot w t i = Some (record { start = 8 * t; width = w; index = i; low = 0 })

-- the entry at a code, in a section that begins with a table of t entries
abbrev pub code_value : ℕ → List ℕ → ℕ → Option ℤ
code_value t s x = cond (ltb x t) (signed64 (untwos (low_at 8 s (8 * x)))) none
