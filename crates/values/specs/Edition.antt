-- The code's edition, fields and value as the definitions' own; the tests of an edition's value section. Assumes nothing.
use Rattle.std.specs.Prelude.{◌≡◌, ◌*◌, ◌≤◌, ◌<◌}
use Rattle.format.specs.Kit.{ℕ, Bool, true, List, Option, ℤ, length}
use Rattle.format.specs.Pairs.{Each, Fits}
use Rattle.format.specs.Codec.{Fields}
use Rattle.format.specs.Table.{table_of}
use Rattle.format.specs.Editions.{Edition, plain, lucene, runs, table, codec}
use Rattle.packings.specs.declared.Order as Od
use Rattle.scaled_values.specs.Slots.{slot_value}
pub use Rattle.scaled_values.specs.Slots.{Stands, slot_number}
use Rattle.scaled_check.specs.ValuesOk.{values_ok}
use Rattle.run_check.specs.RunsOk as Runs
use Rattle.table_values.specs.Codes.{code_value}
use Rattle.table_check.specs.ValuesOk as Table
use Rattle.values.specs.declared.Edition as Ed
use Rattle.values.specs.declared.Layout as La
pub use Rattle.answers.specs.Replies.{fields_of, fetched_of}
use Rattle.std.specs.declared.option.Option as Op
use Rattle.scaled_values.specs.declared.slots.Slot.{Slot}

abbrev pub edition_of : Ed.Edition → Edition
edition_of Ed.Edition.Plain = plain
edition_of Ed.Edition.Lucene = lucene
edition_of Ed.Edition.Runs = runs
edition_of Ed.Edition.Table = table

-- how an edition lays its values out
abbrev pub layout_of : Edition → La.Layout
layout_of plain = La.Layout.Whole Od.Order.High
layout_of lucene = La.Layout.Whole Od.Order.Low
layout_of runs = La.Layout.Runs
layout_of table = La.Layout.Table

-- the packing of an edition's numbers
abbrev pub order_of : Edition → Od.Order
order_of plain = Od.Order.High
order_of lucene = Od.Order.Low
order_of runs = Od.Order.High
order_of table = Od.Order.High

-- what reading there needs: a divisor, or the table
abbrev pub Readable : Edition → Fields → ℕ → Type 0
Readable plain f v = 0 < f.divisor
Readable lucene f v = 0 < f.divisor
Readable runs f v = 0 < f.divisor
Readable table f v = 8 * f.divisor ≤ v

-- the value of a number that was stored in a section
abbrev pub stored_value : Edition → Fields → List ℕ → Op.Option Slot → ℕ → Option ℤ
stored_value plain f s x n = slot_value f.divisor x n
stored_value lucene f s x n = slot_value f.divisor x n
stored_value runs f s x n = slot_value f.divisor x n
stored_value table f s x n = code_value f.divisor s n

-- where the number of ordinal i stands: its bits are in the section, and what is read there is step 7
abbrev pub SlotOf : Edition → ℕ → Fields → List ℕ → ℕ → Op.Option Slot → Type 0
SlotOf ed n f s i x =
    (Stands (order_of ed) s x) × (Readable ed f (length s)) × ((codec ed).value n f s i ≡ stored_value ed f s x (slot_number (order_of ed) s x))

-- given n, the header's fields and the section
unfoldable pub tests : Edition → ℕ → Fields → List ℕ → Bool
tests plain = values_ok Od.Order.High
tests lucene = values_ok Od.Order.Low
tests runs = Runs.values_ok
tests table = Table.values_ok

-- ---- plans

-- values that the edition takes; in edition 4 us is their table, and its entries are signed 64-bit numbers
pub record PlanFor (ed : Edition) (us vs : List ℤ) : Type 0 where
  pub taken : (codec ed).takes vs ≡ true
  pub own : ed ≡ table → us ≡ table_of vs
  pub fit : ed ≡ table → Each Fits us
