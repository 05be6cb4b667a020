-- The header rules as plain facts, and what an opened column keeps: for the contracts of what works on one. Assumes nothing.
use Rattle.std.specs.Prelude.{◌≡◌, ◌+◌, ◌*◌, ◌≤◌}
use Rattle.format.specs.Kit.{true, List, ℕ, length}
use Rattle.format.specs.Limits.{max_count, max_jumps, Power}
use Rattle.format.specs.Editions.{codec}
use Rattle.format.specs.Column.{Head}
use Rattle.format.specs.Opening.{head_ok, Opened}

-- the header rules; those on w, smallest, g and V are the edition's
pub record HeadFacts (h : Head) : Type 0 where
  pub count : h.count ≤ max_count
  pub power : Power h.power
  pub jumps : h.jump_count ≤ max_jumps
  pub ids : 6 + 8 * h.jump_count ≤ h.id_bytes
  pub fields : (codec h.edition).fields_ok h.count h.fields h.value_bytes ≡ true

-- a column that its bytes were opened as
pub record Sound (bytes : List ℕ) (c : Opened) : Type 0 where
  pub rules : head_ok c.head ≡ true
  pub facts : HeadFacts c.head
  pub whole : c.start + c.head.id_bytes + c.head.value_bytes ≡ length bytes
