-- What a codec owes. The demands follow from these laws for every edition whose codec keeps them, and nothing else is asked of one.
-- Assumes nothing.
use Rattle.format.specs.Kit.{◌≡◌, true, List, [], ◌∷◌, some, ℕ, ◌^◌, ◌<◌, ◌≤◌, ℤ, pos, length, get_or}
use Rattle.format.specs.Limits.{max_count}
use Rattle.format.specs.Pairs.{Below, Each, Fits}
use Rattle.format.specs.Codec.{Fields, Codec}
use Rattle.format.specs.Editions.{Edition, Knows, codec}

-- the lists that a codec is asked to hold: those that it takes, n within its limit, signed 64-bit values
pub record Storable (k : Codec) (vs : List ℤ) : Type 0 where
  pub taken : k.takes vs ≡ true
  pub few : length vs ≤ max_count
  pub fit : Each Fits vs

-- header numbers
abbrev pub SmallFields : Fields → Type 0
SmallFields f = Below (2 ^ 64) (f.width ∷ f.smallest ∷ f.divisor ∷ [])

pub record Lawful (k : Codec) : Type 0 where
  -- sizes: what a list is written as can stand in a header
  pub small_fields : (vs : List ℤ) → Storable k vs → SmallFields (k.fields vs)
  pub small_section : (vs : List ℤ) → Storable k vs → length (k.section vs) < 2 ^ 64
  -- rules: and breaks no header rule
  pub rules : (vs : List ℤ) → Storable k vs → k.fields_ok (length vs) (k.fields vs) (length (k.section vs)) ≡ true
  -- back: each value comes back
  pub back : (vs : List ℤ) → Storable k vs → (i : ℕ) → i < length vs
      → k.value (length vs) (k.fields vs) (k.section vs) i ≡ some (get_or vs i (pos 0))
  -- fit: whatever the bytes, nothing but a signed 64-bit number comes out
  pub fit : (n : ℕ) (f : Fields) (s : List ℕ) (i : ℕ) (v : ℤ) → k.value n f s i ≡ some v → Fits v

-- every edition that a reader knows has a lawful codec
abbrev pub LawfulReader : List Edition → Type 0
LawfulReader known = (ed : Edition) → Knows known ed → Lawful (codec ed)
