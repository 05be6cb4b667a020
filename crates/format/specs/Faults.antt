-- Document 02, [4], "Say where the header broke": what SHORT and NUMBER say of the bytes. "The number with 7 shall be the byte count, with 8 the place (from 0)
-- of the byte that decided it." Assumes nothing.
use Rattle.std.specs.Prelude.{◌+◌, ◌^◌, ◌≤◌, ◌<◌, ◌≡◌, ◌⊎◌, ◌∷◌, ◌++◌}
use Rattle.format.specs.Kit.{ℕ, List, [], some, length}
use Rattle.format.specs.Bytes.{bytes_of}
use Rattle.format.specs.HeaderNumbers.{number}
use Rattle.format.specs.Pairs.{Below}
use Rattle.format.specs.Editions.{Edition, edition_in}

-- ---- one number

-- the bytes of a number below 2^64, in its minimal form, begin with these and go on
abbrev pub Begun : List ℕ → Type 0
Begun bs = (v : ℕ) × (b : ℕ) × (more : List ℕ) × (v < 2 ^ 64) × (number v ≡ bs ++ (b ∷ more))

-- the bytes of no such number begin with these: whatever does is not minimal, or is 2^64 or more
abbrev pub NoNumber : List ℕ → Type 0
NoNumber bs = (v : ℕ) (more : List ℕ) → v < 2 ^ 64 → number v ≡ bs ++ more → ⊥

-- the zero that ends a number of several bytes, or the tenth byte that is not 1
abbrev pub Fault : List ℕ → ℕ → Type 0
Fault begun byte = ((1 ≤ length begun) × (byte ≡ 0)) ⊎ ((length begun ≡ 9) × (byte ≡ 1 → ⊥))

-- a byte that decides: after the bytes before it a number may still go on, after this one none can
pub record Decides (begun : List ℕ) (byte : ℕ) : Type 0 where
  pub not_before : Begun begun
  pub here : NoNumber (begun ++ (byte ∷ []))
  pub fault : Fault begun byte

-- no number stands at the beginning of these bytes: the one at place k decides it
pub record BadBytes (bs : List ℕ) (k : ℕ) : Type 0 where
  pub before : List ℕ
  pub byte : ℕ
  pub after : List ℕ
  pub bytes_are : bs ≡ before ++ (byte ∷ after)
  pub place : length before ≡ k
  pub decides : Decides before byte

-- ---- a column's header

-- the edition, if it was read, is known
abbrev pub FirstKnown : List Edition → List ℕ → Type 0
FirstKnown known [] = Unit {0}
FirstKnown known (k ∷ ns) = (ed : Edition) × (edition_in known k ≡ some ed)

-- whole header numbers, fewer than nine
pub record Whole (known : List Edition) (numbers : List ℕ) : Type 0 where
  pub fewer : length numbers < 9
  pub small : Below (2 ^ 64) numbers
  pub edition : FirstKnown known numbers

-- the header broke at a place
pub record BrokenAt (known : List Edition) (bytes : List ℕ) (place : ℕ) : Type 0 where
  -- the bytes are header numbers, the bytes of one more, the byte that decides it, and what follows
  pub numbers : List ℕ
  pub before : List ℕ
  pub byte : ℕ
  pub after : List ℕ
  pub bytes_are : bytes ≡ bytes_of number numbers ++ (before ++ (byte ∷ after))
  -- all bytes before that number are whole numbers
  pub whole : Whole known numbers
  -- the byte makes it not minimal or 2^64 or more, and no byte before it does
  pub decides : Decides before byte
  -- the place is that byte's, and is below the byte count
  pub place_is : place ≡ length (bytes_of number numbers) + length before
  pub below : place < length bytes

-- the bytes, so many of them, end within a header number
pub record EndsAt (known : List Edition) (bytes : List ℕ) (count : ℕ) : Type 0 where
  -- they are whole header numbers and the beginning of one more, which may be no byte
  pub numbers : List ℕ
  pub before : List ℕ
  pub bytes_are : bytes ≡ bytes_of number numbers ++ before
  pub whole : Whole known numbers
  pub begun : Begun before
  pub count_is : count ≡ length bytes
