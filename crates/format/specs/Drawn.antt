-- The values of ordinals that follow each other, up to the first that has none. Assumes nothing.
use Rattle.std.specs.Prelude.{◌∷◌}
use Rattle.format.specs.Kit.{ℕ, zero, suc, List, [], Option, none, some, ℤ}

-- a value in front; none stops the row
unfoldable pub drawn_by : Option ℤ → List ℤ → List ℤ
drawn_by (some v) vs = v ∷ vs
drawn_by none vs = []

-- of k ordinals from x on
unfoldable pub drawn : (ℕ → Option ℤ) → ℕ → ℕ → List ℤ
drawn f zero x = []
drawn f (suc k) x = let more : List ℤ = drawn f k (suc x) in drawn_by (f x) more
