-- The least and the greatest of some numbers. Assumes nothing.
use Rattle.std.specs.Prelude.{◌∷◌}
use Rattle.format.specs.Kit.{List, [], ℕ, min, max}

-- of a and each number
unfoldable pub least_from : ℕ → List ℕ → ℕ
least_from a [] = a
least_from a (x ∷ xs) = least_from (min a x) xs

unfoldable pub most_from : ℕ → List ℕ → ℕ
most_from a [] = a
most_from a (x ∷ xs) = most_from (max a x) xs
