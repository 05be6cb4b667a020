-- Marks at the places of a table: which entries have a value. Assumes nothing.
use Rattle.std.specs.Prelude.{◌≡◌, ◌<◌, ◌∷◌}
use Rattle.format.specs.Kit.{ℕ, List, [], set, get_or}

-- a mark at each of these places
unfoldable pub marked : List ℕ → List ℕ → List ℕ
marked marks [] = marks
marked marks (c ∷ cs) = marked (set marks c 1) cs

-- each of the first t places has a mark
abbrev pub AllMarked : List ℕ → ℕ → Type 0
AllMarked marks t = (k : ℕ) → k < t → get_or marks k 0 ≡ 0 → ⊥
