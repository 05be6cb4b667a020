-- The turns of the loops that look for a fault. Assumes nothing.
use Rattle.format.specs.Kit.{◌≡◌, refl, true, false, List, [], ◌∷◌, none, some, ℕ, zero, suc, ◌+◌, ◌≤◌, ◌<◌, add-one, arith, leb, length, get_or, drop}
use Rattle.format.specs.Kit.{drop_of_length-le, drop-cons, lt-ltb, le-ltb, le-leb}
use Rattle.format.specs.Limits.{max_id}
use Rattle.format.specs.Pairs.{Asc}
use Rattle.laws.proofs.Places.{asc_from_lem}
use Rattle.format.specs.Writer.{not_above, order_fault, range_fault}

-- ---- the loops

pub order_start : (ids : List ℕ) → order_fault ids ≡ not_above 1 (get_or ids 0 0) (drop 1 ids)
unfolding order_fault not_above
order_start [] = refl
order_start (x ∷ xs) = refl

module _ (ids : List ℕ) (i : ℕ) where
  pub order_end : (a : ℕ) → length ids ≤ i → not_above i a (drop i ids) ≡ none
  unfolding not_above
  order_end a h = rw (drop_of_length-le ids h)

  pub order_more : (a : ℕ) → i < length ids → a < get_or ids i 0 → not_above i a (drop i ids) ≡ not_above (i + 1) (get_or ids i 0) (drop (i + 1) ids)
  unfolding not_above
  order_more a h k = rw (drop-cons ids i 0 h, lt-ltb a (get_or ids i 0) k, add-one i)

  pub order_here : (a : ℕ) → i < length ids → get_or ids i 0 ≤ a → not_above i a (drop i ids) ≡ some i
  unfolding not_above
  order_here a h k = rw (drop-cons ids i 0 h, le-ltb a (get_or ids i 0) k)

  pub range_end : length ids ≤ i → range_fault i (drop i ids) ≡ none
  unfolding range_fault
  range_end h = rw (drop_of_length-le ids h)

  pub range_more : i < length ids → leb (get_or ids i 0) max_id ≡ true → range_fault i (drop i ids) ≡ range_fault (i + 1) (drop (i + 1) ids)
  unfolding range_fault
  range_more h k = rw (drop-cons ids i 0 h, k, add-one i)

  pub range_here : i < length ids → leb (get_or ids i 0) max_id ≡ false → range_fault i (drop i ids) ≡ some i
  unfolding range_fault
  range_here h k = rw (drop-cons ids i 0 h, k)

-- ids that ascend up to one within the limit are all within it
pub in_limit : (i a n : ℕ) (ids : List ℕ) → Asc a ids → length ids ≡ suc n → get_or ids n 0 ≤ max_id → range_fault i ids ≡ none
unfolding range_fault
in_limit i a n [] t e h = absurd (omega arith)
in_limit i a zero (x ∷ []) t e h = rw (le-leb x max_id h)
in_limit i a zero (x ∷ y ∷ ys) t e h = absurd (omega arith)
in_limit i a (suc n) (x ∷ xs) t e h =
    rw (le-leb x max_id (omega (arith, asc_from_lem (suc x) xs n t.1 (omega arith)))) (in_limit (suc i) (suc x) n xs t.1 (omega arith) h)
