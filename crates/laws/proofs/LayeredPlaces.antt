-- A reading's lists place by place, for what each list holds of a pair (its id, its value, its column). Assumes nothing.
use Rattle.format.specs.Kit.{◌≡◌, ap, ◌∙◌, List, ◌++◌, map, ℕ, ◌≤◌, ◌<◌, arith, length, drop, get_or}
use Rattle.format.specs.Kit.{length-append, length-map, length-drop, List·getD-append, drop_at, sets}
use Rattle.laws.proofs.Stores.{sets_front}
use Rattle.format.specs.LayeredReading.{LayeredPair, LayeredReading, read_to, layered_read_after}
use Rattle.laws.proofs.LayeredPages.{get_D_of_map}

module _ {A : Type 0} (f : LayeredPair → A) (r : LayeredReading) (l : List A) where
  abbrev ps : List LayeredPair
  ps = r.pairs

  abbrev after : List A
  after = layered_read_after f (read_to r) l

  -- place i holds what pair i has,
  pub place_holds : (i : ℕ) (p : LayeredPair) (d : A) → i < length ps → get_or after i d ≡ f (get_or ps i p)
  unfolding layered_read_after
  place_holds i p d h = List·getD-append (map f ps) _ d i (omega (arith, length-map ps f)) ∙ get_D_of_map f ps i p d h

  -- places after the pairs stay unchanged,
  pub places_stay : drop (length ps) after ≡ drop (length ps) l
  unfolding layered_read_after
  places_stay = drop_at (map f ps) _ (length ps) (length-map ps f)

  module _ (h : length ps ≤ length l) where
    -- and so does the length
    pub length_stays : length after ≡ length l
    unfolding layered_read_after
    length_stays = omega (arith, length-append (map f ps) (drop (length ps) l), length-map ps f, length-drop (length ps) l)

    -- the pairs stored from the first place on
    pub stored : sets l 0 (map f ps) ≡ after
    unfolding layered_read_after
    stored = sets_front l (map f ps) (omega (arith, length-map ps f)) ∙ ap (λ (n : ℕ). map f ps ++ drop n l) (length-map ps f)
