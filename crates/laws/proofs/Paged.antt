-- A page of ids (document 02, [3]): its tests, its lists place by place, and its kinds. Assumes nothing.
use Rattle.format.specs.Kit.{◌≡◌, refl, ap, ◌∙◌, List, [], ◌∷◌, ◌++◌, map, ℕ, zero, suc, ◌≤◌, ◌<◌, arith, le-leb, lt-leb, ℤ, length, drop, get_or}
use Rattle.format.specs.Kit.{length-append, length-map, length-drop, List·getD-append, List·getD-map, drop_at, sets}
use Rattle.format.specs.Refusals.{Outcome, done, refused, need, BUFFER}
use Rattle.format.specs.Editions.{Edition, among}
use Rattle.format.specs.LookUp.{Look, found, absent, look_up}
use Rattle.format.specs.Page.{place_kind, page, page_after}
use Rattle.laws.proofs.Stores.{sets_front}
use Rattle.laws.proofs.Cases.{false_true}
use Rattle.laws.proofs.RefusalNumbers.{look_up_refusals}

-- ---- the tests

module _ (known : List Edition) (bytes ids : List ℕ) (o v k : ℕ) where
  pub few_ordinals : o < length ids → page known bytes ids o v k ≡ refused BUFFER (length ids)
  unfolding page need
  few_ordinals h = rw (lt-leb (length ids) o h)

  pub few_values : length ids ≤ o → v < length ids → page known bytes ids o v k ≡ refused BUFFER (length ids)
  unfolding page need
  few_values g h = rw (le-leb (length ids) o g, lt-leb (length ids) v h)

  pub few_kinds : length ids ≤ o → length ids ≤ v → k < length ids → page known bytes ids o v k ≡ refused BUFFER (length ids)
  unfolding page need
  few_kinds g j h = rw (le-leb (length ids) o g, le-leb (length ids) v j, lt-leb (length ids) k h)

  pub enough : length ids ≤ o → length ids ≤ v → length ids ≤ k → page known bytes ids o v k ≡ done (map (look_up known bytes) ids)
  unfolding page need
  enough g j h = rw (le-leb (length ids) o g, le-leb (length ids) v j, le-leb (length ids) k h)

-- ---- a list afterwards

get_D_of_map : {A B : Type 0} (g : B → A) (xs : List B) (i : ℕ) (b : B) (d : A) → i < length xs → get_or (map g xs) i d ≡ g (get_or xs i b)
get_D_of_map g [] i b d h = absurd (omega arith)
get_D_of_map g (x ∷ xs) zero b d h = refl
get_D_of_map g (x ∷ xs) (suc i) b d h = get_D_of_map g xs i b d (omega arith)

module _ {A : Type 0} (f : Outcome Look → A) (known : List Edition) (bytes ids : List ℕ) (l : List A) where
  abbrev after : List A
  after = page_after f (done (map (look_up known bytes) ids)) l

  places : length (map f (map (look_up known bytes) ids)) ≡ length ids
  places = length-map (map (look_up known bytes) ids) f ∙ length-map ids (look_up known bytes)

  -- place i holds what the single look-up gives for id i
  pub place_holds : (i : ℕ) (d : A) → i < length ids → get_or after i d ≡ f (look_up known bytes (get_or ids i 0))
  unfolding page_after
  place_holds i d h =
      List·getD-append (map f (map (look_up known bytes) ids)) _ d i (omega (arith, places))
      ∙ get_D_of_map f (map (look_up known bytes) ids) i (look_up known bytes 0) d (omega (arith, length-map ids (look_up known bytes)))
      ∙ ap f (List·getD-map (look_up known bytes) ids i 0)

  -- places after the ids stay unchanged,
  pub places_stay : drop (length ids) after ≡ drop (length ids) l
  unfolding page_after
  places_stay =
      drop_at (map f (map (look_up known bytes) ids)) _ (length ids) places ∙ ap (λ (n : ℕ). drop n l) (length-map ids (look_up known bytes))

  module _ (h : length ids ≤ length l) where
    -- and so does the length
    pub length_stays : length after ≡ length l
    unfolding page_after
    length_stays =
        let n = length-map ids (look_up known bytes) in
        omega (
          arith,
          length-append (map f (map (look_up known bytes) ids)) (drop (length (map (look_up known bytes) ids)) l),
          places,
          n,
          length-drop (length (map (look_up known bytes) ids)) l,
        )

    -- the answers stored from the first place on
    pub stored : sets l 0 (map f (map (look_up known bytes) ids)) ≡ after
    unfolding page_after
    stored =
        sets_front l (map f (map (look_up known bytes) ids)) (omega (arith, places))
        ∙ ap (λ (n : ℕ). map f (map (look_up known bytes) ids) ++ drop n l) (length-map (map (look_up known bytes) ids) f)

-- ---- kinds: no look-up is refused with 0 or 1, so that 0 is a found id and 1 an absent one

found_kind : (x : Outcome Look) → ((w : ℕ) → x ≡ refused 0 w → ⊥) → place_kind x ≡ 0 → (o : ℕ) × (v : ℤ) × (w : ℕ) × (x ≡ done (found o v w))
unfolding place_kind
found_kind (done (found o v w)) n e = (o, v, w, refl)
found_kind (done (absent w)) n e = absurd (omega arith)
found_kind (refused why w) n e = absurd (n w (ap {B = Outcome Look} (λ (m : ℕ). refused m w) e))

absent_kind : (x : Outcome Look) → ((w : ℕ) → x ≡ refused 1 w → ⊥) → place_kind x ≡ 1 → (w : ℕ) × (x ≡ done (absent w))
unfolding place_kind
absent_kind (done (found o v w)) n e = absurd (omega arith)
absent_kind (done (absent w)) n e = (w, refl)
absent_kind (refused why w) n e = absurd (n w (ap {B = Outcome Look} (λ (m : ℕ). refused m w) e))

module _ (known : List Edition) (bytes : List ℕ) (id : ℕ) where
  pub kind_0 : place_kind (look_up known bytes id) ≡ 0 → (o : ℕ) × (v : ℤ) × (w : ℕ) × (look_up known bytes id ≡ done (found o v w))
  unfolding among
  kind_0 = found_kind _ (λ w e. false_true (look_up_refusals known bytes id 0 w e))

  pub kind_1 : place_kind (look_up known bytes id) ≡ 1 → (w : ℕ) × (look_up known bytes id ≡ done (absent w))
  unfolding among
  kind_1 = absent_kind _ (λ w e. false_true (look_up_refusals known bytes id 1 w e))
