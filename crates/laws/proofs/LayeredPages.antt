-- A layered page: its tests, its lists place by place, its kinds; and on two accepted columns the two lists' answers and the sums of words by
-- the formula. Assumes nothing.
use Rattle.format.specs.Kit.{◌≡◌, refl, ap, ap₂, ◌∙◌, false, List, [], ◌∷◌, ◌++◌, map, ℕ, zero, suc, ◌+◌, ◌%◌, ◌^◌, ◌≤◌, ◌<◌, arith, leb, leb-true, le-leb}
use Rattle.format.specs.Kit.{lt-leb, ℤ, length, drop, get_or, length-append, length-map, length-drop, List·getD-append, List·getD-map, drop_at, sets}
use Rattle.format.specs.Limits.{max_id}
use Rattle.format.specs.Refusals.{Outcome, done, refused, need, BUFFER, ID}
use Rattle.format.specs.Editions.{Edition, among}
use Rattle.format.specs.Opening.{Opened, open_column}
use Rattle.format.specs.LookUp.{look_up}
use Rattle.format.specs.Walk.{listed}
use Rattle.format.specs.Layered.{Layer, correction, LayeredLook, found_in, absent_in, refused_by, on_top, look_up_layered, look_up_layered_in}
use Rattle.format.specs.Layered.{lists_answer}
use Rattle.laws.proofs.Cases.{true_or, false_true}
use Rattle.laws.proofs.Stores.{sets_front}
use Rattle.laws.proofs.Demands.{Holds}
use Rattle.laws.proofs.Layered.{opened_layered, lists_answer_lem}
use Rattle.laws.proofs.RefusalNumbers.{layered_refusals}
use Rattle.format.specs.LayeredPage.{layered_kind, machine_words, correction_words, page_by, layered_page, layered_page_in, sum_of, layered_after}
use Rattle.format.specs.LayeredPage.{layered_reply, lists_place, lists_page, machine_formula, correction_formula}

-- ---- the tests, for any way of looking an id up

module _ (look : ℕ → LayeredLook) (ids : List ℕ) (o v k l : ℕ) where
  pub few_ordinals : o < length ids → page_by look ids o v k l ≡ refused BUFFER (length ids)
  unfolding page_by need
  few_ordinals h = rw (lt-leb (length ids) o h)

  pub few_values : length ids ≤ o → v < length ids → page_by look ids o v k l ≡ refused BUFFER (length ids)
  unfolding page_by need
  few_values g h = rw (le-leb (length ids) o g, lt-leb (length ids) v h)

  pub few_kinds : length ids ≤ o → length ids ≤ v → k < length ids → page_by look ids o v k l ≡ refused BUFFER (length ids)
  unfolding page_by need
  few_kinds g j h = rw (le-leb (length ids) o g, le-leb (length ids) v j, lt-leb (length ids) k h)

  pub few_columns : length ids ≤ o → length ids ≤ v → length ids ≤ k → l < length ids → page_by look ids o v k l ≡ refused BUFFER (length ids)
  unfolding page_by need
  few_columns g j i h = rw (le-leb (length ids) o g, le-leb (length ids) v j, le-leb (length ids) k i, lt-leb (length ids) l h)

  pub enough : length ids ≤ o → length ids ≤ v → length ids ≤ k → length ids ≤ l → page_by look ids o v k l ≡ done (map look ids)
  unfolding page_by need
  enough g j i h = rw (le-leb (length ids) o g, le-leb (length ids) v j, le-leb (length ids) k i, le-leb (length ids) l h)

-- ---- a list afterwards

pub get_D_of_map : {A B : Type 0} (g : B → A) (xs : List B) (i : ℕ) (b : B) (d : A) → i < length xs → get_or (map g xs) i d ≡ g (get_or xs i b)
get_D_of_map g [] i b d h = absurd (omega arith)
get_D_of_map g (x ∷ xs) zero b d h = refl
get_D_of_map g (x ∷ xs) (suc i) b d h = get_D_of_map g xs i b d (omega arith)

module _ {A : Type 0} (f : LayeredLook → A) (look : ℕ → LayeredLook) (ids : List ℕ) (l : List A) where
  abbrev after : List A
  after = layered_after f (done (map look ids)) l

  places : length (map f (map look ids)) ≡ length ids
  places = length-map (map look ids) f ∙ length-map ids look

  -- place i holds what the single look-up gives for id i
  pub place_holds : (i : ℕ) (d : A) → i < length ids → get_or after i d ≡ f (look (get_or ids i 0))
  unfolding layered_after
  place_holds i d h =
      List·getD-append (map f (map look ids)) _ d i (omega (arith, places))
      ∙ get_D_of_map f (map look ids) i (look 0) d (omega (arith, length-map ids look))
      ∙ ap f (List·getD-map look ids i 0)

  -- places after the ids stay unchanged,
  pub places_stay : drop (length ids) after ≡ drop (length ids) l
  unfolding layered_after
  places_stay = drop_at (map f (map look ids)) _ (length ids) places ∙ ap (λ (n : ℕ). drop n l) (length-map ids look)

  module _ (h : length ids ≤ length l) where
    -- and so does the length
    pub length_stays : length after ≡ length l
    unfolding layered_after
    length_stays =
        omega (
          arith,
          length-append (map f (map look ids)) (drop (length (map look ids)) l),
          places,
          length-map ids look,
          length-drop (length (map look ids)) l,
        )

    -- the answers stored from the first place on
    pub stored : sets l 0 (map f (map look ids)) ≡ after
    unfolding layered_after
    stored =
        sets_front l (map f (map look ids)) (omega (arith, places))
        ∙ ap (λ (n : ℕ). map f (map look ids) ++ drop n l) (length-map (map look ids) f)

-- ---- pages that look ids up alike are alike

same_map : {A B : Type 0} (f g : A → B) → ((a : A) → f a ≡ g a) → (xs : List A) → map f xs ≡ map g xs
same_map f g e [] = refl
same_map f g e (x ∷ xs) = ap₂ (λ a l. a ∷ l) (e x) (same_map f g e xs)

same_page : (f g : ℕ → LayeredLook) → ((id : ℕ) → f id ≡ g id) → (ids : List ℕ) (o v k l : ℕ) → page_by f ids o v k l ≡ page_by g ids o v k l
unfolding page_by
same_page f g e ids o v k l = rw (same_map f g e ids)

-- from columns opened before the page is as from their bytes
pub opened_page : (known : List Edition) (m : List ℕ) (x : Opened) (c : List ℕ) (y : Opened)
    → open_column known m ≡ done x → open_column known c ≡ done y
    → (ids : List ℕ) (o v k l : ℕ) → layered_page_in m x c y ids o v k l ≡ layered_page known m c ids o v k l
unfolding layered_page_in layered_page
opened_page known m x c y ex ey = same_page (look_up_layered_in m x c y) (look_up_layered known m c) (λ id. opened_layered known m x c y id ex ey)

-- ---- sums

sum_of_map : {A B : Type 0} (f : B → ℕ) (g : A → B) (h : A → ℕ) → ((a : A) → f (g a) ≡ h a) → (xs : List A) → sum_of f (map g xs) ≡ sum_of h xs
unfolding sum_of
sum_of_map f g h e [] = refl
sum_of_map f g h e (x ∷ xs) = ap₂ (λ (a b : ℕ). a + b) (e x) (sum_of_map f g h e xs)

-- ---- any bytes: 14, by the correction

pub id_above : (known : List Edition) (m c : List ℕ) (id : ℕ) → leb id max_id ≡ false → look_up_layered known m c id ≡ refused_by correction ID 0
unfolding look_up_layered look_up on_top need
id_above known m c id h = rw h refl

-- ---- kinds: no look-up is refused with 0 or 1, so that 0 is a found id and 1 an absent one

found_kind : (l : LayeredLook) → ((layer : Layer) (w : ℕ) → l ≡ refused_by layer 0 w → ⊥) → layered_kind l ≡ 0
    → (layer : Layer) × (o : ℕ) × (v : ℤ) × (w : ℕ) × (k : ℕ) × (l ≡ found_in layer o v w k)
unfolding layered_kind
found_kind (found_in layer o v w k) n e = (layer, o, v, w, k, refl)
found_kind (absent_in w k) n e = absurd (omega arith)
found_kind (refused_by layer why x) n e = absurd (n layer x (rw e refl))

absent_kind : (l : LayeredLook) → ((layer : Layer) (w : ℕ) → l ≡ refused_by layer 1 w → ⊥) → layered_kind l ≡ 1 → (w : ℕ) × (k : ℕ) × (l ≡ absent_in w k)
unfolding layered_kind
absent_kind (found_in layer o v w k) n e = absurd (omega arith)
absent_kind (absent_in w k) n e = (w, k, refl)
absent_kind (refused_by layer why x) n e = absurd (n layer x (rw e refl))

module _ (known : List Edition) (m c : List ℕ) (id : ℕ) where
  pub kind_0 : layered_kind (look_up_layered known m c id) ≡ 0
      → (layer : Layer) × (o : ℕ) × (v : ℤ) × (w : ℕ) × (k : ℕ) × (look_up_layered known m c id ≡ found_in layer o v w k)
  unfolding among
  kind_0 = found_kind _ (λ layer w e. false_true (layered_refusals m c id 0 w known layer e))

  pub kind_1 : layered_kind (look_up_layered known m c id) ≡ 1 → (w : ℕ) × (k : ℕ) × (look_up_layered known m c id ≡ absent_in w k)
  unfolding among
  kind_1 = absent_kind _ (λ layer w e. false_true (layered_refusals m c id 1 w known layer e))

-- ---- two columns that the check accepts, each of its own edition and rank power

module _ (known : List Edition) (m c : List ℕ) (x : Holds known m) (y : Holds known c) where
  abbrev p : ℕ
  p = x.opened.head.power

  abbrev k : ℕ
  k = y.opened.head.power

  -- each place is the two lists' answer, and 14 above the greatest id;
  pub lists_place_lem : (id : ℕ) → look_up_layered known m c id ≡ lists_place p x.pairs k y.pairs id
  unfolding lists_place
  lists_place_lem id =
      true_or (leb id max_id)
      (λ h. rw h (lists_answer_lem known m c x y id (leb-true id max_id h)))
      (λ h. rw h (id_above known m c id h))

  -- so the page is the two lists' page
  pub lists_page_lem : (ids : List ℕ) (o v n l : ℕ) → layered_page known m c ids o v n l ≡ lists_page p x.pairs k y.pairs ids o v n l
  unfolding layered_page lists_page
  lists_page_lem = same_page (look_up_layered known m c) (lists_place p x.pairs k y.pairs) lists_place_lem

  machine_words_is : (id : ℕ) → machine_words (lists_place p x.pairs k y.pairs id) ≡ machine_formula p x.pairs y.pairs id
  unfolding machine_words machine_formula lists_place lists_answer
  machine_words_is id =
      true_or (leb id max_id)
      (λ h. true_or (listed id y.pairs.ids) (λ i. rw (h, i)) (λ i. true_or (listed id x.pairs.ids) (λ j. rw (h, i, j)) (λ j. rw (h, i, j))))
      (λ h. rw h)

  correction_words_is : (id : ℕ) → correction_words (lists_place p x.pairs k y.pairs id) ≡ correction_formula k y.pairs id
  unfolding correction_words correction_formula lists_place lists_answer
  correction_words_is id =
      true_or (leb id max_id)
      (λ h. true_or (listed id y.pairs.ids) (λ i. rw (h, i)) (λ i. true_or (listed id x.pairs.ids) (λ j. rw (h, i, j)) (λ j. rw (h, i, j))))
      (λ h. rw h)

  -- and the sums of words are those of the formula, for each column's own list and rank power
  pub machine_sum : (ids : List ℕ) → sum_of machine_words (map (look_up_layered known m c) ids) ≡ sum_of (machine_formula p x.pairs y.pairs) ids
  machine_sum = sum_of_map machine_words (look_up_layered known m c) _ (λ id. ap machine_words (lists_place_lem id) ∙ machine_words_is id)

  pub correction_sum : (ids : List ℕ) → sum_of correction_words (map (look_up_layered known m c) ids) ≡ sum_of (correction_formula k y.pairs) ids
  correction_sum = sum_of_map correction_words (look_up_layered known m c) _ (λ id. ap correction_words (lists_place_lem id) ∙ correction_words_is id)

  -- so that the call hands these back, each modulo 2^64
  pub reply_sums : (ids : List ℕ) (o v n l : ℕ) → length ids ≤ o → length ids ≤ v → length ids ≤ n → length ids ≤ l
      → layered_reply (layered_page known m c ids o v n l)
      ≡ done (sum_of (machine_formula p x.pairs y.pairs) ids % 2 ^ 64, sum_of (correction_formula k y.pairs) ids % 2 ^ 64)
  unfolding layered_page layered_reply
  reply_sums ids o v n l a b d e = rw (enough (look_up_layered known m c) ids o v n l a b d e, machine_sum ids, correction_sum ids) refl
