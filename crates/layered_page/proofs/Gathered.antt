-- The absent ids of a part are gathered with their places, and what is answered for them is put there. Assumes nothing.
use Rattle.format.specs.Kit.{◌≡◌, refl, sym, ap, ap₂, ◌∙◌, true, false, cond, List, [], ◌∷◌, ◌++◌, append_assoc, ℕ, zero, suc, ◌+◌, ◌-◌, ◌≤◌, ◌<◌, add-one}
use Rattle.format.specs.Kit.{sub-zero, zero-add, arith, eqb, ℤ}
use Rattle.format.specs.Kit.{length, drop, get_or, set, take, length-set, drop-cons, drop_of_length-le, take-suc-set, sets}
use lib.Seq.{take-set-le}
use Rattle.laws.proofs.Cases.{true_or}
use Rattle.laws.proofs.Stores.{sets_front}
use Rattle.layered_page.specs.Absent.{absent_ids, absent_places, put_all}
use Rattle.layered_page.specs.Pages.{Within}

-- ---- one more, or none

one_in : (l : List ℕ) (n x : ℕ) (rest whole : List ℕ) → n < length l → take n l ++ (x ∷ rest) ≡ whole → take (n + 1) (set l n x) ++ rest ≡ whole
one_in l n x rest whole h e =
    ap (λ (j : ℕ). take j (set l n x) ++ rest) (add-one n)
    ∙ ap (λ (m : List ℕ). m ++ rest) (take-suc-set l n x h)
    ∙ append_assoc (take n l) (x ∷ []) rest
    ∙ e

none_in : (l : List ℕ) (n x : ℕ) (rest whole : List ℕ) → take n l ++ rest ≡ whole → take n (set l n x) ++ rest ≡ whole
none_in l n x rest whole e = ap (λ (m : List ℕ). m ++ rest) (take-set-le n l n x (omega arith)) ∙ e

next_cons : (l : List ℕ) (i x : ℕ) → i < length l → x ≡ get_or l i 0 → drop i l ≡ x ∷ drop (i + 1) l
next_cons l i x h e = drop-cons l i 0 h ∙ ap₂ (λ (a j : ℕ). a ∷ drop j l) (sym e) (sym (add-one i))

module _ (k id i : ℕ) (ks ids : List ℕ) where
  id_taken : eqb k 1 ≡ true → absent_ids (k ∷ ks) (id ∷ ids) ≡ id ∷ absent_ids ks ids
  unfolding absent_ids
  id_taken h = rw h refl

  id_left : eqb k 1 ≡ false → absent_ids (k ∷ ks) (id ∷ ids) ≡ absent_ids ks ids
  unfolding absent_ids
  id_left h = rw h refl

  place_taken : eqb k 1 ≡ true → absent_places i (k ∷ ks) ≡ i ∷ absent_places (suc i) ks
  unfolding absent_places
  place_taken h = rw h refl

  place_left : eqb k 1 ≡ false → absent_places i (k ∷ ks) ≡ absent_places (suc i) ks
  unfolding absent_places
  place_left h = rw h refl

no_places : (i : ℕ) → absent_places i [] ≡ []
unfolding absent_places
no_places i = refl

-- ---- the loop

module _ (ks ids batch₀ places₀ : List ℕ) where
  -- before place i, of which n are gathered
  pub record Gathering (i n : ℕ) (batch places : List ℕ) : Type 0 where
    pub few : n ≤ i
    pub in_ids : take n batch ++ absent_ids (drop i ks) (drop i ids) ≡ absent_ids ks ids
    pub in_places : take n places ++ absent_places i (drop i ks) ≡ absent_places 0 ks
    pub ids_kept : length batch ≡ length batch₀
    pub places_kept : length places ≡ length places₀

  pub gather_begins : Gathering 0 0 batch₀ places₀
  gather_begins = record { few = omega arith; in_ids = refl; in_places = refl; ids_kept = refl; places_kept = refl }

  module _ {i n : ℕ} {batch places : List ℕ} (g : Gathering i n batch places) where
    pub gathers : (k id : ℕ) → i < length ks → i < length ids → n < length batch → n < length places → k ≡ get_or ks i 0 → id ≡ get_or ids i 0
        → Gathering (i + 1) (cond (eqb k 1) (n + 1) n) (set batch n id) (set places n i)
    gathers k id a b c d e f =
        let dk = next_cons ks i k a e in
        let di = next_cons ids i id b f in
        let s : suc i ≡ i + 1 = sym (add-one i) in
        true_or (eqb k 1)
        (λ h.
        record {
          few = rw h (omega (arith, g.few));
          in_ids =
              rw h
              (one_in batch n id _ _ c
              (ap (λ (l : List ℕ). take n batch ++ l) (sym (ap₂ absent_ids dk di ∙ id_taken k id i (drop (i + 1) ks) (drop (i + 1) ids) h)) ∙ g.in_ids));
          in_places =
              rw h
              (one_in places n i _ _ d
              (ap (λ (l : List ℕ). take n places ++ l)
              (sym (ap (absent_places i) dk ∙ place_taken k id i (drop (i + 1) ks) (drop (i + 1) ids) h
              ∙ ap (λ (j : ℕ). i ∷ absent_places j (drop (i + 1) ks)) s)) ∙ g.in_places));
          ids_kept = length-set batch n id ∙ g.ids_kept;
          places_kept = length-set places n i ∙ g.places_kept;
        })
        (λ h.
        record {
          few = rw h (omega (arith, g.few));
          in_ids =
              rw h
              (none_in batch n id _ _
              (ap (λ (l : List ℕ). take n batch ++ l) (sym (ap₂ absent_ids dk di ∙ id_left k id i (drop (i + 1) ks) (drop (i + 1) ids) h)) ∙ g.in_ids));
          in_places =
              rw h
              (none_in places n i _ _
              (ap (λ (l : List ℕ). take n places ++ l)
              (sym (ap (absent_places i) dk ∙ place_left k id i (drop (i + 1) ks) (drop (i + 1) ids) h
              ∙ ap (λ (j : ℕ). absent_places j (drop (i + 1) ks)) s)) ∙ g.in_places));
          ids_kept = length-set batch n id ∙ g.ids_kept;
          places_kept = length-set places n i ∙ g.places_kept;
        })

    pub gathered : length ids ≤ i → length ks ≤ i → (take n batch ≡ absent_ids ks ids) × (take n places ≡ absent_places 0 ks)
    unfolding absent_ids absent_places
    gathered a b =
        let e : drop i ks ≡ [] = drop_of_length-le ks {i = i} b in (
          sym (no_more (take n batch)) ∙ ap (λ (l : List ℕ). take n batch ++ absent_ids l (drop i ids)) (sym e) ∙ g.in_ids,
          sym (no_more (take n places)) ∙ ap (λ (l : List ℕ). take n places ++ absent_places i l) (sym e) ∙ g.in_places,
        )
      where
        no_more : (l : List ℕ) → l ++ [] ≡ l
        no_more [] = refl
        no_more (x ∷ xs) = ap (λ (m : List ℕ). x ∷ m) (no_more xs)

-- a place lies within the kinds
cons_below : (x : ℕ) (l : List ℕ) (m t : ℕ) → x < m → ((s : ℕ) → s < length l → get_or l s 0 < m) → t < suc (length l) → get_or (x ∷ l) t 0 < m
cons_below x l m zero a f h = a
cons_below x l m (suc s) a f h = f s (omega arith)

pub places_within : (j : ℕ) (ks : List ℕ) (t : ℕ) → t < length (absent_places j ks) → get_or (absent_places j ks) t 0 < j + length ks
places_within j [] t h = absurd (no_place h)
  where
    no_place : t < length (absent_places j []) → ⊥
    no_place l = let e : length (absent_places j []) ≡ 0 = ap length (no_places j) in omega arith
places_within j (k ∷ ks) t h =
    true_or (eqb k 1)
    (λ e.
    rw (place_taken k 0 j ks [] e)
    (cons_below j (absent_places (suc j) ks) (j + suc (length ks)) t (omega arith) (λ s l. omega (arith, places_within (suc j) ks s l))
    (rw (place_taken k 0 j ks [] e) at h)))
    (λ e. rw (place_left k 0 j ks [] e) (omega (arith, places_within (suc j) ks t (rw (place_left k 0 j ks [] e) at h))))

-- a part from the first place on
pub front : {A : Type 0} (l : List A) (n : ℕ) → take (n - 0) (drop 0 l) ≡ take n l
front l n = ap (λ (k : ℕ). take k l) (sub-zero n)

pub within_so : {ps ks os : List ℕ} {vs : List ℤ} → ps ≡ absent_places 0 ks → length os ≡ length ks → length vs ≡ length ks → Within ps os vs ks
within_so {ps} {ks} {os} {vs} e a b =
    record {
      in_ordinals = λ t h. omega (arith, a, there t h);
      in_values = λ t h. omega (arith, b, there t h);
      in_kinds = there;
    }
  where
    there : (t : ℕ) → t < length ps → get_or ps t 0 < length ks
    there t h = rw e (rw (zero-add (length ks)) at (places_within 0 ks t (rw e at h)))

-- ---- the answers are put

module _ {A : Type 0} where
  pub length_put_all : (l : List A) (ps : List ℕ) (xs : List A) → length (put_all l ps xs) ≡ length l
  unfolding put_all
  length_put_all l [] xs = refl
  length_put_all l (p ∷ ps) [] = refl
  length_put_all l (p ∷ ps) (x ∷ xs) = length_put_all (set l p x) ps xs ∙ length-set l p x

  module _ (ps : List ℕ) (xs l₀ : List A) where
    -- before answer t
    pub record Putting (t : ℕ) (l : List A) : Type 0 where
      pub same : put_all l (drop t ps) (drop t xs) ≡ put_all l₀ ps xs
      pub kept : length l ≡ length l₀

    pub put_begins : Putting 0 l₀
    put_begins = record { same = refl; kept = refl }

    module _ {t : ℕ} {l : List A} (g : Putting t l) where
      pub puts : (p : ℕ) (x d : A) → t < length ps → t < length xs → p ≡ get_or ps t 0 → x ≡ get_or xs t d → Putting (t + 1) (set l p x)
      unfolding put_all
      puts p x d a b e f =
          let dp = next_cons ps t p a e in
          let dx : drop t xs ≡ x ∷ drop (t + 1) xs =
          drop-cons xs t d b ∙ ap₂ (λ (z : A) (j : ℕ). z ∷ drop j xs) (sym f) (sym (add-one t)) in
          record { same = sym (ap₂ (put_all l) dp dx) ∙ g.same; kept = length-set l p x ∙ g.kept }

      pub put_all_lem : length ps ≤ t → l ≡ put_all l₀ ps xs
      unfolding put_all
      put_all_lem h = sym (ap (λ (q : List ℕ). put_all l q (drop t xs)) (drop_of_length-le ps {i = t} h)) ∙ g.same

  -- answers after those of the places do not matter
  pub put_first : (l : List A) (ps : List ℕ) (xs ys : List A) → length ps ≤ length xs → put_all l ps (xs ++ ys) ≡ put_all l ps xs
  unfolding put_all
  put_first l [] xs ys h = refl
  put_first l (p ∷ ps) [] ys h = absurd (omega arith)
  put_first l (p ∷ ps) (x ∷ xs) ys h = put_first (set l p x) ps xs ys (omega arith)

  pub put_stored : (l : List A) (ps : List ℕ) (xs z : List A) {ys : List A} → length ps ≤ length xs → length xs ≤ length z → ys ≡ sets z 0 xs
      → put_all l ps ys ≡ put_all l ps xs
  put_stored l ps xs z h g e = ap (put_all l ps) (e ∙ sets_front z xs g) ∙ put_first l ps xs (drop (length xs) z) h
