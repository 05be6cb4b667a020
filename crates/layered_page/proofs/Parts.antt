-- A list of which the places before i hold both columns' answers, and those from i on the correction's: a part of it, and the part put back. Assumes
-- nothing.
use Rattle.format.specs.Kit.{◌≡◌, refl, sym, ap, ap₂, ◌∙◌, List, [], ◌∷◌, ◌++◌, append_assoc, map, ℕ, zero, suc, ◌+◌, ◌-◌, ◌≤◌, ◌<◌, arith, length, drop, take}
use Rattle.format.specs.Kit.{length-map, length-drop, length-take-le, take_at, drop_at, drop-drop, take-append-le, drop-append-le, take-add, put_mid, Post-is}
use Rattle.format.specs.Kit.{drop_of_length-le, take_all, take-append-drop, length-append, zero-add, add-zero, ◌%◌, ◌^◌, ℤ}
use Rattle.format.specs.Refusals.{Outcome, done}
use Rattle.format.specs.LookUp.{Look}
use Rattle.format.specs.Page.{place_kind, place_ordinal, place_value, page_words}
use Rattle.format.specs.Layered.{LayeredLook}
use Rattle.format.specs.LayeredPage.{layered_kind, layered_ordinal, layered_value, machine_words, correction_words, sum_of}
use Rattle.layered_page.specs.Pages.{both, Laid, Under, Above, Whole}
use Rattle.std.specs.Prelude.{Ok}
use Rattle.layered.specs.Answers.{counted}

module _ {A B : Type 0} (h : A → B) where
  map_append : (xs ys : List A) → map h (xs ++ ys) ≡ map h xs ++ map h ys
  map_append [] ys = refl
  map_append (x ∷ xs) ys = ap (λ (l : List B). h x ∷ l) (map_append xs ys)

  map_take : (n : ℕ) (xs : List A) → take n (map h xs) ≡ map h (take n xs)
  map_take zero xs = refl
  map_take (suc n) [] = refl
  map_take (suc n) (x ∷ xs) = ap (λ (l : List B). h x ∷ l) (map_take n xs)

  map_drop : (n : ℕ) (xs : List A) → drop n (map h xs) ≡ map h (drop n xs)
  map_drop zero xs = refl
  map_drop (suc n) [] = refl
  map_drop (suc n) (x ∷ xs) = map_drop n xs

-- new answers before i, old ones from there on, and the rest
module _ {X Y A : Type 0} (f : X → A) (new : ℕ → X) (g : Y → A) (old : ℕ → Y) (ids : List ℕ) (z : List A) where
  abbrev pub half : ℕ → List A
  half i = map f (map new (take i ids)) ++ (map g (map old (drop i ids)) ++ z)

  module _ (i : ℕ) (u : i ≤ length ids) (l : List A) (e : l ≡ half i) where
    before : length (map f (map new (take i ids))) ≡ i
    before = length-map (map new (take i ids)) f ∙ length-map (take i ids) new ∙ length-take-le i ids u

    after : length (map g (map old (drop i ids))) ≡ length ids - i
    after = length-map (map old (drop i ids)) g ∙ length-map (drop i ids) old ∙ length-drop i ids

    rest : drop i l ≡ map g (map old (drop i ids)) ++ z
    rest = ap (drop i) e ∙ drop_at (map f (map new (take i ids))) _ i before

    module _ (j : ℕ) (a : i ≤ j) (b : j ≤ length ids) where
      -- the part from i to j holds old answers
      pub half_part : take (j - i) (drop i l) ≡ map g (map old (take (j - i) (drop i ids)))
      half_part =
          ap (take (j - i)) rest
          ∙ take-append-le (j - i) (map g (map old (drop i ids))) z (omega (arith, after))
          ∙ map_take g (j - i) (map old (drop i ids))
          ∙ ap (map g) (map_take old (j - i) (drop i ids))

      left : drop j l ≡ map g (map old (drop j ids)) ++ z
      left =
          let s : j ≡ i + (j - i) = omega arith in
          ap (λ (k : ℕ). drop k l) s
          ∙ sym (drop-drop (j - i) i l)
          ∙ ap (drop (j - i)) rest
          ∙ drop-append-le (j - i) (map g (map old (drop i ids))) z (omega (arith, after))
          ∙ ap (λ (q : List A). q ++ z)
          (map_drop g (j - i) (map old (drop i ids))
          ∙ ap (map g) (map_drop old (j - i) (drop i ids) ∙ ap (map old) (drop-drop (j - i) i ids ∙ ap (λ (k : ℕ). drop k ids) (sym s))))

      front : map f (map new (take i ids)) ++ map f (map new (take (j - i) (drop i ids))) ≡ map f (map new (take j ids))
      front =
          let s : i + (j - i) ≡ j = omega arith in
          sym (map_append f (map new (take i ids)) (map new (take (j - i) (drop i ids))))
          ∙ ap (map f)
          (sym (map_append new (take i ids) (take (j - i) (drop i ids)))
          ∙ ap (map new) (sym (take-add i (j - i) ids) ∙ ap (λ (k : ℕ). take k ids) s))

      -- new ones in their place
      pub half_put : (part : List A) → part ≡ map f (map new (take (j - i) (drop i ids))) → put_mid i (j - i) l part ≡ half j
      half_put part p =
          ap₂ (λ (q r : List A). q ++ (part ++ r))
          (ap (take i) e ∙ take_at (map f (map new (take i ids))) _ i before) (Post-is i j l a ∙ left)
          ∙ sym (append_assoc (map f (map new (take i ids))) part (map g (map old (drop j ids)) ++ z))
          ∙ ap (λ (q : List A). q ++ (map g (map old (drop j ids)) ++ z))
          (ap (λ (q : List A). map f (map new (take i ids)) ++ q) p ∙ front)

    -- no place is left
    pub half_ends : length ids ≤ i → l ≡ map f (map new ids) ++ z
    half_ends h =
        e
        ∙ ap₂ (λ (p q : List ℕ). map f (map new p) ++ (map g (map old q) ++ z)) (take_all i ids h) (drop_of_length-le ids {i = i} h)

  pub half_length : (i : ℕ) → i ≤ length ids → length (half i) ≡ length ids + length z
  half_length i u =
      length-append (map f (map new (take i ids))) _
      ∙ omega (
        arith,
        length-append (map g (map old (drop i ids))) z,
        length-map (map new (take i ids)) f,
        length-map (take i ids) new,
        length-take-le i ids u,
        length-map (map old (drop i ids)) g,
        length-map (drop i ids) old,
        length-drop i ids,
      )

-- ---- sums of two parts

sum_append : {X : Type 0} (f : X → ℕ) (xs ys : List X) → sum_of f (xs ++ ys) ≡ sum_of f xs + sum_of f ys
unfolding sum_of
sum_append f [] ys = omega arith
sum_append f (x ∷ xs) ys = omega (arith, sum_append f xs ys)

words_append : (xs ys : List (Outcome Look)) → page_words (xs ++ ys) ≡ page_words xs + page_words ys
unfolding page_words
words_append [] ys = omega arith
words_append (x ∷ xs) ys = omega (arith, words_append xs ys)

module _ (ids : List ℕ) (i j : ℕ) (a : i ≤ j) where
  pub sum_more : {X : Type 0} (f : X → ℕ) (new : ℕ → X)
      → sum_of f (map new (take j ids)) ≡ sum_of f (map new (take i ids)) + sum_of f (map new (take (j - i) (drop i ids)))
  sum_more f new =
      let s : j ≡ i + (j - i) = omega arith in
      ap (λ (k : ℕ). sum_of f (map new (take k ids))) s
      ∙ ap (λ (l : List ℕ). sum_of f (map new l)) (take-add i (j - i) ids)
      ∙ ap (sum_of f) (map_append new (take i ids) (take (j - i) (drop i ids)))
      ∙ sum_append f (map new (take i ids)) (map new (take (j - i) (drop i ids)))

  pub words_more : (old : ℕ → Outcome Look)
      → page_words (map old (drop i ids)) ≡ page_words (map old (take (j - i) (drop i ids))) + page_words (map old (drop j ids))
  words_more old =
      let s : i + (j - i) ≡ j = omega arith in
      ap (λ (l : List ℕ). page_words (map old l)) (sym (take-append-drop (j - i) (drop i ids)))
      ∙ ap page_words (map_append old (take (j - i) (drop i ids)) (drop (j - i) (drop i ids)))
      ∙ words_append (map old (take (j - i) (drop i ids))) (map old (drop (j - i) (drop i ids)))
      ∙ ap (λ (l : List ℕ). page_words (map old (take (j - i) (drop i ids))) + page_words (map old l))
      (drop-drop (j - i) i ids ∙ ap (λ (k : ℕ). drop k ids) s)

-- ---- what was counted too many is taken off, modulo 2^64

add_mod : (a b c : ℕ) → b % 2 ^ 64 ≡ c % 2 ^ 64 → (a + b) % 2 ^ 64 ≡ (a + c) % 2 ^ 64
add_mod a b c h = omega arith

cancel : (x y l : ℕ) → (x + l) % 2 ^ 64 ≡ (y + l) % 2 ^ 64 → x < 2 ^ 64 → x ≡ y % 2 ^ 64
cancel x y l h s = omega arith

-- s words are settled, and p are counted in the part, of which c are right; so q words are left
taken_off : (s s' c p q r l : ℕ) {x : ℕ} → r ≡ p + q → s' ≡ s + c → (c + l) % 2 ^ 64 ≡ p % 2 ^ 64 → (x + l) % 2 ^ 64 ≡ (s + r) % 2 ^ 64 → x < 2 ^ 64
    → x ≡ (s' + q) % 2 ^ 64
taken_off s s' c p q r l {x} er es el ex small =
    let a : s + r ≡ s + q + p = omega arith in
    let b : s + q + (c + l) ≡ s' + q + l = omega arith in
    cancel x (s' + q) l
    (ex ∙ ap (λ (n : ℕ). n % 2 ^ 64) a ∙ sym (add_mod (s + q) (c + l) p el) ∙ ap (λ (n : ℕ). n % 2 ^ 64) b) small

-- ---- the loop over the parts

module _ (top low : ℕ → Outcome Look) (ids : List ℕ) where
  -- before place i: the lists at the start, and now; and the words, the machine column's and the correction's
  pub record Going (i : ℕ) (os₀ os : List ℕ) (vs₀ vs : List ℤ) (ks₀ ks : List ℕ) (machine correction : ℕ) : Type 0 where
    pub upto : i ≤ length ids
    pub in_ordinals : os ≡ half layered_ordinal (both top low) place_ordinal top ids (drop (length ids) os₀) i
    pub in_values : vs ≡ half layered_value (both top low) place_value top ids (drop (length ids) vs₀) i
    pub in_kinds : ks ≡ half layered_kind (both top low) place_kind top ids (drop (length ids) ks₀) i
    pub machine_words_is : machine ≡ sum_of machine_words (map (both top low) (take i ids)) % 2 ^ 64
    pub correction_words_is :
        correction ≡ (sum_of correction_words (map (both top low) (take i ids)) + page_words (map top (drop i ids))) % 2 ^ 64

  pub begins : (os : List ℕ) (vs : List ℤ) (ks : List ℕ) (counted : ℕ) → Above top ids os vs ks → counted ≡ page_words (map top ids) % 2 ^ 64
      → Going 0 os os vs vs ks ks 0 counted
  unfolding sum_of
  begins os vs ks counted a e =
      record {
        upto = omega arith;
        in_ordinals = a.in_ordinals;
        in_values = a.in_values;
        in_kinds = a.in_kinds;
        machine_words_is = refl;
        correction_words_is = e ∙ ap (λ (n : ℕ). n % 2 ^ 64) (sym (zero-add (page_words (map top ids))));
      }

  module _ {i : ℕ} {os₀ os : List ℕ} {vs₀ vs : List ℤ} {ks₀ ks : List ℕ} {w k : ℕ} (g : Going i os₀ os vs₀ vs ks₀ ks w k) where
    module _ (j : ℕ) (a : i ≤ j) (b : j ≤ length ids) where
      abbrev part : List ℕ
      part = take (j - i) (drop i ids)

      pub part_laid : Laid top part (take (j - i) (drop i os)) (take (j - i) (drop i vs)) (take (j - i) (drop i ks))
      part_laid =
          record {
            in_ordinals = half_part layered_ordinal (both top low) place_ordinal top ids _ i g.upto os g.in_ordinals j a b;
            in_values = half_part layered_value (both top low) place_value top ids _ i g.upto vs g.in_values j a b;
            in_kinds = half_part layered_kind (both top low) place_kind top ids _ i g.upto ks g.in_kinds j a b;
          }

      pub goes_on : {os' : List ℕ} {vs' : List ℤ} {ks' : List ℕ} {machine lost w' k' : ℕ} → Under top low part os' vs' ks' machine lost
          → w' ≡ (w + machine) % 2 ^ 64 → (k' + lost) % 2 ^ 64 ≡ k → k' < 2 ^ 64
          → Going j os₀ (put_mid i (j - i) os os') vs₀ (put_mid i (j - i) vs vs') ks₀ (put_mid i (j - i) ks ks') w' k'
      goes_on {os'} {vs'} {ks'} u ew ek small =
          record {
            upto = b;
            in_ordinals = half_put layered_ordinal (both top low) place_ordinal top ids _ i g.upto os g.in_ordinals j a b os' u.in_ordinals;
            in_values = half_put layered_value (both top low) place_value top ids _ i g.upto vs g.in_values j a b vs' u.in_values;
            in_kinds = half_put layered_kind (both top low) place_kind top ids _ i g.upto ks g.in_kinds j a b ks' u.in_kinds;
            machine_words_is = omega (arith, ew, g.machine_words_is, u.machine_words_is, sum_more ids i j a machine_words (both top low));
            correction_words_is =
                taken_off _ _ _ _ _ _ _ (words_more ids i j a top) (sum_more ids i j a correction_words (both top low)) u.lost_words_is
                (ek ∙ g.correction_words_is) small;
          }

    -- each list keeps its length
    kept : {A : Type 0} (f : LayeredLook → A) (h : Outcome Look → A) (l₀ l : List A) → l₀ ≡ map h (map top ids) ++ drop (length ids) l₀
        → l ≡ half f (both top low) h top ids (drop (length ids) l₀) i → (length l ≡ length l₀) × (length ids ≤ length l₀)
    kept f h l₀ l e x =
        let a = length-map (map top ids) h ∙ length-map ids top in
        let b = ap length e ∙ length-append (map h (map top ids)) (drop (length ids) l₀) in
        let c = ap length x ∙ half_length f (both top low) h top ids (drop (length ids) l₀) i g.upto in
        (omega (arith, a, b, c), omega (arith, a, b))

    pub os_kept : Above top ids os₀ vs₀ ks₀ → (length os ≡ length os₀) × (length ids ≤ length os₀)
    os_kept t = kept layered_ordinal place_ordinal os₀ os t.in_ordinals g.in_ordinals

    pub vs_kept : Above top ids os₀ vs₀ ks₀ → (length vs ≡ length vs₀) × (length ids ≤ length vs₀)
    vs_kept t = kept layered_value place_value vs₀ vs t.in_values g.in_values

    pub ks_kept : Above top ids os₀ vs₀ ks₀ → (length ks ≡ length ks₀) × (length ids ≤ length ks₀)
    ks_kept t = kept layered_kind place_kind ks₀ ks t.in_kinds g.in_kinds

    pub ends : length ids ≤ i → Whole top low ids os₀ os vs₀ vs ks₀ ks (Ok (counted w k))
    unfolding page_words
    ends h =
        let t : take i ids ≡ ids = take_all i ids h in
        let d : drop i ids ≡ [] = drop_of_length-le ids {i = i} h in
        record {
          in_ordinals = half_ends layered_ordinal (both top low) place_ordinal top ids _ i g.upto os g.in_ordinals h;
          in_values = half_ends layered_value (both top low) place_value top ids _ i g.upto vs g.in_values h;
          in_kinds = half_ends layered_kind (both top low) place_kind top ids _ i g.upto ks g.in_kinds h;
          reply =
              ap₂ (λ (x y : ℕ). done (x, y))
              (g.machine_words_is ∙ ap (λ (l : List ℕ). sum_of machine_words (map (both top low) l) % 2 ^ 64) t)
              (g.correction_words_is
              ∙ ap₂ (λ (l m : List ℕ). (sum_of correction_words (map (both top low) l) + page_words (map top m)) % 2 ^ 64) t d
              ∙ ap (λ (n : ℕ). n % 2 ^ 64) (add-zero (sum_of correction_words (map (both top low) ids))));
        }
