-- The words that do not count, summed one after the other. Assumes nothing.
use Rattle.format.specs.Kit.{◌≡◌, refl, sym, ap, ap₂, ◌∙◌, cond, List, [], ◌∷◌, ◌++◌, map, ℕ, ◌+◌, ◌%◌, ◌^◌, ◌≤◌, ◌<◌, zero-add, add-one, arith, leb, le-leb}
use Rattle.format.specs.Kit.{lt-leb}
use Rattle.format.specs.Kit.{length, drop, get_or, drop-cons, drop_of_length-le}
use Rattle.format.specs.Refusals.{Outcome}
use Rattle.format.specs.LookUp.{Look}
use Rattle.format.specs.Page.{place_words, page_words}
use Rattle.layered_page.specs.Absent.{lost_words}

-- a page of one id
pub one_word : (look : ℕ → Outcome Look) (id w : ℕ) → w ≡ page_words (map look (id ∷ [])) % 2 ^ 64 → w ≡ place_words (look id) % 2 ^ 64
unfolding page_words
one_word look id w e = omega (arith, e)

module _ (look : ℕ → Outcome Look) (k id : ℕ) (ks ids : List ℕ) where
  first_word : lost_words look (k ∷ ks) (id ∷ ids) ≡ cond (leb k 1) 0 (place_words (look id)) + lost_words look ks ids
  unfolding lost_words
  first_word = refl

  kept_word : k ≤ 1 → lost_words look (k ∷ ks) (id ∷ ids) ≡ lost_words look ks ids
  unfolding lost_words
  kept_word h = rw (le-leb k 1 h) (zero-add (lost_words look ks ids))

  lost_word : 1 < k → lost_words look (k ∷ ks) (id ∷ ids) ≡ place_words (look id) + lost_words look ks ids
  unfolding lost_words
  lost_word h = rw (lt-leb k 1 h) refl

none_lost : (look : ℕ → Outcome Look) (ks : List ℕ) → lost_words look ks [] ≡ 0
unfolding lost_words
none_lost look [] = refl
none_lost look (k ∷ ks) = refl

-- kinds after those of the ids do not matter
pub lost_first : (look : ℕ → Outcome Look) (ks more ids : List ℕ) → length ids ≤ length ks → lost_words look (ks ++ more) ids ≡ lost_words look ks ids
lost_first look ks more [] h = none_lost look (ks ++ more) ∙ sym (none_lost look ks)
lost_first look [] more (id ∷ ids) h = absurd (omega arith)
lost_first look (k ∷ ks) more (id ∷ ids) h =
    first_word look k id (ks ++ more) ids
    ∙ ap (λ (n : ℕ). cond (leb k 1) 0 (place_words (look id)) + n) (lost_first look ks more ids (omega arith))
    ∙ sym (first_word look k id ks ids)

module _ (look : ℕ → Outcome Look) (ks ids : List ℕ) where
  -- before id i
  pub record Losing (i w : ℕ) : Type 0 where
    pub left : (w + lost_words look (drop i ks) (drop i ids)) % 2 ^ 64 ≡ lost_words look ks ids % 2 ^ 64
    pub small : w < 2 ^ 64

  pub lose_begins : Losing 0 0
  lose_begins = record { left = ap (λ (n : ℕ). n % 2 ^ 64) (zero-add (lost_words look ks ids)); small = omega arith }

  module _ {i w : ℕ} (g : Losing i w) (a : i < length ks) (b : i < length ids) where
    next : lost_words look (drop i ks) (drop i ids) ≡ lost_words look (get_or ks i 0 ∷ drop (i + 1) ks) (get_or ids i 0 ∷ drop (i + 1) ids)
    next =
        ap₂ (lost_words look)
        (drop-cons ks i 0 a ∙ ap (λ (j : ℕ). get_or ks i 0 ∷ drop j ks) (sym (add-one i)))
        (drop-cons ids i 0 b ∙ ap (λ (j : ℕ). get_or ids i 0 ∷ drop j ids) (sym (add-one i)))

    pub keeps : get_or ks i 0 ≤ 1 → Losing (i + 1) w
    keeps h =
        record {
          left = ap (λ (n : ℕ). (w + n) % 2 ^ 64) (sym (next ∙ kept_word look (get_or ks i 0) (get_or ids i 0) (drop (i + 1) ks) (drop (i + 1) ids) h)) ∙ g.left;
          small = g.small;
        }

    pub loses : {x w' : ℕ} → 1 < get_or ks i 0 → x ≡ place_words (look (get_or ids i 0)) % 2 ^ 64 → w' ≡ (w + x) % 2 ^ 64 → Losing (i + 1) w'
    loses h ex ew =
        let e = next ∙ lost_word look (get_or ks i 0) (get_or ids i 0) (drop (i + 1) ks) (drop (i + 1) ids) h in
        record { left = omega (arith, e, ex, ew, g.left); small = omega (arith, ew) }

  pub all_lost : {i w : ℕ} → Losing i w → length ids ≤ i → w ≡ lost_words look ks ids % 2 ^ 64
  all_lost {i} {w} g h =
      let e : lost_words look (drop i ks) (drop i ids) ≡ 0 =
      ap (lost_words look (drop i ks)) (drop_of_length-le ids {i = i} h) ∙ none_lost look (drop i ks) in
      omega (arith, g.left, g.small)
