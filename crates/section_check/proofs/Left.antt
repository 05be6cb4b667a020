-- What follows the end block. Assumes nothing.
use Rattle.format.specs.Kit.{◌≡◌, refl, sym, List, [], ℕ, suc, ◌+◌, length, eq-eqb, ne_eqb}
use Rattle.format.specs.Refusals.{done, refused, and_then, need}
use Rattle.format.specs.Ids.{Entry, not_two}
use Rattle.format.specs.Orders.{Order}
use Rattle.format.specs.Judge.{jump_wrong, left_over, Ended, judge_from, jumps_in, judge_entries, judge_rest, judge}

pub two : (es : List Entry) → length es ≡ 2 → not_two es ≡ []
unfolding not_two
two es e = rw (eq-eqb (length es) 2 e)

pub not_two_lem : (es : List Entry) → (length es ≡ 2 → ⊥) → not_two es ≡ es
unfolding not_two
not_two_lem es e = rw (ne_eqb (length es) 2 e)

pub no_entries : (ord : Order) (s : List ℕ) (at : ℕ) → done at ≡ judge_entries ord [] s at
unfolding judge_entries
no_entries ord s at = refl

-- l are the entries that have to stand there
module _ (ord : Order) (es l : List Entry) (q : not_two es ≡ l) (j : ℕ) (s : List ℕ) (e : Ended) where
  pub rest_count : (j ≡ length l → ⊥) → refused jump_wrong (e.start + 6) ≡ judge_rest ord (not_two es) j s e
  unfolding judge_rest need
  rest_count h = rw (q, ne_eqb j (length l) h)

  module _ (k : j ≡ length l) (b : ℕ) where
    pub rest_wrong : (why : ℕ) → refused why b ≡ judge_entries ord l s (e.start + 6) → refused why b ≡ judge_rest ord (not_two es) j s e
    unfolding judge_rest need and_then
    rest_wrong why h = rw (q, eq-eqb j (length l) k, ← h)

    pub rest_over : done b ≡ judge_entries ord l s (e.start + 6) → (b ≡ length s → ⊥) → refused left_over b ≡ judge_rest ord (not_two es) j s e
    unfolding judge_rest need and_then
    rest_over h z = rw (q, eq-eqb j (length l) k, ← h, ne_eqb b (length s) z)

    pub rest_right : done b ≡ judge_entries ord l s (e.start + 6) → b ≡ length s → done e.count ≡ judge_rest ord (not_two es) j s e
    unfolding judge_rest need and_then
    rest_right h z = rw (q, eq-eqb j (length l) k, ← h, eq-eqb b (length s) z)

pub judge_fault : (ord : Order) (p j : ℕ) (s : List ℕ) (why at : ℕ) → refused why at ≡ judge_from (suc (length s)) ord p s 0 0 0
    → refused why at ≡ judge ord p j s
unfolding judge and_then
judge_fault ord p j s why at e = rw (sym e) refl

pub judge_rest_lem : (ord : Order) (p j : ℕ) (s : List ℕ) (e : Ended) → done e ≡ judge_from (suc (length s)) ord p s 0 0 0
    → judge_rest ord (not_two (jumps_in ord p s)) j s e ≡ judge ord p j s
unfolding judge and_then
judge_rest_lem ord p j s e h = rw (sym h) refl
