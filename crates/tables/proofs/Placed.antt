-- A value's place among entries that ascend, by halving; the order of signed numbers by their biased forms. Assumes nothing.
use Rattle.std.specs.List.{IsAllAdjacentAnswer}
use Rattle.format.specs.Kit.{◌≡◌, refl, sym, ◌∙◌, Bool, true, false, cond, List, [], ◌∷◌, ℕ, zero, suc, ◌+◌, ◌^◌, ◌<◌, ◌≤◌, add-one, arith}
use Rattle.format.specs.Kit.{ltb, ℤ, pos, negsuc, mag, lt_z, length, get_or, lt-ltb, le-ltb, ltb-true, ltb-false}
use Rattle.format.specs.Table.{code_in, ascends_from, ascends}
use Rattle.laws.proofs.Ascending.{lt_trans, above_all, tail_ascends, in_at}
use Rattle.laws.proofs.Cases.{equal_or, true_or}
use Rattle.signed.specs.Sign.{biased}

-- ---- the order

pub biased_lt : (u v : ℤ) → mag u < 2 ^ 63 → mag v < 2 ^ 63 → lt_z u v ≡ ltb (biased u) (biased v)
biased_lt u v h k =
    true_or (ltb (biased u) (biased v))
    (λ e. below u v h k (ltb-true _ _ e) ∙ sym e)
    (λ e. above u v h k (ltb-false _ _ e) ∙ sym e)
  where
    below : (u v : ℤ) → mag u < 2 ^ 63 → mag v < 2 ^ 63 → biased u < biased v → lt_z u v ≡ true
    below (pos a) (pos b) h k l = lt-ltb a b (omega arith)
    below (pos a) (negsuc b) h k l = absurd (omega arith)
    below (negsuc a) (pos b) h k l = refl
    below (negsuc a) (negsuc b) h k l = lt-ltb b a (omega arith)

    above : (u v : ℤ) → mag u < 2 ^ 63 → mag v < 2 ^ 63 → biased v ≤ biased u → lt_z u v ≡ false
    above (pos a) (pos b) h k l = le-ltb a b (omega arith)
    above (pos a) (negsuc b) h k l = refl
    above (negsuc a) (pos b) h k l = absurd (omega arith)
    above (negsuc a) (negsuc b) h k l = le-ltb b a (omega arith)

-- entries by their places
asc_at : (us : List ℤ) (i j : ℕ) → ascends us ≡ true → i < j → j < length us → lt_z (get_or us i (pos 0)) (get_or us j (pos 0)) ≡ true
unfolding ascends
asc_at [] i j t h k = absurd (omega arith)
asc_at (u ∷ us) i zero t h k = absurd (omega arith)
asc_at (u ∷ us) zero (suc j) t h k = above_all u us (get_or us j (pos 0)) t (in_at us j (pos 0) (omega arith))
asc_at (u ∷ us) (suc i) (suc j) t h k = asc_at us i j (tail_ascends u us t) (omega arith) (omega arith)

-- ---- halving

-- entries before lo are below v, those from hi on are not
pub record Split (us : List ℤ) (v : ℤ) (lo hi : ℕ) : Type 0 where
  pub order : lo ≤ hi
  pub inside : hi ≤ length us
  pub low : (i : ℕ) → i < lo → lt_z (get_or us i (pos 0)) v ≡ true
  pub high : (i : ℕ) → hi ≤ i → i < length us → lt_z (get_or us i (pos 0)) v ≡ false

pub split_turn : (us : List ℤ) (v : ℤ) (lo hi mid : ℕ) → ascends us ≡ true → Split us v lo hi → lo ≤ mid → mid < hi
    → (t : Bool) → lt_z (get_or us mid (pos 0)) v ≡ t → Split us v (cond t (mid + 1) lo) (cond t hi mid)
split_turn us v lo hi mid up s a b true e =
    record {
      order = omega arith;
      inside = s.inside;
      low = λ i h. equal_or i mid (λ k. rw k e)
          (λ k. lt_trans (get_or us i (pos 0)) (get_or us mid (pos 0)) v (asc_at us i mid up (omega arith) (omega (arith, s.inside))) e);
      high = s.high;
    }
split_turn us v lo hi mid up s a b false e =
    record {
      order = a;
      inside = omega (arith, s.inside);
      low = s.low;
      high = λ i h k.
          equal_or i mid (λ l. rw l e)
          (λ l. true_or (lt_z (get_or us i (pos 0)) v)
          (λ t. t ∙ sym (lt_trans (get_or us mid (pos 0)) (get_or us i (pos 0)) v (asc_at us mid i up (omega arith) k) t) ∙ e) (λ t. t));
    }

-- where they meet is the place
pub split_end : (us : List ℤ) (v : ℤ) (lo : ℕ) → Split us v lo lo → code_in us v ≡ lo
unfolding code_in
split_end [] v lo s = omega (arith, s.inside)
split_end (u ∷ us) v zero s = rw (s.high 0 (omega arith) (omega arith))
split_end (u ∷ us) v (suc lo) s =
    let more : Split us v lo lo =
    record {
      order = omega arith;
      inside = omega (arith, s.inside);
      low = λ i h. s.low (suc i) (omega arith);
      high = λ i h k. s.high (suc i) (omega arith) (omega arith);
    } in
    rw (s.low 0 (omega arith), split_end us v lo more)

-- ---- ascending, neighbour by neighbour

ascends_next : (us : List ℤ) → ((k : ℕ) → suc k < length us → lt_z (get_or us k (pos 0)) (get_or us (suc k) (pos 0)) ≡ true) → ascends us ≡ true
unfolding ascends ascends_from
ascends_next [] h = refl
ascends_next (u ∷ []) h = refl
ascends_next (u ∷ v ∷ us) h = rw (h 0 (omega arith), ascends_next (v ∷ us) (λ k l. h (suc k) (omega arith)))

-- what `is_sorted_by` answers
pub ascends_pairs : (us : List ℤ) (r : Bool) → IsAllAdjacentAnswer (λ x y b. b ≡ lt_z x y) us r → r ≡ ascends us
ascends_pairs us true h = sym (ascends_next us (λ k l. rw add-one at (sym (h k (pos 0) (omega arith)))))
ascends_pairs us false (k, l, d) = true_or (ascends us) (λ t. d (pos 0) ∙ asc_at us k (k + 1) t (omega arith) l ∙ sym t) sym
