-- The question's reader, which knows edition 3 alone, and the question on an opened column. Assumes nothing.
use Rattle.format.specs.Kit.{◌≡◌, sym, ap, ap₂, ◌∙◌, true, false, List, [], ◌∷◌, none, ℕ, ◌+◌, ◌-◌, ◌/◌, ◌%◌, ◌^◌, ◌≤◌, ◌<◌, and-false, lt-ltb, le-ltb}
use Rattle.format.specs.Kit.{cond, not, eqb, eq-eqb, ne_eqb, arith, ℤ, le_z, leb, mag, length}
use Rattle.format.specs.Kit.{take, drop, take_all, length-take, length-drop, eqb-true}
use Rattle.format.specs.Refusals.{done, refused, and_then, need, given, EDITION, HEADER, LENGTH}
use Rattle.format.specs.HeaderNumbers.{number_at}
use Rattle.format.specs.ValueRuns.{run_length, summary_at}
use Rattle.format.specs.Editions.{Edition, runs, number_of, editions, edition_in, codec}
use Rattle.format.specs.Opening.{Opened, open_column, head_ok, length_ok, value_part, value_in, value_of}
use Rattle.format.specs.BetweenFrom.{from_value, between_steps_from, first_between_from_in}
use Rattle.signed.specs.Sign.{biased}
use Rattle.signed.proofs.Signs.{unbiased_biased}
use Rattle.laws.proofs.Cases.{true_or, false_true}
use Rattle.run_search.proofs.Ordered.{le_Z_unbiased}

-- ---- opening

module _ (bytes : List ℕ) where
  pub same_unread : {why w : ℕ} → number_at bytes 0 ≡ refused why w → open_column (runs ∷ []) bytes ≡ open_column editions bytes
  unfolding open_column and_then
  same_unread e = rw e

  same_runs : {next : ℕ} → number_at bytes 0 ≡ done (3, next) → open_column (runs ∷ []) bytes ≡ open_column editions bytes
  unfolding open_column and_then given edition_in editions number_of
  same_runs e = rw e

  other_refused : {n next : ℕ} → number_at bytes 0 ≡ done (n, next) → (n ≡ 3 → ⊥) → open_column (runs ∷ []) bytes ≡ refused EDITION 0
  unfolding open_column and_then given edition_in number_of
  other_refused {n} e h = rw (e, ne_eqb n 3 h)

  pub other_read : {n next : ℕ} → number_at bytes 0 ≡ done (n, next)
      → open_column (runs ∷ []) bytes ≡ cond (not (eqb n 3)) (refused EDITION 0) (open_column editions bytes)
  other_read {n} {next} e =
      true_or (eqb n 3)
      (λ h. rw h (same_runs (e ∙ ap (λ (m : ℕ). done (m, next)) (eqb-true n 3 h))))
      (λ h. rw h (other_refused e (λ m. false_true (sym h ∙ eq-eqb n 3 m))))

-- ---- the question on an opened column

module _ (bytes : List ℕ) (c : Opened) (o : ℕ) (a b : ℤ) where
  pub in_other : (number_of c.head.edition ≡ 3 → ⊥) → refused EDITION 0 ≡ first_between_from_in bytes c o a b
  unfolding first_between_from_in need number_of
  in_other h = rw (ne_eqb (number_of c.head.edition) 3 h)

  module _ (e : number_of c.head.edition ≡ 3) where
    pub in_header : head_ok c.head ≡ false → refused HEADER 0 ≡ first_between_from_in bytes c o a b
    unfolding first_between_from_in need number_of
    in_header h = rw (eq-eqb (number_of c.head.edition) 3 e, h)

    pub in_length : head_ok c.head ≡ true → length_ok bytes c ≡ false → refused LENGTH 0 ≡ first_between_from_in bytes c o a b
    unfolding first_between_from_in need number_of
    in_length h l = rw (eq-eqb (number_of c.head.edition) 3 e, h, l)

    pub in_steps : head_ok c.head ≡ true → length_ok bytes c ≡ true → between_steps_from bytes c o a b ≡ first_between_from_in bytes c o a b
    unfolding first_between_from_in need number_of
    in_steps h l = rw (eq-eqb (number_of c.head.edition) 3 e, h, l)

-- ---- the steps

module _ (bytes : List ℕ) (c : Opened) (o : ℕ) (a b : ℤ) where
  pub steps_none : le_z a b ≡ false → done none ≡ between_steps_from bytes c o a b
  unfolding between_steps_from
  steps_none h = rw h

  -- the values by their ordinals, in any list that is the value section
  its_values : (s : List ℕ) → s ≡ value_part bytes c → c.head.edition ≡ runs → (i : ℕ)
      → (codec runs).value c.head.count c.head.fields s i ≡ value_of bytes c i
  unfolding value_of value_in
  its_values s p e i = ap₂ (λ (ed : Edition) (l : List ℕ). (codec ed).value c.head.count c.head.fields l i) (sym e) p

  pub steps_above : c.head.count ≤ o → done none ≡ between_steps_from bytes c o a b
  unfolding between_steps_from
  steps_above h = rw (le-ltb o c.head.count h, and-false (le_z a b))

  searched : le_z a b ≡ true → o < c.head.count
      → from_value (value_of bytes c) (summary_at (value_part bytes c)) a b c.head.count (o / run_length) (o % run_length) ≡ between_steps_from bytes c o a b
  unfolding between_steps_from
  searched h l = rw (h, lt-ltb o c.head.count l)

  pub steps_search : le_z a b ≡ true → o < c.head.count → c.head.edition ≡ runs → (s : List ℕ) → s ≡ value_part bytes c
      → from_value ((codec runs).value c.head.count c.head.fields s) (summary_at s) a b c.head.count (o / run_length) (o % run_length)
      ≡ between_steps_from bytes c o a b
  steps_search h l e s p =
      let n : ℕ = c.head.count in
      let q : from_value ((codec runs).value n c.head.fields s) (summary_at s) a b n (o / run_length) (o % run_length)
      ≡ from_value (value_of bytes c) (summary_at (value_part bytes c)) a b n (o / run_length) (o % run_length) =
      λ j. from_value (λ i. its_values s p e i j) (summary_at (p j)) a b n (o / run_length) (o % run_length) in
      q ∙ searched h l

-- the order of the ends in their biased forms
pub ends : (a b : ℤ) → mag a < 2 ^ 63 → mag b < 2 ^ 63 → le_z a b ≡ leb (biased a) (biased b)
ends a b fa fb = ap₂ le_z (sym (unbiased_biased a fa)) (sym (unbiased_biased b fb)) ∙ le_Z_unbiased (biased a) (biased b)

-- the value section
pub value_part_lem : (bytes : List ℕ) (c : Opened) (end : ℕ) → end ≡ c.start + c.head.id_bytes
    → take (length bytes - end) (drop end bytes) ≡ value_part bytes c
unfolding value_part
value_part_lem bytes c end e = take_all (length bytes - end) (drop end bytes) (omega (arith, length-drop end bytes)) ∙ ap (λ (i : ℕ). drop i bytes) e

pub value_length : (bytes : List ℕ) (c : Opened) (end : ℕ) → end ≡ c.start + c.head.id_bytes → length_ok bytes c ≡ true
    → length (take (length bytes - end) (drop end bytes)) ≡ c.head.value_bytes
value_length bytes c end e w =
    let all : c.start + c.head.id_bytes + c.head.value_bytes ≡ length bytes = eqb-true _ _ w in
    omega (arith, length-take (length bytes - end) (drop end bytes), length-drop end bytes)
