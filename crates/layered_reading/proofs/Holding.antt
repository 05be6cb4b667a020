-- What a buffer that holds a column's pairs says of the column's next candidate, and what it holds from the id after on. Assumes nothing.
use Rattle.format.specs.Kit.{◌≡◌, refl, sym, ap, ◌∙◌, Bool, true, false, List, [], ◌∷◌, ℕ, zero, suc, ◌+◌, ◌-◌, ◌≤◌, ◌<◌, add-one, arith, ℤ, pos}
use Rattle.format.specs.Kit.{length, take, drop, get_or, drop-cons}
use Rattle.format.specs.Limits.{max_id}
use Rattle.format.specs.Refusals.{Outcome, done, refused}
use Rattle.format.specs.Opening.{Opened}
use Rattle.format.specs.Next.{Candidate, candidate_at, no_candidate, next_steps}
use Rattle.format.specs.ReadFrom.{is_none, goes_on, pairs_from}
use Rattle.laws.proofs.Cases.{below_or, false_true}
use Rattle.laws.proofs.NextKept.{none_past}
use Rattle.laws.proofs.BufferedPairs.{first_of}
use Rattle.layered_reading.specs.Parts.{Holds}

-- a place's element in front of those after it
taken : {A : Type 0} (l : List A) (at count : ℕ) (d : A) → at < count → count ≤ length l
    → take (count - at) (drop at l) ≡ get_or l at d ∷ take (count - (at + 1)) (drop (at + 1) l)
taken l at count d h k =
    let e : count - at ≡ suc (count - (at + 1)) = omega arith in
    rw (e, drop-cons l at d (omega arith), add-one at) refl

none_taken : {A : Type 0} (l : List A) (at count : ℕ) → at ≡ count → take (count - at) (drop at l) ≡ []
none_taken l at count h = let e : count - at ≡ 0 = omega arith in rw e refl

module _ (bytes : List ℕ) (c : Opened) where
  -- the steps go only by the next candidate
  same_steps : (k t u : ℕ) → next_steps bytes c u ≡ next_steps bytes c t → pairs_from k bytes c u ≡ pairs_from k bytes c t
  unfolding pairs_from
  same_steps zero t u e = rw e refl
  same_steps (suc k) t u e = rw e refl

  module _ (is : List ℕ) (vs : List ℤ) (at count : ℕ) (ended : Bool) where
    pub stays : (t u : ℕ) → next_steps bytes c u ≡ next_steps bytes c t → Holds bytes c t is vs at count ended → Holds bytes c u is vs at count ended
    stays t u e h =
        let s = same_steps h.room t u e in
        record { room = h.room; ids = rw s h.ids; values = rw s h.values; last = rw s h.last }

    -- its first pair is the next candidate, and the others are the column's from the id after on
    pub record First (t : ℕ) : Type 0 where
      pub ordinal : ℕ
      pub first : next_steps bytes c t ≡ done (candidate_at (get_or is at 0) ordinal (get_or vs at (pos 0)))
      pub others : Holds bytes c (suc (get_or is at 0)) is vs (at + 1) count ended

    no_room : {X : Type 0} (x : ℕ) (xs : List ℕ) (t : ℕ) → (pairs_from 0 bytes c t).ids ≡ x ∷ xs → X
    unfolding pairs_from
    no_room x xs t e = absurd (let n = ap (λ (l : List ℕ). length l) e in omega (arith, n))

    pub has_first : (t : ℕ) → at < count → count ≤ length is → count ≤ length vs → Holds bytes c t is vs at count ended → First t
    has_first t h a b g = go g.room g.ids g.values g.last
      where
        go : (k : ℕ) → (pairs_from k bytes c t).ids ≡ take (count - at) (drop at is) → (pairs_from k bytes c t).values ≡ take (count - at) (drop at vs)
            → (pairs_from k bytes c t).ended ≡ ended → First t
        go zero i v e = no_room (get_or is at 0) (take (count - (at + 1)) (drop (at + 1) is)) t (i ∙ taken is at count 0 h a)
        go (suc k) i v e =
            let r = first_of bytes c k t (get_or is at 0) (get_or vs at (pos 0)) _ _ (i ∙ taken is at count 0 h a) (v ∙ taken vs at count (pos 0) h b) in
            record {
              ordinal = r.ordinal;
              first = r.first;
              others = record { room = k; ids = r.ids; values = r.values; last = r.ended ∙ e };
            }

    -- without a pair: whether there is none is what it says
    empty_none : (k t : ℕ) → (pairs_from k bytes c t).ids ≡ [] → is_none (next_steps bytes c t) ≡ (pairs_from k bytes c t).ended
    unfolding pairs_from goes_on is_none
    empty_none zero t e = refl
    empty_none (suc k) t e = go (next_steps bytes c t) refl
      where
        go : (o : Outcome Candidate) → next_steps bytes c t ≡ o → is_none o ≡ (goes_on o (λ id. pairs_from k bytes c (suc id))).ended
        go (done (candidate_at i n u)) f =
            absurd (let g = rw f at e in let n = ap (λ (l : List ℕ). length l) g in omega (arith, n))
        go (done no_candidate) f = refl
        go (refused why w) f = refl

    pub whether_none : (t : ℕ) → at ≡ count → Holds bytes c t is vs at count ended → is_none (next_steps bytes c t) ≡ ended
    whether_none t h g = empty_none g.room t (g.ids ∙ none_taken is at count h) ∙ g.last

-- none is none
pub is_none_lem : (o : Outcome Candidate) → is_none o ≡ true → o ≡ done no_candidate
unfolding is_none
is_none_lem (done (candidate_at i n v)) e = false_true e
is_none_lem (done no_candidate) e = refl
is_none_lem (refused why w) e = false_true e

module _ (bytes : List ℕ) (c : Opened) (t : ℕ) where
  -- a column that has one can be asked
  pub askable : is_none (next_steps bytes c t) ≡ false → t ≤ max_id
  unfolding is_none
  askable e = below_or max_id t (λ l. false_true (sym e ∙ ap is_none (none_past bytes c t l))) (λ l. l)
