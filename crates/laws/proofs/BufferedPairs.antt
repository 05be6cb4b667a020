-- On any bytes: what a walk over one column, put into a buffer, says of that column's next candidate. A walk with a pair has it first, and the
-- rest of it is the walk from the id after; a walk without one, at its end, says that there is none. Assumes nothing.
use Rattle.format.specs.Kit.{◌≡◌, refl, sym, ap, ◌∙◌, Bool, true, false, List, [], ◌∷◌, ℕ, suc, arith, ℤ, length}
use Rattle.format.specs.Refusals.{Outcome, done, refused}
use Rattle.format.specs.Opening.{Opened}
use Rattle.format.specs.Next.{Candidate, candidate_at, no_candidate, next_steps}
use Rattle.format.specs.ReadFrom.{Readout, goes_on, pairs_from}

-- the rest of a walk whose first pair was taken
pub record Rest (bytes : List ℕ) (c : Opened) (k t id : ℕ) (v : ℤ) (is : List ℕ) (vs : List ℤ) (e : Bool) : Type 0 where
  pub ordinal : ℕ
  pub first : next_steps bytes c t ≡ done (candidate_at id ordinal v)
  pub ids : (pairs_from k bytes c (suc id)).ids ≡ is
  pub values : (pairs_from k bytes c (suc id)).values ≡ vs
  pub ended : (pairs_from k bytes c (suc id)).ended ≡ e

module _ (bytes : List ℕ) (c : Opened) (k t : ℕ) where
  abbrev w : Readout
  w = pairs_from (suc k) bytes c t

  no_pair_is : {A X : Type 0} (x : A) (xs : List A) → [] ≡ x ∷ xs → X
  no_pair_is x xs e = absurd (let n = ap (λ l. length l) e in omega (arith, n))

  pub first_of : (id : ℕ) (v : ℤ) (is : List ℕ) (vs : List ℤ) → w.ids ≡ id ∷ is → w.values ≡ v ∷ vs → Rest bytes c k t id v is vs w.ended
  unfolding pairs_from goes_on
  first_of id v is vs a b = go (next_steps bytes c t) refl
    where
      go : (o : Outcome Candidate) → next_steps bytes c t ≡ o → Rest bytes c k t id v is vs w.ended
      go (done (candidate_at i n u)) e =
          let a' = rw e at a in
          let b' = rw e at b in
          let same : i ≡ id = cc in
          let value : u ≡ v = cc in
          rw (sym same, sym value)
          (record { ordinal = n; first = e; ids = cc; values = cc; ended = rw e refl })
      go (done no_candidate) e = no_pair_is id is (rw e at a)
      go (refused why x) e = no_pair_is id is (rw e at a)

  pub none_of : w.ids ≡ [] → w.ended ≡ true → next_steps bytes c t ≡ done no_candidate
  unfolding pairs_from goes_on
  none_of a b = go (next_steps bytes c t) refl
    where
      go : (o : Outcome Candidate) → next_steps bytes c t ≡ o → next_steps bytes c t ≡ done no_candidate
      go (done (candidate_at i n u)) e = no_pair_is i _ (sym (rw e at a))
      go (done no_candidate) e = e
      go (refused why x) e = absurd (let f = rw e at b in let z : ◌≡◌ {A = ℕ} 0 1 = cc in omega arith)
