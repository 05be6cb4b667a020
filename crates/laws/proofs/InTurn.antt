-- Ids taken in turn (document 02, [1]): a run of them apart from the rest, a run of absent ones, the first that is not absent; and the calls by
-- their tests. Assumes nothing.
use Rattle.format.specs.Kit.{◌≡◌, refl, true, false, List, ℕ, zero, suc, ◌+◌, ◌≤◌, ◌<◌, add-zero, arith, leb, ℤ}
use Rattle.format.specs.Limits.{max_id}
use Rattle.format.specs.Refusals.{Outcome, done, refused, and_then, need, HEADER, LENGTH, ID, BACK}
use Rattle.format.specs.Editions.{Edition}
use Rattle.format.specs.Opening.{Opened, open_column, head_ok, length_ok}
use Rattle.format.specs.LookUp.{found, absent, scanned, steps}
use Rattle.format.specs.Next.{Candidate, candidate_at, decides, in_turn, next_steps, next, next_in}
use Rattle.laws.proofs.Open.{opened_ok}

module _ (bytes : List ℕ) (c : Opened) where
  -- j ids and then k
  pub apart : (j k id : ℕ) (more : Outcome Candidate) → in_turn (j + k) bytes c id more ≡ in_turn j bytes c id (in_turn k bytes c (id + j) more)
  unfolding in_turn
  apart zero k id more =
      let e : 0 + k ≡ k = omega arith in
      rw (e, add-zero id)
  apart (suc j) k id more =
      let e : suc j + k ≡ suc (j + k) = omega arith in
      let f : id + suc j ≡ suc id + j = omega arith in
      rw (e, f, apart j k (suc id) more)

  pub all_absent : (w : ℕ → ℕ) (n id : ℕ) (more : Outcome Candidate)
      → ((y : ℕ) → id ≤ y → y < id + n → steps scanned bytes c y ≡ done (absent (w y))) → in_turn n bytes c id more ≡ more
  unfolding in_turn decides
  all_absent w zero id more h = refl
  all_absent w (suc n) id more h =
      rw (h id (omega arith) (omega arith)) (all_absent w n (suc id) more (λ y a b. h y (omega arith) (omega arith)))

  -- the first id decides, whatever stands above it
  pub found_first : (n id : ℕ) (more : Outcome Candidate) → 0 < n → (o : ℕ) (v : ℤ) (w : ℕ) → steps scanned bytes c id ≡ done (found o v w)
      → in_turn n bytes c id more ≡ done (candidate_at id o v)
  unfolding in_turn decides
  found_first zero id more h o v w e = absurd (omega arith)
  found_first (suc n) id more h o v w e = rw e

  pub refused_first : (n id : ℕ) (more : Outcome Candidate) → 0 < n → (why x : ℕ) → steps scanned bytes c id ≡ refused why x
      → in_turn n bytes c id more ≡ refused why x
  unfolding in_turn decides
  refused_first zero id more h why x e = absurd (omega arith)
  refused_first (suc n) id more h why x e = rw e

-- ---- the calls: the first test that fails

module _ (known : List Edition) (bytes : List ℕ) (last t : ℕ) where
  pub id_above : leb t max_id ≡ false → next known bytes last t ≡ refused ID 0
  unfolding next need
  id_above h = rw h

  pub gone_back : leb t max_id ≡ true → leb last t ≡ false → next known bytes last t ≡ refused BACK 0
  unfolding next need
  gone_back h l = rw (h, l)

  module _ (h : leb t max_id ≡ true) (l : leb last t ≡ true) where
    pub not_opened : (why w : ℕ) → open_column known bytes ≡ refused why w → next known bytes last t ≡ refused why w
    unfolding next need and_then
    not_opened why w e = rw (h, l, e)

    pub opened : (c : Opened) → open_column known bytes ≡ done c → next known bytes last t ≡ next_steps bytes c t
    unfolding next need and_then
    opened c e = rw (h, l, e)

module _ (bytes : List ℕ) (c : Opened) (last t : ℕ) where
  pub id_above_in : leb t max_id ≡ false → next_in bytes c last t ≡ refused ID 0
  unfolding next_in need
  id_above_in h = rw h

  pub gone_back_in : leb t max_id ≡ true → leb last t ≡ false → next_in bytes c last t ≡ refused BACK 0
  unfolding next_in need
  gone_back_in h l = rw (h, l)

  module _ (h : leb t max_id ≡ true) (l : leb last t ≡ true) where
    pub header_in : head_ok c.head ≡ false → next_in bytes c last t ≡ refused HEADER 0
    unfolding next_in need
    header_in e = rw (h, l, e)

    pub length_in : head_ok c.head ≡ true → length_ok bytes c ≡ false → next_in bytes c last t ≡ refused LENGTH 0
    unfolding next_in need
    length_in e f = rw (h, l, e, f)

    pub steps_in : head_ok c.head ≡ true → length_ok bytes c ≡ true → next_in bytes c last t ≡ next_steps bytes c t
    unfolding next_in need
    steps_in e f = rw (h, l, e, f)

  -- from a column opened before, the call answers as it does from the bytes
  pub opened_next : (known : List Edition) → open_column known bytes ≡ done c → next_in bytes c last t ≡ next known bytes last t
  unfolding next_in next and_then need
  opened_next known o =
      let k = opened_ok known bytes c o in
      rw (o, k.rules, k.lengths)
