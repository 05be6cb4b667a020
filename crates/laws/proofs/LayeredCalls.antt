-- The calls: refused exactly where the first step is, with `next`'s refusals, the correction's first; and from columns opened before they answer
-- as from their bytes. Assumes nothing.
use Rattle.format.specs.Kit.{◌≡◌, refl, sym, ap, ap₂, ◌∙◌, subst, Bool, true, false, List, ℕ, arith, leb, le-leb}
use Rattle.format.specs.Limits.{max_id}
use Rattle.format.specs.Refusals.{Outcome, done, refused, and_then, need}
use Rattle.format.specs.Editions.{Edition}
use Rattle.format.specs.Opening.{Opened, open_column, head_ok, length_ok}
use Rattle.format.specs.Next.{Candidate, candidate_at, no_candidate, next_steps, new_cursor, next, next_in}
use Rattle.format.specs.Layered.{Layer, machine, correction}
use Rattle.laws.proofs.Cases.{true_or, false_true}
use Rattle.laws.proofs.Open.{opened_ok}
use Rattle.format.specs.LayeredReading.{LayeredNext, next_pair, no_pair, refused_next, next_from, sooner, next_of_both}
use Rattle.format.specs.LayeredReading.{layered_steps, LayeredReading, LayeredRead, read_to, refused_read, both_then, answering_from, column_from, column_from_in, read_layered}
use Rattle.format.specs.LayeredReading.{read_layered_in}

-- ---- from columns opened before

pub opened_from : (known : List Edition) (bytes : List ℕ) (c : Opened) (t : ℕ) → open_column known bytes ≡ done c → column_from_in bytes c t ≡
    column_from known bytes t
unfolding column_from_in column_from and_then need
opened_from known bytes c t o =
    let k = opened_ok known bytes c o in
    rw (o, k.rules, k.lengths)

pub opened_read : (known : List Edition) (m : List ℕ) (x : Opened) (c : List ℕ) (y : Opened) (t room : ℕ) → open_column known m ≡ done x
    → open_column known c ≡ done y → read_layered_in m x c y t room ≡ read_layered known m c t room
unfolding read_layered_in read_layered
opened_read known m x c y t room ex ey = rw (opened_from known m x t ex, opened_from known c y t ey)

-- ---- refused exactly where the first step is

-- what the column that a reading takes says of `next` with a new cursor: refused alike, or this column's steps
abbrev pub Starts : List ℕ → ℕ → Outcome Candidate → Outcome Opened → Type 0
Starts bytes t first (done c) = (first ≡ next_steps bytes c t) × ((a : Candidate) × (first ≡ done a))
Starts bytes t first (refused why w) = first ≡ refused why w

by_next : (bytes : List ℕ) (t : ℕ) (c : Opened) (o : Outcome Candidate) → next_steps bytes c t ≡ o → Starts bytes t o (and_then o (λ first. done c))
unfolding and_then
by_next bytes t c (done a) e = (sym e, (a, refl))
by_next bytes t c (refused why w) e = refl

by_opening : (bytes : List ℕ) (t : ℕ) (o : Outcome Opened) → Starts bytes t (and_then o (λ c. next_steps bytes c t)) (and_then o (answering_from bytes t))
unfolding and_then answering_from
by_opening bytes t (done c) = by_next bytes t c (next_steps bytes c t) refl
by_opening bytes t (refused why w) = refl

pub starts : (known : List Edition) (bytes : List ℕ) (t : ℕ) → Starts bytes t (next known bytes new_cursor t) (column_from known bytes t)
unfolding next column_from need
starts known bytes t =
    true_or (leb t max_id)
    (λ h. rw (h, le-leb 0 t (omega arith)) (by_opening bytes t (open_column known bytes)))
    (λ h. rw h refl)

module _ (known : List Edition) (bytes : List ℕ) (t : ℕ) where
  pub start_refused : (why w : ℕ) → column_from known bytes t ≡ refused why w → next known bytes new_cursor t ≡ refused why w
  start_refused why w e = subst (Starts bytes t (next known bytes new_cursor t)) e (starts known bytes t)

  pub start_done : (c : Opened) → column_from known bytes t ≡ done c → (a : Candidate) × (next known bytes new_cursor t ≡ done a)
  start_done c e = (subst (Starts bytes t (next known bytes new_cursor t)) e (starts known bytes t)).1

  pub refused_start : (why w : ℕ) → next known bytes new_cursor t ≡ refused why w → column_from known bytes t ≡ refused why w
  refused_start why w f = go (column_from known bytes t) (starts known bytes t)
    where
      go : (o : Outcome Opened) → Starts bytes t (next known bytes new_cursor t) o → o ≡ refused why w
      go (done c) s = absurd (let d = sym s.1.1 ∙ f in let z : ◌≡◌ {A = ℕ} 0 1 = cc in omega arith)
      go (refused v x) s =
          let d : ◌≡◌ {A = Outcome Candidate} (refused v x) (refused why w) = sym s ∙ f in
          ap₂ {C = Outcome Opened} (λ (a b : ℕ). refused a b) (cc) (cc)

  pub done_start : (a : Candidate) → next known bytes new_cursor t ≡ done a → (c : Opened) × (column_from known bytes t ≡ done c)
  done_start a f = go (column_from known bytes t) refl
    where
      go : (o : Outcome Opened) → column_from known bytes t ≡ o → (c : Opened) × (column_from known bytes t ≡ done c)
      go (done c) e = (c, e)
      go (refused why w) e = absurd (let d = sym (start_refused why w e) ∙ f in let z : ◌≡◌ {A = ℕ} 0 1 = cc in omega arith)

-- in a column that was opened before: it is the column where `next` with a new cursor answers, and refused where that is
pub start_in : (bytes : List ℕ) (c : Opened) (t : ℕ) → column_from_in bytes c t ≡ and_then (next_in bytes c new_cursor t) (λ first. done c)
unfolding column_from_in next_in answering_from need and_then
start_in bytes c t =
    true_or (leb t max_id)
    (λ h.
    true_or (head_ok c.head)
    (λ k. true_or (length_ok bytes c) (λ l. rw (h, le-leb 0 t (omega arith), k, l) refl) (λ l. rw (h, le-leb 0 t (omega arith), k, l) refl))
    (λ k. rw (h, le-leb 0 t (omega arith), k) refl))
    (λ h. rw h refl)

-- ---- what each answer says of the two columns, the correction's a and the machine column's b

abbrev pub BothSay : Outcome Opened → Outcome Opened → (Opened → Opened → LayeredReading) → LayeredRead → Type 0
BothSay a b f (refused_read correction why w) = a ≡ refused why w
BothSay a b f (refused_read machine why w) = (y : Opened) × (a ≡ done y) × (b ≡ refused why w)
BothSay a b f (read_to r) = (y : Opened) × (x : Opened) × (a ≡ done y) × (b ≡ done x) × (r ≡ f y x)

both_say : (a b : Outcome Opened) (f : Opened → Opened → LayeredReading) → BothSay a b f (both_then a b (λ y x. read_to (f y x)))
unfolding both_then
both_say (done y) (done x) f = (y, x, refl, refl, refl)
both_say (done y) (refused why w) f = (y, refl, refl)
both_say (refused why w) b f = refl

pub layered_read_says : (known : List Edition) (m c : List ℕ) (t room : ℕ) (o : LayeredRead) → read_layered known m c t room ≡ o
    → BothSay (column_from known c t) (column_from known m t) (λ y x. layered_steps (next_of_both m x c y) room t) o
unfolding read_layered
layered_read_says known m c t room o e =
    subst (BothSay (column_from known c t) (column_from known m t) (λ y x. layered_steps (next_of_both m x c y) room t)) e (both_say _ _ _)

pub layered_read_in_says : (m : List ℕ) (x : Opened) (c : List ℕ) (y : Opened) (t room : ℕ) (o : LayeredRead) → read_layered_in m x c y t room ≡ o
    → BothSay (column_from_in c y t) (column_from_in m x t) (λ y x. layered_steps (next_of_both m x c y) room t) o
unfolding read_layered_in
layered_read_in_says m x c y t room o e =
    subst (BothSay (column_from_in c y t) (column_from_in m x t) (λ y x. layered_steps (next_of_both m x c y) room t)) e (both_say _ _ _)

-- the first step: what `next` with a new cursor gives in each column
abbrev pub first_step : List Edition → List ℕ → List ℕ → ℕ → LayeredNext
first_step known m c t = sooner (next_from correction (next known c new_cursor t)) (next_from machine (next known m new_cursor t))

-- a call by its first step: refused as that is; else there are two columns, opened, and the reading goes by their steps
abbrev pub ReadsAs : List ℕ → List ℕ → ℕ → ℕ → LayeredNext → LayeredRead → Type 0
ReadsAs m c t room first (refused_read layer why w) = first ≡ refused_next layer why w
ReadsAs m c t room first (read_to r) =
    (x : Opened) × (y : Opened) × (first ≡ next_of_both m x c y t) × (r ≡ layered_steps (next_of_both m x c y) room t)
    × ((layer : Layer) (why w : ℕ) → first ≡ refused_next layer why w → ⊥)

-- two answers never make a refusal
unfoldable refuses : LayeredNext → Bool
refuses (next_pair p) = false
refuses no_pair = false
refuses (refused_next layer why w) = true

abbrev of_both : Outcome Candidate → Outcome Candidate → LayeredNext
of_both a b = sooner (next_from correction a) (next_from machine b)

answered_both : (a b : Candidate) → refuses (of_both (done a) (done b)) ≡ false
unfolding refuses sooner next_from
answered_both (candidate_at i o v) (candidate_at j n u) = true_or (leb i j) (λ h. rw h refl) (λ h. rw h refl)
answered_both (candidate_at i o v) no_candidate = refl
answered_both no_candidate (candidate_at j n u) = refl
answered_both no_candidate no_candidate = refl

refused_below : (a : Candidate) (why w : ℕ) → of_both (done a) (refused why w) ≡ refused_next machine why w
unfolding sooner next_from
refused_below (candidate_at i o v) why w = refl
refused_below no_candidate why w = refl

same_refusal : (l layer : Layer) (n why v w : ℕ) → refused_next l n v ≡ refused_next layer why w → refused_read l n v ≡ refused_read layer why w
same_refusal l layer n why v w e = ap told e
  where
    told : LayeredNext → LayeredRead
    told (refused_next a b d) = refused_read a b d
    told no_pair = refused_read l n v
    told (next_pair p) = refused_read l n v

module _ (m c : List ℕ) (t room : ℕ) where
  by_starts : (a b : Outcome Opened) (f g : Outcome Candidate) → Starts c t f a → Starts m t g b
      → ReadsAs m c t room (of_both f g) (both_then a b (λ y x. read_to (layered_steps (next_of_both m x c y) room t)))
  unfolding both_then next_of_both sooner next_from refuses
  by_starts (done y) (done x) f g s u = (
    x,
    y,
    ap₂ of_both s.0 u.0,
    refl,
    λ layer why w e.
        false_true (sym (answered_both s.1.0 u.1.0) ∙ ap refuses (sym (ap₂ of_both s.1.1 u.1.1)) ∙ ap refuses e),
  )
  by_starts (done y) (refused why w) f g s u = ap₂ of_both s.1.1 u ∙ refused_below s.1.0 why w
  by_starts (refused why w) b f g s u = ap (λ a. of_both a g) s

  module _ (known : List Edition) where
    pub reads : ReadsAs m c t room (first_step known m c t) (read_layered known m c t room)
    unfolding read_layered
    reads = by_starts (column_from known c t) (column_from known m t) (next known c new_cursor t) (next known m new_cursor t) (starts known c t) (starts known m t)

    -- refused by a column only where the first step is,
    pub refused_first : (layer : Layer) (why w : ℕ) → read_layered known m c t room ≡ refused_read layer why w → first_step known m c t ≡ refused_next layer why w
    refused_first layer why w e = subst (ReadsAs m c t room (first_step known m c t)) e reads

    -- and wherever it is
    pub first_refused : (layer : Layer) (why w : ℕ) → first_step known m c t ≡ refused_next layer why w → read_layered known m c t room ≡ refused_read layer why w
    first_refused layer why w e = go (read_layered known m c t room) reads
      where
        go : (r : LayeredRead) → ReadsAs m c t room (first_step known m c t) r → r ≡ refused_read layer why w
        go (read_to r) s = absurd (s.4 layer why w e)
        go (refused_read l n v) s = same_refusal l layer n why v w (sym s ∙ e)
