-- Document 02, [4]: "each call that reads a header passes it on; a page [3] alone keeps to its bare kinds". Numbers 7 to 11 of each such call are opening's, so
-- that 8 comes with the place of the byte that decided it and 7 with the byte count, exactly, on every input. Assumes nothing.
use Rattle.format.specs.Kit.{◌≡◌, ◌↔◌, refl, ap, Bool, true, false, List, [], ◌∷◌, ℕ, ◌≤◌, ◌<◌, arith, lit<, lit≤, ℤ, leb-true, le-leb}
use Rattle.format.specs.Limits.{max_id}
use Rattle.format.specs.Refusals.{Outcome, done, refused, and_then, need, SHORT, NUMBER, LENGTH, ID, BACK}
use Rattle.format.specs.Pairs.{Below}
use Rattle.format.specs.Faults.{BrokenAt, EndsAt}
use Rattle.format.specs.Editions.{Edition, runs}
use Rattle.format.specs.Opening.{Opened, open_column}
use Rattle.format.specs.Check.{check, reading}
use Rattle.format.specs.LookUp.{Look, found, absent, look_up}
use Rattle.format.specs.Next.{Candidate, new_cursor, next}
use Rattle.format.specs.FirstBetween.{first_between}
use Rattle.format.specs.BetweenFrom.{first_between_from}
use Rattle.format.specs.ReadFrom.{read_from}
use Rattle.format.specs.PairAt.{pair_at}
use Rattle.format.specs.Layered.{machine, correction, refused_by, on_top, underneath, look_up_layered}
use Rattle.format.specs.LayeredReading.{both_then, refused_read, column_from, read_layered}
use Rattle.format.specs.Page.{place_kind}
use Rattle.format.proofs.Only.{Only, only, at_done, at_need, at_then, of_accepted, of_steps, of_next, of_read, of_answering, of_pair}
use Rattle.format.proofs.Only.{of_between, of_between_from}
use Rattle.laws.proofs.Tests.{needed, stopped}
use Rattle.laws.proofs.HeaderFaults.{open_number, open_short}
use Rattle.laws.proofs.Layered.{layered_says}
use Rattle.laws.proofs.LayeredCalls.{start_done, done_start, layered_read_says}

-- ---- what follows opening, and what comes before it, has other numbers

abbrev Later : ℕ → Type 0
Later k = LENGTH < k

module _ (known : List Edition) (bytes : List ℕ) (why w : ℕ) (l : why ≤ LENGTH) where
  opening_alone : {A : Type 0} (f : Opened → Outcome A) → ((c : Opened) → Only Later (f c))
      → (and_then (open_column known bytes) f ≡ refused why w) ↔ (open_column known bytes ≡ refused why w)
  unfolding and_then
  opening_alone f later = (
    λ e. stopped (open_column known bytes) f why w e (λ x. x) (λ c x g. absurd (omega (arith, l, only Later (f c) why w (later c) g))),
    λ e. rw e refl,
  )

  -- a test before it was passed
  test_before : {A : Type 0} (t : Bool) (k v : ℕ) (next : Outcome A) → Later k → need t k v next ≡ refused why w → (t ≡ true) × (next ≡ refused why w)
  unfolding need
  test_before true k v next h e = (refl, e)
  test_before false k v next h e = absurd (let z : why ≡ k = cc in omega arith)

-- an id that is answered is within the limit
answered_within : (known : List Edition) (bytes : List ℕ) (id : ℕ) (x : Look) → look_up known bytes id ≡ done x → id ≤ max_id
unfolding look_up
answered_within known bytes id x e = leb-true id max_id (needed _ _ _ _ x e).0

next_within : (known : List Edition) (bytes : List ℕ) (t : ℕ) (a : Candidate) → next known bytes new_cursor t ≡ done a → t ≤ max_id
unfolding next
next_within known bytes t a e = leb-true t max_id (needed _ _ _ _ a e).0

-- ---- the calls

-- "the bytes are so" is exactly what each call says with this refusal and number; those that are told an id test it first
pub record Exactly (known : List Edition) (bytes : List ℕ) (why w : ℕ) (So : Type 0) : Type 0 where
  pub opening : (open_column known bytes ≡ refused why w) ↔ So
  pub checking : (check known bytes ≡ refused why w) ↔ So
  pub full_reading : (idRoom valueRoom : ℕ) → (reading known bytes idRoom valueRoom ≡ refused why w) ↔ So
  pub looking : (id : ℕ) → (look_up known bytes id ≡ refused why w) ↔ ((id ≤ max_id) × So)
  pub nexting : (last t : ℕ) → (next known bytes last t ≡ refused why w) ↔ ((t ≤ max_id) × (last ≤ t) × So)
  pub reading_from : (t room : ℕ) → (read_from known bytes t room ≡ refused why w) ↔ ((t ≤ max_id) × So)
  pub pairing : (i : ℕ) → (pair_at known bytes i ≡ refused why w) ↔ So
  -- as the correction; and as the machine column, wherever the correction has the id as absent
  pub on_top_is : (m : List ℕ) (id : ℕ) → (look_up_layered known m bytes id ≡ refused_by correction why w) ↔ ((id ≤ max_id) × So)
  pub below : (c : List ℕ) (id : ℕ)
      → (look_up_layered known bytes c id ≡ refused_by machine why w) ↔ ((k : ℕ) × (look_up known c id ≡ done (absent k)) × So)
  -- pairs of both columns: as the correction; and as the machine column, wherever the correction's first candidate is no refusal
  pub reading_on_top : (m : List ℕ) (t room : ℕ) → (read_layered known m bytes t room ≡ refused_read correction why w) ↔ ((t ≤ max_id) × So)
  pub reading_below : (c : List ℕ) (t room : ℕ)
      → (read_layered known bytes c t room ≡ refused_read machine why w) ↔ ((a : Candidate) × (next known c new_cursor t ≡ done a) × So)

module _ (known : List Edition) (bytes : List ℕ) (why w : ℕ) (l : why ≤ LENGTH) (So : Type 0) (o : (open_column known bytes ≡ refused why w) ↔ So) where
  checks : (check known bytes ≡ refused why w) ↔ So
  unfolding check
  checks =
      let a = opening_alone known bytes why w l _ (λ c. at_then Later _ _ (of_accepted Later (lit< tt) bytes c) (λ q. at_done Later _)) in
      (λ e. o.0 (a.0 e), λ s. a.1 (o.1 s))

  reads : (idRoom valueRoom : ℕ) → (reading known bytes idRoom valueRoom ≡ refused why w) ↔ So
  unfolding reading
  reads i v =
      let a = opening_alone known bytes why w l _ (λ c. at_need Later _ _ _ _ (lit< tt) (of_accepted Later (lit< tt) bytes c)) in
      (λ e. o.0 (a.0 e), λ s. a.1 (o.1 s))

  looks : (id : ℕ) → (look_up known bytes id ≡ refused why w) ↔ ((id ≤ max_id) × So)
  unfolding look_up need
  looks id =
      let a = opening_alone known bytes why w l _ (λ c. of_steps Later (lit< tt) bytes c _ id) in (
        λ e. let t = test_before known bytes why w l _ ID 0 _ (lit< tt) e in (leb-true id max_id t.0, o.0 (a.0 t.1)),
        λ s. rw (le-leb id max_id s.0) (a.1 (o.1 s.1)),
      )

  nexts : (last t : ℕ) → (next known bytes last t ≡ refused why w) ↔ ((t ≤ max_id) × (last ≤ t) × So)
  unfolding next need
  nexts last t =
      let a = opening_alone known bytes why w l _ (λ c. of_next Later (lit< tt) bytes c t) in (
        λ e.
            let x = test_before known bytes why w l _ ID 0 _ (lit< tt) e in
            let y = test_before known bytes why w l _ BACK 0 _ (lit< tt) x.1 in
            (leb-true t max_id x.0, leb-true last t y.0, o.0 (a.0 y.1)),
        λ s. rw (le-leb t max_id s.0, le-leb last t s.1) (a.1 (o.1 s.2)),
      )

  reads_from_lem : (t room : ℕ) → (read_from known bytes t room ≡ refused why w) ↔ ((t ≤ max_id) × So)
  unfolding read_from need
  reads_from_lem t room =
      let a = opening_alone known bytes why w l _ (λ c. of_read Later (lit< tt) bytes c t room) in (
        λ e. let x = test_before known bytes why w l _ ID 0 _ (lit< tt) e in (leb-true t max_id x.0, o.0 (a.0 x.1)),
        λ s. rw (le-leb t max_id s.0) (a.1 (o.1 s.1)),
      )

  pairs : (i : ℕ) → (pair_at known bytes i ≡ refused why w) ↔ So
  unfolding pair_at
  pairs i =
      let a = opening_alone known bytes why w l _ (λ c. of_pair Later (lit< tt) bytes c i) in
      (λ e. o.0 (a.0 e), λ s. a.1 (o.1 s))

  tops : (m : List ℕ) (id : ℕ) → (look_up_layered known m bytes id ≡ refused_by correction why w) ↔ ((id ≤ max_id) × So)
  unfolding look_up_layered on_top
  tops m id = (λ e. (looks id).0 (layered_says known m bytes id _ e), λ s. rw ((looks id).1 s) refl)

  belows : (c : List ℕ) (id : ℕ)
      → (look_up_layered known bytes c id ≡ refused_by machine why w) ↔ ((k : ℕ) × (look_up known c id ≡ done (absent k)) × So)
  unfolding look_up_layered on_top underneath
  belows c id = (
    λ e. let s = layered_says known bytes c id _ e in (s.0, s.1, ((looks id).0 s.2).1),
    λ s.
        let f : look_up known bytes id ≡ refused why w = (looks id).1 (answered_within known c id (absent s.0) s.1, s.2) in
        rw (s.1, f) refl,
  )

  columns : (t : ℕ) → (column_from known bytes t ≡ refused why w) ↔ ((t ≤ max_id) × So)
  unfolding column_from need
  columns t =
      let a = opening_alone known bytes why w l _ (λ c. of_answering Later (lit< tt) bytes c t) in (
        λ e. let x = test_before known bytes why w l _ ID 0 _ (lit< tt) e in (leb-true t max_id x.0, o.0 (a.0 x.1)),
        λ s. rw (le-leb t max_id s.0) (a.1 (o.1 s.1)),
      )

  reads_on_top : (m : List ℕ) (t room : ℕ) → (read_layered known m bytes t room ≡ refused_read correction why w) ↔ ((t ≤ max_id) × So)
  unfolding read_layered both_then
  reads_on_top m t room = (λ e. (columns t).0 (layered_read_says known m bytes t room _ e), λ s. rw ((columns t).1 s) refl)

  reads_below : (c : List ℕ) (t room : ℕ)
      → (read_layered known bytes c t room ≡ refused_read machine why w) ↔ ((a : Candidate) × (next known c new_cursor t ≡ done a) × So)
  unfolding read_layered both_then
  reads_below c t room = (
    λ e.
        let s = layered_read_says known bytes c t room _ e in
        let a = start_done known c t s.0 s.1 in
        (a.0, a.1, ((columns t).0 s.2).1),
    λ s.
        let y = done_start known c t s.0 s.1 in
        let f : column_from known bytes t ≡ refused why w = (columns t).1 (next_within known c t s.0 s.1, s.2) in
        rw (y.1, f) refl,
  )

  exactly : Exactly known bytes why w So
  exactly =
      record {
        opening = o;
        checking = checks;
        full_reading = reads;
        looking = looks;
        nexting = nexts;
        reading_from = reads_from_lem;
        pairing = pairs;
        on_top_is = tops;
        below = belows;
        reading_on_top = reads_on_top;
        reading_below = reads_below;
      }

-- 7 to 11: what opening says
pub passes : (known : List Edition) (bytes : List ℕ) (why w : ℕ) → why ≤ LENGTH → Exactly known bytes why w (open_column known bytes ≡ refused why w)
passes known bytes why w l = exactly known bytes why w l (open_column known bytes ≡ refused why w) (λ e. e, λ e. e)

-- of any bytes
module _ (known : List Edition) (bytes : List ℕ) (u : Below 256 bytes) (w : ℕ) where
  -- NUMBER, and the place of the byte that decides
  pub number_exactly : Exactly known bytes NUMBER w (BrokenAt known bytes w)
  number_exactly = exactly known bytes NUMBER w (lit≤ tt) (BrokenAt known bytes w) (open_number known bytes w u)

  -- SHORT, and the byte count
  pub short_exactly : Exactly known bytes SHORT w (EndsAt known bytes w)
  short_exactly = exactly known bytes SHORT w (lit≤ tt) (EndsAt known bytes w) (open_short known bytes w u)

-- ---- the question of [11], which knows edition 3 alone, from an ordinal on too

-- "the bytes are so" is exactly what both say with this refusal and number
pub record ExactlyIn3 (bytes : List ℕ) (why w : ℕ) (So : Type 0) : Type 0 where
  pub ranging : (a b : ℤ) → (first_between bytes a b ≡ refused why w) ↔ So
  pub ranging_from : (i : ℕ) (a b : ℤ) → (first_between_from bytes i a b ≡ refused why w) ↔ So

module _ (bytes : List ℕ) (why w : ℕ) (l : why ≤ LENGTH) (So : Type 0) (o : (open_column (runs ∷ []) bytes ≡ refused why w) ↔ So) where
  ranges : (a b : ℤ) → (first_between bytes a b ≡ refused why w) ↔ So
  unfolding first_between
  ranges a b =
      let x = opening_alone (runs ∷ []) bytes why w l _ (λ c. of_between Later (lit< tt) bytes c a b) in
      (λ e. o.0 (x.0 e), λ s. x.1 (o.1 s))

  ranges_from : (i : ℕ) (a b : ℤ) → (first_between_from bytes i a b ≡ refused why w) ↔ So
  unfolding first_between_from
  ranges_from i a b =
      let x = opening_alone (runs ∷ []) bytes why w l _ (λ c. of_between_from Later (lit< tt) bytes c i a b) in
      (λ e. o.0 (x.0 e), λ s. x.1 (o.1 s))

  exactly_in_3 : ExactlyIn3 bytes why w So
  exactly_in_3 = record { ranging = ranges; ranging_from = ranges_from }

module _ (bytes : List ℕ) (u : Below 256 bytes) (w : ℕ) where
  pub number_in_3 : ExactlyIn3 bytes NUMBER w (BrokenAt (runs ∷ []) bytes w)
  number_in_3 = exactly_in_3 bytes NUMBER w (lit≤ tt) (BrokenAt (runs ∷ []) bytes w) (open_number (runs ∷ []) bytes w u)

  pub short_in_3 : ExactlyIn3 bytes SHORT w (EndsAt (runs ∷ []) bytes w)
  short_in_3 = exactly_in_3 bytes SHORT w (lit≤ tt) (EndsAt (runs ∷ []) bytes w) (open_short (runs ∷ []) bytes w u)

-- ---- a page's bare kinds

kind_of_lem : (x : Outcome Look) (why : ℕ) → 1 < why → (place_kind x ≡ why) ↔ ((w : ℕ) × (x ≡ refused why w))
unfolding place_kind
kind_of_lem (done (found o v w)) why h = (λ e. absurd (omega arith), λ s. absurd (let e = s.1 in let z : ◌≡◌ {A = ℕ} 0 1 = cc in omega arith))
kind_of_lem (done (absent w)) why h = (λ e. absurd (omega arith), λ s. absurd (let e = s.1 in let z : ◌≡◌ {A = ℕ} 0 1 = cc in omega arith))
kind_of_lem (refused v w) why h = (λ e. (w, ap {B = Outcome Look} (λ (k : ℕ). refused k w) e), λ s. let e = s.1 in cc)

module _ (known : List Edition) (bytes : List ℕ) (id why : ℕ) (h : 1 < why) (So : ℕ → Type 0) (x : (w : ℕ) → Exactly known bytes why w (So w)) where
  kinds : (place_kind (look_up known bytes id) ≡ why) ↔ ((id ≤ max_id) × ((w : ℕ) × So w))
  kinds =
      let k = kind_of_lem (look_up known bytes id) why h in (
        λ e. let s = k.0 e in let t = ((x s.0).looking id).0 s.1 in (t.0, (s.0, t.1)),
        λ s. k.1 (s.1.0, ((x s.1.0).looking id).1 (s.0, s.1.1)),
      )

module _ (known : List Edition) (bytes : List ℕ) (u : Below 256 bytes) (id : ℕ) where
  -- kind 8 exactly for an id within the limit in bytes whose header broke at some place, kind 7 where it ended
  pub kind_number : (place_kind (look_up known bytes id) ≡ NUMBER) ↔ ((id ≤ max_id) × ((w : ℕ) × BrokenAt known bytes w))
  kind_number = kinds known bytes id NUMBER (lit< tt) (BrokenAt known bytes) (number_exactly known bytes u)

  pub kind_short : (place_kind (look_up known bytes id) ≡ SHORT) ↔ ((id ≤ max_id) × ((w : ℕ) × EndsAt known bytes w))
  kind_short = kinds known bytes id SHORT (lit< tt) (EndsAt known bytes) (short_exactly known bytes u)
