-- On accepted columns the pair with an ordinal is the list's; and from a column opened before the call answers as it does from the bytes.
-- Assumes nothing.
use Rattle.format.specs.Kit.{◌≡◌, refl, sym, ap, ap₂, ◌∙◌, inl, inr, true, false, ◌||◌, or-true, List, [], ◌∷◌, ℕ, zero, suc, ◌+◌, ◌-◌, ◌*◌, ◌/◌, ◌%◌}
use Rattle.format.specs.Kit.{◌≤◌, ◌<◌, zero-add, div-add-mod', arith, eqb, length, get_or, eq-eqb, ne_eqb, lt-ltb, le-ltb, le-leb, ℤ, pos}
use Rattle.format.specs.Limits.{max_id}
use Rattle.format.specs.Refusals.{done, refused, and_then, need, given, HEADER, LENGTH}
use Rattle.format.specs.Bytes.{low_at}
use Rattle.format.specs.Ids.{Run, runs, id_section, jumps, jumps_from, block_bytes, Entry, count_below}
use Rattle.format.specs.Editions.{Edition, editions, codec}
use Rattle.format.specs.Pairs.{Pairs, Asc}
use Rattle.format.specs.Valid.{Valid}
use Rattle.format.specs.Column.{column, head_of}
use Rattle.format.specs.Opening.{Opened, open_column, head_ok, length_ok}
use Rattle.format.specs.LookUp.{entry_at}
use Rattle.format.specs.Next.{candidate_at, no_candidate}
use Rattle.format.specs.Check.{accepted, check}
use Rattle.format.specs.Runs.{AscBlocks, end_of}
use Rattle.format.specs.Walk.{listed}
use Rattle.laws.proofs.Cases.{below_or, equal_or}
use Rattle.laws.proofs.Runs.{ids_runs}
use Rattle.laws.proofs.Jumps.{under, ids_under, none_under, entry_is}
use Rattle.laws.proofs.Find.{places_of, no_places, count_lt}
use Rattle.laws.proofs.Places.{asc_from_lem}
use Rattle.laws.proofs.Place.{count_higher}
use Rattle.laws.proofs.Skip.{beyond, under_le, ordinal_read}
use Rattle.laws.proofs.Lawful.{Lawful, LawfulReader}
use Rattle.laws.proofs.Editions.{lawful_reader}
use Rattle.laws.proofs.RoundTrip.{power16, blocks_asc, count_le, the_head, the_column, ids_part}
use Rattle.laws.proofs.Looked.{the_count, the_test}
use Rattle.laws.proofs.FromEntry.{value_is}
use Rattle.laws.proofs.Open.{opened_ok}
use Rattle.laws.proofs.Unique.{is_read}
use Rattle.laws.proofs.Demands.{checked_answers}
use Rattle.format.specs.PairAt.{last_up_to, pair_from, pair_steps, pair_at, pair_at_in, list_pair}
use Rattle.laws.proofs.ReadFrom.{in_range}
use Rattle.laws.proofs.LastUpTo.{last_is}
use Rattle.laws.proofs.PlaceWith.{place_with_lem}
use Rattle.laws.proofs.Entered.{there, entries_from, Here, Met, entries, entries_at, two_dropped, all_kept, met}

-- ---- the list

listed_own : (i : ℕ) (xs : List ℕ) → i < length xs → listed (get_or xs i 0) xs ≡ true
unfolding listed
listed_own i [] h = absurd (omega arith)
listed_own zero (x ∷ xs) h = rw (eq-eqb x x refl)
listed_own (suc i) (x ∷ xs) h = rw (listed_own i xs (omega arith)) (or-true (eqb x (get_or xs i 0)))

count_own : (a i : ℕ) (xs : List ℕ) → Asc a xs → i < length xs → count_below (get_or xs i 0) xs ≡ i
unfolding count_below
count_own a i [] t h = absurd (omega arith)
count_own a zero (x ∷ xs) t h = rw (le-ltb x x (omega arith), count_higher x (suc x) xs (omega arith) t.1)
count_own a (suc i) (x ∷ xs) t h =
    rw (lt-ltb x (get_or xs i 0) (omega (arith, asc_from_lem (suc x) xs i t.1 (omega arith))), count_own (suc x) i xs t.1 (omega arith)) (omega arith)

-- ---- the ids below a block

under_mono : (j b : ℕ) (gs : List Run) → j ≤ b → ids_under j gs ≤ ids_under b gs
unfolding under
under_mono j b [] h = omega arith
under_mono j b (g ∷ gs) h =
    let more = under_mono j b gs h in
    below_or g.block j
    (λ l. rw (lt-ltb g.block j l, lt-ltb g.block b (omega arith)) (omega (arith, more)))
    (λ l. rw (le-ltb g.block j l) (omega (arith, more)))

under_next : (b next : ℕ) (gs : List Run) → AscBlocks next gs → ids_under (suc b) gs ≡ ids_under b gs + length (places_of b gs)
unfolding under places_of
under_next b next [] t = refl
under_next b next (g ∷ gs) t =
    below_or g.block b
    (λ l.
    rw (lt-ltb g.block b l, lt-ltb g.block (suc b) (omega arith), ne_eqb g.block b (λ e. omega arith))
    (omega (arith, under_next b (suc g.block) gs t.1)))
    (λ l.
    let none-b = none_under (λ n. n) b (suc g.block) gs (omega arith) t.1 in
    let none-next = none_under (λ n. n) (suc b) (suc g.block) gs (omega arith) t.1 in
    equal_or g.block b
    (λ e. rw (le-ltb g.block b l, lt-ltb g.block (suc b) (omega arith), eq-eqb g.block b e) (omega (arith, none-b, none-next)))
    (λ e.
    rw (le-ltb g.block b l, le-ltb g.block (suc b) (omega arith), ne_eqb g.block b e, no_places b (suc g.block) gs (omega arith) t.1)
    (omega (arith, none-b, none-next))))

-- ---- the column of a list

module _ (ed : Edition) (law : Lawful (codec ed)) (p : ℕ) (ids : List ℕ) (vs : List ℤ) (ok : Valid ed p ids vs) (o : ℕ) (h : o < length ids) where
  abbrev bytes : List ℕ
  bytes = column ed p ids vs

  abbrev col : Opened
  col = the_column ed p ids vs

  abbrev id : ℕ
  id = get_or ids o 0

  abbrev b : ℕ
  b = id / 65536

  abbrev r : ℕ
  r = id % 65536

  abbrev gs : List Run
  gs = runs ids

  abbrev s : List ℕ
  s = id_section p ids

  abbrev a : ℕ
  a = entries_from p ids

  abbrev n : ℕ
  n = length (jumps p ids)

  hid : id ≤ 2147352575
  hid = omega (arith, in_range (suc max_id) o ids ok.range h)

  asc : AscBlocks 0 gs
  asc = blocks_asc p ids vs ok

  is_listed : listed r (there ids id) ≡ true
  is_listed = sym (the_test p ids vs ok id) ∙ listed_own o ids h

  here : Here p ids id (entry_at s a n b)
  here = of (met p ids vs ok id hid)
    where
      of : Met p ids id (entry_at s a n b) → Here p ids id (entry_at s a n b)
      of (inl x) = x
      of (inr x) = absurd (omega (arith, count_lt r (there ids id) is_listed, ap length x.nothing))

  inner : o ≡ ids_under b gs + count_below r (there ids id)
  inner = sym (count_own 0 o ids ok.ascending h) ∙ the_count p ids vs ok id

  some_there : count_below r (there ids id) < length (there ids id)
  some_there = count_lt r (there ids id) is_listed

  -- many entries: the last at or below the ordinal is that of the block
  module _ (many : jumps p ids ≡ jumps_from p 0 0 0 gs) where
    how_many : n ≡ end_of 0 gs + 1
    how_many = omega (arith, ap length many, entries p ids vs ok id hid)

    ids_in_lem : (j : ℕ) → j < n → (get_or (jumps p ids) j (0, 0)).0 ≡ ids_under j gs
    ids_in_lem j k =
        ap (λ (es : List Entry). (get_or es j (0, 0)).0) many
        ∙ ap (λ (e : Entry). e.0) (entry_is p 0 0 0 j j (0, 0) gs asc (zero-add j) (omega (arith, how_many))) ∙ zero-add (ids_under j gs)

    ordinal_in : (j : ℕ) → j < n → low_at 4 s (a + 8 * j) ≡ ids_under j gs
    ordinal_in j k =
        ordinal_read s a (jumps p ids) j (entries_at p ids vs ok id hid) k
        (omega (arith, ids_in_lem j k, under_le j gs, ap length (ids_runs ids), count_le p ids vs ok)) ∙ ids_in_lem j k

    b_lt : b < end_of 0 gs
    b_lt = below_or b (end_of 0 gs) (λ k. k) (λ k. absurd (omega (arith, some_there, ap length (beyond b 0 gs asc k))))

    entry_is_its : last_up_to (λ j. low_at 4 s (a + 8 * j)) o n ≡ b
    entry_is_its =
        last_is (λ j. low_at 4 s (a + 8 * j)) o b n
        (λ j k. rw (ordinal_in j (omega (arith, how_many, b_lt))) (omega (arith, under_mono j b gs k, inner)))
        (λ j k l. rw (ordinal_in j l) (omega (arith, under_mono (suc b) j gs k, under_next b 0 gs asc, inner, some_there)))
        (omega (arith, how_many, b_lt))

  abbrev chosen : ℕ
  chosen = last_up_to (λ j. low_at 4 s (a + 8 * j)) o n

  first_step : (entry_at s a n chosen ≡ entry_at s a n b) × ((eqb n 0 || eqb b chosen) ≡ true)
  unfolding entry_at
  first_step =
      equal_or (length (jumps_from p 0 0 0 gs)) 2
      (λ e. let z : n ≡ 0 = ap length (two_dropped p ids vs ok id hid e) in rw (eq-eqb n 0 z) (refl, refl))
      (λ e. rw (entry_is_its (all_kept p ids vs ok id hid e), eq-eqb b b refl) (refl, or-true (eqb n 0)))

  pub steps_pair : pair_steps bytes col o ≡ done (candidate_at id o (get_or vs o (pos 0)))
  unfolding pair_steps pair_from need and_then given the_column head_of the_head
  steps_pair =
      let e : Entry = entry_at s a n b in
      let rs : List ℕ = there ids id in
      let i : o - e.0 ≡ count_below r rs = omega (arith, here.ordinal, inner) in
      let back : b * 65536 + r ≡ id = div-add-mod' id 65536 in
      rw (
        ids_part ed law p ids vs ok,
        lt-ltb o (length ids) h,
        first_step.0,
        here.number,
        here.count,
        le-leb (e.1 + 4) a here.head_end,
        le-leb b 32765 (omega (arith, hid)),
        first_step.1,
        le-leb (e.1 + block_bytes p (length rs)) a here.data_end,
        le-leb (e.0 + length rs) (length ids) here.last,
        le-leb e.0 o (omega (arith, here.ordinal, inner)),
        lt-ltb o (e.0 + length rs) (omega (arith, here.ordinal, inner, some_there)),
        i,
        place_with_lem p rs s (e.1 + 4) here.rest here.ascending here.inside here.its_data (power16 p ids vs ok) r (omega arith) is_listed,
        value_is ed law p ids vs ok o h,
        back,
      )

-- ---- accepted columns

pub no_pair_is : (bytes : List ℕ) (c : Opened) (o : ℕ) → c.head.count ≤ o → pair_steps bytes c o ≡ done no_candidate
unfolding pair_steps
no_pair_is bytes c o h = rw (le-ltb o c.head.count h)

module _ (known : List Edition) (laws : LawfulReader known) (bytes : List ℕ) (c : Opened) (q : Pairs) (e : open_column known bytes ≡ done c)
    (acc : accepted bytes c ≡ done q) where
  accepted_steps : (o : ℕ) → pair_steps bytes c o ≡ done (list_pair q o)
  unfolding list_pair
  accepted_steps o =
      let r = is_read known laws bytes c q e acc in
      below_or o (length q.ids)
      (λ l.
      rw (lt-ltb o (length q.ids) l)
      (ap₂ (λ (l : List ℕ) (d : Opened). pair_steps l d o) (sym r.bytes_are) (sym r.opened_is)
      ∙ steps_pair c.head.edition r.law c.head.power q.ids q.values r.valid o l))
      (λ l. rw (le-ltb o (length q.ids) l) (no_pair_is bytes c o (omega (arith, r.count))))

  pub accepted_pair_at : (o : ℕ) → pair_at known bytes o ≡ done (list_pair q o)
  unfolding pair_at and_then
  accepted_pair_at o = rw e (accepted_steps o)

-- of bytes that the check accepts, and the list that they hold
pub checked_pair_at : (bytes : List ℕ) (n : ℕ) (e : check editions bytes ≡ done n) (o : ℕ)
    → pair_at editions bytes o ≡ done (list_pair (checked_answers editions (lawful_reader editions) bytes n e).pairs o)
checked_pair_at bytes n e =
    let h = checked_answers editions (lawful_reader editions) bytes n e in
    accepted_pair_at editions (lawful_reader editions) bytes h.opened h.pairs h.is_opened h.is_accepted

-- ---- the calls by their tests, and from a column opened before

module _ (bytes : List ℕ) (c : Opened) (o : ℕ) where
  pub pair_header : head_ok c.head ≡ false → pair_at_in bytes c o ≡ refused HEADER 0
  unfolding pair_at_in need
  pair_header e = rw e

  module _ (e : head_ok c.head ≡ true) where
    pub pair_length : length_ok bytes c ≡ false → pair_at_in bytes c o ≡ refused LENGTH 0
    unfolding pair_at_in need
    pair_length f = rw (e, f)

    pub pair_steps_lem : length_ok bytes c ≡ true → pair_at_in bytes c o ≡ pair_steps bytes c o
    unfolding pair_at_in need
    pair_steps_lem f = rw (e, f)

module _ (known : List Edition) (bytes : List ℕ) (o : ℕ) where
  pub pair_unopened : (why w : ℕ) → open_column known bytes ≡ refused why w → pair_at known bytes o ≡ refused why w
  unfolding pair_at and_then
  pair_unopened why w e = rw e

  pub pair_opened : (c : Opened) → open_column known bytes ≡ done c → pair_at known bytes o ≡ pair_steps bytes c o
  unfolding pair_at and_then
  pair_opened c e = rw e

  pub opened_pair_at : (c : Opened) → open_column known bytes ≡ done c → pair_at_in bytes c o ≡ pair_at known bytes o
  opened_pair_at c e = let k = opened_ok known bytes c e in pair_steps_lem bytes c o k.rules k.lengths ∙ sym (pair_opened c e)
