-- The probes of a look-up (document 02, [8]): at most 12 on any bytes; for accepted bytes those of halving the places that the list has
-- in the id's block; and there no answer moves. Assumes nothing.
use Rattle.format.specs.Kit.{◌≡◌, refl, sym, ap, ◌∙◌, subst, ◌⊎◌, inl, inr, Bool, true, false, cond, not, ◌&&◌, ◌||◌, or-true, List, ◌++◌}
use Rattle.format.specs.Kit.{ℕ, zero, suc, ◌+◌, ◌/◌, ◌%◌, ◌≤◌, zero-le, arith, eqb, leb, ℤ, length, drop, eq-eqb, ne_eqb, le-leb, eqb-true}
use Rattle.format.specs.Limits.{max_id, block_places}
use Rattle.format.specs.Refusals.{Outcome, done, refused, need, BROKEN}
use Rattle.format.specs.Bytes.{low_at, low, bytes_of}
use Rattle.format.specs.Ids.{Entry, Kind, sparse, dense, all, kind_of, by_kind, block_bytes, block_data, id_section, runs}
use Rattle.format.specs.IdsRead.{shorts}
use Rattle.format.specs.Editions.{Edition, codec}
use Rattle.format.specs.Pairs.{Pairs, Below}
use Rattle.format.specs.Valid.{Valid}
use Rattle.format.specs.Column.{column, head_of}
use Rattle.format.specs.Opening.{Opened, open_column, id_part}
use Rattle.format.specs.Check.{accepted}
use Rattle.format.specs.LookUp.{Look, absent, Rule, halve, halve_in, halving, halved, scanned, place_at, probes_at, entries_at, answer, from_entry, steps}
use Rattle.format.specs.LookUp.{entered, probes_from, step_probes, opened_probes, look_up_probes}
use Rattle.format.specs.Walk.{list_answer, listed_places, probes}
use Rattle.laws.proofs.Cases.{below_or}
use Rattle.laws.proofs.Tests.{both_true}
use Rattle.laws.proofs.Blocks.{kind_sparse, kind_dense, kind_all}
use Rattle.laws.proofs.Places.{shorts_back}
use Rattle.laws.proofs.Runs.{ids_runs}
use Rattle.laws.proofs.Find.{places_runs}
use Rattle.laws.proofs.Place.{Finds, scan_finds}
use Rattle.laws.proofs.Halving.{probes_12, halved_finds}
use Rattle.laws.proofs.Lawful.{Lawful, LawfulReader}
use Rattle.laws.proofs.RoundTrip.{blocks_asc, blocks_fine, the_head, the_column, ids_part}
use Rattle.laws.proofs.Entered.{there, entries_from, Here, Away, Met, met}
use Rattle.laws.proofs.Looked.{stepped}
use Rattle.laws.proofs.Unique.{is_read}

-- ---- on any bytes

pub length_shorts : (c : ℕ) (s : List ℕ) → length (shorts c s) ≡ c
unfolding shorts
length_shorts zero s = refl
length_shorts (suc c) s = ap suc (length_shorts c (drop 2 s))

pub probes_few : (s : List ℕ) (t c r : ℕ) → probes_at s t c r ≤ 12
unfolding probes_at by_kind
probes_few s t c r =
    below_or c 4096
    (λ h. rw (kind_sparse c h) (probes_12 r (shorts c (drop t s)) (omega (arith, length_shorts c (drop t s)))))
    (λ h. below_or c 65536 (λ k. rw (kind_dense c h k) zero-le) (λ k. rw (kind_all c k) zero-le))

pub step_probes_few : (bytes : List ℕ) (c : Opened) (id : ℕ) → step_probes bytes c id ≤ 12
unfolding step_probes probes_from
step_probes_few bytes c id = go (entered bytes c id _) (probes_few (id_part bytes c) _ _ _)
  where
    go : (b : Bool) {x : ℕ} → x ≤ 12 → cond b x 0 ≤ 12
    go true h = h
    go false h = zero-le

pub opened_probes_lem : (known : List Edition) (bytes : List ℕ) (c : Opened) (id : ℕ) → open_column known bytes ≡ done c
    → look_up_probes known bytes id ≡ step_probes bytes c id
unfolding look_up_probes opened_probes
opened_probes_lem known bytes c id o = rw o

pub look_up_probes_few : (known : List Edition) (bytes : List ℕ) (id : ℕ) → look_up_probes known bytes id ≤ 12
unfolding look_up_probes opened_probes
look_up_probes_few known bytes id = go (open_column known bytes)
  where
    go : (o : Outcome Opened) → opened_probes bytes id o ≤ 12
    go (done c) = step_probes_few bytes c id
    go (refused why w) = zero-le

-- step 5 is taken exactly where a block is entered: elsewhere the answer is settled before it
by_tests : (a l k f : Bool) (x : Outcome Look) → a && (k && f) ≡ false
    → let o = need a BROKEN 0 (need l BROKEN 0 (cond (not k) (done (absent 0)) (need f BROKEN 0 x))) in
    (o ≡ done (absent 0)) ⊎ (o ≡ refused BROKEN 0)
unfolding need
by_tests false l k f x e = inr refl
by_tests true false k f x e = inr refl
by_tests true true false f x e = inl refl
by_tests true true true false x e = inr refl
by_tests true true true true x e = absurd (let z : ◌≡◌ {A = ℕ} 0 1 = cc in omega arith)

module _ (rule : Rule) (bytes : List ℕ) (col : Opened) (id : ℕ) (e : Entry) where
  abbrev sec : List ℕ
  sec = id_part bytes col

  abbrev count : ℕ
  count = low_at 2 sec (e.1 + 2) + 1

  abbrev head_fits : Bool
  head_fits = leb (e.1 + 4) (entries_at col.head)

  abbrev its_block : Bool
  its_block = eqb (low_at 2 sec e.1) (id / block_places)

  abbrev data_fit : Bool
  data_fit = leb (e.1 + block_bytes col.head.power count) (entries_at col.head) && leb (e.0 + count) col.head.count

  -- step 5 and what follows
  abbrev taken : Outcome Look
  taken = answer bytes col e.0 (place_at rule col.head.power sec (e.1 + 4) count (id % block_places))

  pub enters : entered bytes col id e ≡ true → from_entry rule bytes col id e ≡ taken
  unfolding entered from_entry need
  enters h =
      let a = both_true head_fits (its_block && data_fit) h in
      let k = both_true its_block data_fit a.1 in
      let b : id / block_places ≤ low_at 2 sec e.1 = omega (arith, eqb-true (low_at 2 sec e.1) (id / block_places) k.0) in
      rw (a.0, le-leb (id / block_places) (low_at 2 sec e.1) b, or-true (eqb col.head.jump_count 0), k.0, k.1)

  pub stays_out : entered bytes col id e ≡ false
      → (from_entry rule bytes col id e ≡ done (absent 0)) ⊎ (from_entry rule bytes col id e ≡ refused BROKEN 0)
  unfolding entered from_entry
  stays_out h =
      by_tests head_fits (eqb col.head.jump_count 0 || leb (id / block_places) (low_at 2 sec e.1)) its_block data_fit taken h

-- ---- in the column of a list

-- a sparse block's entries are its places
entries_back : (p : ℕ) (rs s : List ℕ) (t r : ℕ) (rest : List ℕ) → Below 65536 rs → drop t s ≡ block_data p rs ++ rest
    → probes_at s t (length rs) r ≡ by_kind (kind_of (length rs)) (halving r rs).probes 0 0
unfolding probes_at block_data by_kind
entries_back p rs s t r rest u here = rw here (by_kind_lem (kind_of (length rs)) _ _)
  where
    by_kind_lem : (k : Kind) (x y : List ℕ)
        → by_kind k (halving r (shorts (length rs) (by_kind k (bytes_of (low 2) rs) x y ++ rest))).probes 0 0 ≡ by_kind k (halving r rs).probes 0 0
    by_kind_lem sparse x y = ap (λ (l : List ℕ). (halving r l).probes) (shorts_back rs rest u)
    by_kind_lem dense x y = refl
    by_kind_lem all x y = refl

module _ (ed : Edition) (law : Lawful (codec ed)) (p : ℕ) (ids : List ℕ) (vs : List ℤ) (ok : Valid ed p ids vs) (id : ℕ) where
  abbrev bytes : List ℕ
  bytes = column ed p ids vs

  abbrev col : Opened
  col = the_column ed p ids vs

  listed_there : listed_places (id / 65536) ids ≡ there ids id
  listed_there = ap (listed_places (id / 65536)) (sym (ids_runs ids)) ∙ places_runs (id / 65536) 0 (runs ids) (blocks_asc p ids vs ok) (blocks_fine p ids vs ok)

  of_here : (e : Entry) → Here p ids id e → probes_from bytes col id e ≡ probes ids id
  unfolding probes_from entered probes the_column head_of the_head
  of_here e h =
      rw (
        ids_part ed law p ids vs ok,
        listed_there,
        h.number,
        h.count,
        le-leb (e.1 + 4) (entries_from p ids) h.head_end,
        eq-eqb (id / 65536) (id / 65536) refl,
        le-leb (e.1 + block_bytes p (length (there ids id))) (entries_from p ids) h.data_end,
        le-leb (e.0 + length (there ids id)) (length ids) h.last,
      )
      (entries_back p (there ids id) (id_section p ids) (e.1 + 4) (id % 65536) h.rest h.inside h.its_data)

  of_away : (e : Entry) → Away p ids id e → probes_from bytes col id e ≡ probes ids id
  unfolding probes_from entered probes the_column head_of the_head kind_of by_kind halve halve_in
  of_away e a =
      rw (
        ids_part ed law p ids vs ok,
        listed_there ∙ a.nothing,
        le-leb (e.1 + 4) (entries_from p ids) a.head_end,
        ne_eqb (low_at 2 (id_section p ids) e.1) (id / 65536) a.other,
      )

  from_met : (e : Entry) → Met p ids id e → probes_from bytes col id e ≡ probes ids id
  from_met e (inl h) = of_here e h
  from_met e (inr a) = of_away e a

  pub column_probes : id ≤ max_id → step_probes bytes col id ≡ probes ids id
  unfolding step_probes the_column head_of the_head
  column_probes hid = rw (ids_part ed law p ids vs ok) (from_met _ (met p ids vs ok id hid))

-- ---- in accepted bytes

module _ (known : List Edition) (laws : LawfulReader known) (bytes : List ℕ) (c : Opened) (q : Pairs) (o : open_column known bytes ≡ done c)
    (a : accepted bytes c ≡ done q) (id : ℕ) (hid : id ≤ max_id) where
  abbrev ed : Edition
  ed = c.head.edition

  abbrev p : ℕ
  p = c.head.power

  -- the probes are those of the list and the id alone
  pub accepted_probes : step_probes bytes c id ≡ probes q.ids id
  accepted_probes =
      let r = is_read known laws bytes c q o a in
      subst (λ (b : List ℕ). step_probes b c id ≡ probes q.ids id) r.bytes_are
      (subst (λ (d : Opened). step_probes (column ed p q.ids q.values) d id ≡ probes q.ids id) r.opened_is
      (column_probes ed r.law p q.ids q.values r.valid id hid))

  -- the steps by any rule that finds what is listed answer as the list does, so that no answer moved with the rule
  pub accepted_steps : (rule : Rule) → Finds rule → steps rule bytes c id ≡ done (list_answer p q.ids q.values id)
  accepted_steps rule finds =
      let r = is_read known laws bytes c q o a in
      subst (λ (b : List ℕ). steps rule b c id ≡ done (list_answer p q.ids q.values id)) r.bytes_are
      (subst (λ (d : Opened). steps rule (column ed p q.ids q.values) d id ≡ done (list_answer p q.ids q.values id)) r.opened_is
      (stepped ed r.law p q.ids q.values r.valid id hid rule finds))

  pub answers_stay : steps halved bytes c id ≡ steps scanned bytes c id
  answers_stay = accepted_steps halved halved_finds ∙ sym (accepted_steps scanned scan_finds)
