-- The steps from the entry that was found. Assumes nothing.
use Rattle.format.specs.Kit.{◌≡◌, refl, sym, ap, ◌∙◌, Bool, true, false, cond, ◌&&◌, ◌||◌, and-false, List, ℕ, ◌+◌, ◌-◌, ◌*◌, ◌≤◌, ◌<◌, arith, leb, ltb, eqb}
use Rattle.format.specs.Kit.{lt-ltb, le-ltb, le-leb, lt-leb, length}
use Rattle.format.specs.Limits.{max_block, block_places}
use Rattle.format.specs.Refusals.{Outcome, done, refused, need, BROKEN}
use Rattle.format.specs.Bytes.{low_at}
use Rattle.format.specs.Ids as Ids
use Rattle.format.specs.Ids.{kind_of, block_bytes, data_bytes}
use Rattle.format.specs.Opening.{Opened, id_part}
use Rattle.format.specs.LookUp.{entry_at}
use Rattle.format.specs.Next.{Candidate, no_candidate}
use Rattle.blocks.specs.Kinds.{kind_is}
use Rattle.blocks.specs.declared.Block.{Block}
use Rattle.blocks.specs.declared.Kind.{Kind}
use Rattle.lookup.specs.declared.Ask.{Ask}
use Rattle.lookup.specs.declared.Entry.{Entry}
use Rattle.lookup.specs.Steps.{Fair, Jumped, Roomy}
use Rattle.next.specs.Blocks.{AskedOf}
use Rattle.format.specs.PairAt.{last_up_to, place_with, pair_from, pair_steps}
use Rattle.pair_at.specs.Held.{number_ok, pair_left, HeldIn}

-- either of two tests fails
two_needs : {A : Type 0} (p r : Bool) (x : Outcome A) → (p && r) ≡ false → need p BROKEN 0 (need r BROKEN 0 x) ≡ refused BROKEN 0
unfolding need
two_needs true r x e = rw e refl
two_needs false r x e = refl

module _ (s : List ℕ) (q : Ask) (ordinal b : ℕ) (eb : b ≡ last_up_to (λ j. low_at 4 s (q.entries + 8 * j)) ordinal q.jumps) (e : Entry)
    (je : Jumped s q.entries q.jumps b e) (l : ordinal < q.count) where
  abbrev t : ℕ
  t = e.start

  abbrev k : ℕ
  k = low_at 2 s t

  abbrev n : ℕ
  n = low_at 2 s (t + 2) + 1

  -- the tests, by what is asked
  abbrev pair_by : List ℕ → Opened → ℕ → ℕ → Outcome Candidate
  pair_by bytes c o m =
      need (leb (t + 4) q.entries) BROKEN 0
      (need (leb k max_block && (eqb q.jumps 0 || eqb k b)) BROKEN 0
      (need (leb (t + block_bytes q.power n) q.entries && leb (o + n) q.count) BROKEN 0
      (need (leb o ordinal && ltb ordinal (o + n)) BROKEN 0
      (pair_left bytes c ordinal k (place_with q.power s (t + 4) n (ordinal - o))))))

  module _ (bytes : List ℕ) (c : Opened) (x : AskedOf c q) (h : id_part bytes c ≡ s) where
    abbrev pair_of : List ℕ → ℕ → ℕ → ℕ → ℕ → Outcome Candidate
    pair_of u a j p m =
        let i : ℕ = last_up_to (λ y. low_at 4 u (a + 8 * y)) ordinal j in
        let f : Ids.Entry = entry_at u a j i in
        let g : ℕ = low_at 2 u f.1 in
        let w : ℕ = low_at 2 u (f.1 + 2) + 1 in
        cond (ltb ordinal m)
        (need (leb (f.1 + 4) a) BROKEN 0
        (need (leb g max_block && (eqb j 0 || eqb g i)) BROKEN 0
        (need (leb (f.1 + block_bytes p w) a && leb (f.0 + w) m) BROKEN 0
        (need (leb f.0 ordinal && ltb ordinal (f.0 + w)) BROKEN 0
        (pair_left bytes c ordinal g (place_with p u (f.1 + 4) w (ordinal - f.0)))))))
        (done no_candidate)

    from_parts : pair_steps bytes c ordinal ≡ pair_of s q.entries q.jumps q.power q.count
    unfolding pair_steps pair_from
    from_parts = λ i. pair_of (h i) (sym x.entries i) (sym x.jumps i) (sym x.power i) (sym x.count i)

    as_asked : pair_steps bytes c ordinal ≡ pair_by bytes c e.ordinal q.count
    as_asked = from_parts ∙ rw (← eb, ← je.ordinal, ← je.start, lt-ltb ordinal q.count l) refl

  abbrev Fails : Type 0
  Fails = (bytes : List ℕ) (c : Opened) → AskedOf c q → id_part bytes c ≡ s → pair_steps bytes c ordinal ≡ refused BROKEN 0

  -- steps 2 and 3
  pub fails_number : (leb (t + 4) q.entries && (leb k max_block && (eqb q.jumps 0 || eqb k b))) ≡ false → Fails
  fails_number f bytes c x h = as_asked bytes c x h ∙ two_needs (leb (t + 4) q.entries) (leb k max_block && (eqb q.jumps 0 || eqb k b)) _ f

  module _ (ok : number_ok s q.entries q.jumps b t) (y : Block) (ys : y.start ≡ t + 4) (yo : y.ordinal ≡ e.ordinal) (yc : y.count ≡ n) where
    data_at : t + block_bytes q.power n ≡ y.start + data_bytes q.power y.count
    unfolding block_bytes
    data_at = rw (ys, yc) (omega arith)

    -- step 4
    pub fails_room : (leb (y.start + data_bytes q.power y.count) q.entries && leb (y.ordinal + y.count) q.count) ≡ false → Fails
    unfolding need
    fails_room f bytes c x h =
        let g : (leb (t + block_bytes q.power n) q.entries && leb (e.ordinal + n) q.count) ≡ false = rw (data_at, ← yo, ← yc) f in
        as_asked bytes c x h ∙ rw (ok.0, ok.1, g) refl

    module _ (room : (leb (y.start + data_bytes q.power y.count) q.entries && leb (y.ordinal + y.count) q.count) ≡ true) where
      enough : (leb (t + block_bytes q.power n) q.entries && leb (e.ordinal + n) q.count) ≡ true
      enough = rw (data_at, ← yo, ← yc) room

      -- the ordinal is none of the block's
      pub fails_ordinal : (leb y.ordinal ordinal && ltb ordinal (y.ordinal + y.count)) ≡ false → Fails
      unfolding need
      fails_ordinal f bytes c x h =
          let g : (leb e.ordinal ordinal && ltb ordinal (e.ordinal + n)) ≡ false = rw (← yo, ← yc) f in
          as_asked bytes c x h ∙ rw (ok.0, ok.1, enough, g) refl

      pub holds : (number : ℕ) → number ≡ k → (bytes : List ℕ) (c : Opened) → AskedOf c q → id_part bytes c ≡ s
          → (leb y.ordinal ordinal && ltb ordinal (y.ordinal + y.count)) ≡ true
          → pair_steps bytes c ordinal ≡ pair_left bytes c ordinal number (place_with q.power s y.start y.count (ordinal - y.ordinal))
      unfolding need
      holds number m bytes c x h f =
          let g : (leb e.ordinal ordinal && ltb ordinal (e.ordinal + n)) ≡ true = rw (← yo, ← yc) f in
          as_asked bytes c x h ∙ rw (ok.0, ok.1, enough, g, m, ys, yo, yc) refl

  pub no_room : number_ok s q.entries q.jumps b t → (count : ℕ) → count ≡ n → Kind
      → (leb (t + 4 + data_bytes q.power count) q.entries && leb (e.ordinal + count) q.count) ≡ false → Fails
  no_room ok count ec kind f = fails_room ok (record { start = t + 4; ordinal = e.ordinal; count = count; kind = kind }) refl refl ec f

  -- ---- the block there, which has room

  module _ (ok : number_ok s q.entries q.jumps b t) (count : ℕ) (ec : count ≡ n) (kind : Kind) (ek : kind_is kind ≡ kind_of count) (y : Block)
      (g : Roomy q.entries q.power q.count (record { start = t + 4; ordinal = e.ordinal; count = count; kind = kind }) y) where
    abbrev at : y.start ≡ t + 4
    at = ap (λ (x : Block). x.start) g.same

    abbrev its_ordinal : y.ordinal ≡ e.ordinal
    its_ordinal = ap (λ (x : Block). x.ordinal) g.same

    abbrev its_count : y.count ≡ n
    its_count = ap (λ (x : Block). x.count) g.same ∙ ec

    room : (leb (y.start + data_bytes q.power y.count) q.entries && leb (y.ordinal + y.count) q.count) ≡ true
    room = rw (g.same, le-leb _ _ g.data_end, le-leb _ _ g.last) refl

    pub ordinal_before : ordinal < y.ordinal → Fails
    ordinal_before h = fails_ordinal ok y at its_ordinal its_count room (rw (lt-leb y.ordinal ordinal h) refl)

    pub ordinal_after : y.ordinal + y.count ≤ ordinal → Fails
    ordinal_after h = fails_ordinal ok y at its_ordinal its_count room (rw (le-ltb ordinal (y.ordinal + y.count) h) (and-false (leb y.ordinal ordinal)))

    pub is_held : (number : ℕ)
        → number ≡ k → number ≤ max_block → count ≤ block_places → Fair (length s) q → y.ordinal ≤ ordinal → ordinal < y.ordinal + y.count
        → HeldIn s q ordinal number y
    is_held number ek' few few_ids fair from below =
        record {
          steps_left = λ bytes c x h.
              holds ok y at its_ordinal its_count room number ek' bytes c x h
              (rw (le-leb y.ordinal ordinal from, lt-ltb ordinal (y.ordinal + y.count) below) refl);
          number = few;
          kind = rw g.same ek;
          many = rw g.same few_ids;
          data_end = let d : y.start + data_bytes q.power y.count ≤ q.entries = rw g.same g.data_end in omega (arith, d, fair.entries);
          from = from;
          below = below;
        }
