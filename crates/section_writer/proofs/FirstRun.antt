-- The first run of ids: where a block's ids end, and the runs from there on. Assumes nothing.
use Rattle.format.specs.Kit.{◌≡◌, refl, sym, ap, ap₂, ◌∙◌, subst, List, [], ◌∷◌, map, ℕ, zero, suc, ◌+◌, ◌-◌, ◌/◌, ◌%◌, ◌≤◌, ◌<◌, min, arith, eqb}
use Rattle.format.specs.Kit.{length, get_or, take, drop, drop_of_length-le, length-drop, drop-cons, length-take-le, ne_eqb, Bool, true, false, get_or-take, take-append-drop, eqb-true, eq-eqb, zero-le}
use Rattle.std.specs.Prelude.{◌==◌}
use Rattle.std.specs.List.Sorted.{IsPartitionedBy, IsPartitionPoint}
use Rattle.std.proofs.lemmas.List.{get_or_default}
use Rattle.format.specs.Ids.{Run, push, runs}
use Rattle.format.specs.Pairs.{Asc}
use Rattle.laws.proofs.Cases.{below_or, true_or}
use Rattle.laws.proofs.Places.{asc_gap, asc_weaken}
use Rattle.laws.proofs.Runs.{push_same}
use Rattle.block_writer.specs.Part.{places_from}
use Rattle.section_writer.specs.Good.{Begins}

-- ---- a part of the ids

-- the ids from index i up to, not including, index j
abbrev part : ℕ → ℕ → List ℕ → List ℕ
part i j l = take (j - i) (drop i l)

part_cons : (i j : ℕ) (l : List ℕ) (d : ℕ) → i < j → j ≤ length l → part i j l ≡ get_or l i d ∷ part (suc i) j l
part_cons i j l d h k =
    let n : j - i ≡ suc (j - suc i) = omega arith in
    ap₂ take n (drop-cons l i d (omega arith))

part_empty : (i : ℕ) (l : List ℕ) → part i i l ≡ []
part_empty i l = let n : i - i ≡ 0 = omega arith in ap (λ (k : ℕ). take k (drop i l)) n

pub asc_drop : (a k : ℕ) (l : List ℕ) → Asc a l → Asc 0 (drop k l)
asc_drop a k [] t = rw (drop_of_length-le {A = ℕ} [] zero-le) tt
asc_drop a zero (x ∷ xs) t = asc_weaken zero-le (x ∷ xs) t
asc_drop a (suc k) (x ∷ xs) t = asc_drop (suc x) k xs t.1

-- ---- pushing

-- the first run is not block b's
abbrev pub NotAt : ℕ → List Run → Type 0
NotAt b [] = Unit {0}
NotAt b (g ∷ gs) = b ≡ g.block → ⊥

push_new : (b r : ℕ) (gs : List Run) → NotAt b gs → push b r gs ≡ record { block = b; places = r ∷ [] } ∷ gs
unfolding push
push_new b r [] h = refl
push_new b r (g ∷ gs) h = rw (ne_eqb b g.block h)

not_push : (b c r : ℕ) (gs : List Run) → (b ≡ c → ⊥) → NotAt b (push c r gs)
unfolding push
not_push b c r [] h = h
not_push b c r (g ∷ gs) h = true_or (eqb c g.block) (λ e. rw e h) (λ e. rw e h)

runs_cons : (x : ℕ) (xs : List ℕ) → runs (x ∷ xs) ≡ push (x / 65536) (x % 65536) (runs xs)
unfolding runs
runs_cons x xs = refl

pub runs_nil : runs [] ≡ []
unfolding runs
runs_nil = refl

-- ---- the first run

module _ (ids : List ℕ) (b : ℕ) where
  pub not_end : (j : ℕ) → length ids ≤ j → NotAt b (runs (drop j ids))
  not_end j h = rw (drop_of_length-le ids h, runs_nil) tt

  pub not_next : (j : ℕ) → j < length ids → (get_or ids j 0 / 65536 ≡ b → ⊥) → NotAt b (runs (drop j ids))
  not_next j h e =
      rw (drop-cons ids j 0 h, runs_cons) (not_push b (get_or ids j 0 / 65536) (get_or ids j 0 % 65536) (runs (drop (suc j) ids)) (λ q. e (sym q)))

  abbrev pub InB : ℕ → ℕ → Type 0
  InB i j = (k : ℕ) → i ≤ k → k < j → get_or ids k 0 / 65536 ≡ b

  head_run : (i : ℕ) (rs : List ℕ) (gs : List Run) → i < length ids → get_or ids i 0 / 65536 ≡ b
      → runs (drop (suc i) ids) ≡ record { block = b; places = rs } ∷ gs
      → runs (drop i ids) ≡ record { block = b; places = get_or ids i 0 % 65536 ∷ rs } ∷ gs
  head_run i rs gs h e q =
      ap runs (drop-cons ids i 0 h) ∙ runs_cons (get_or ids i 0) (drop (suc i) ids)
      ∙ ap₂ (λ (x : ℕ) (y : List Run). push x (get_or ids i 0 % 65536) y) e q ∙ push_same b (get_or ids i 0 % 65536) rs gs

  last_run : (i : ℕ) → i < length ids → get_or ids i 0 / 65536 ≡ b → NotAt b (runs (drop (suc i) ids))
      → runs (drop i ids) ≡ record { block = b; places = get_or ids i 0 % 65536 ∷ [] } ∷ runs (drop (suc i) ids)
  last_run i h e q =
      ap runs (drop-cons ids i 0 h) ∙ runs_cons (get_or ids i 0) (drop (suc i) ids)
      ∙ ap (λ (x : ℕ). push x (get_or ids i 0 % 65536) (runs (drop (suc i) ids))) e ∙ push_new b (get_or ids i 0 % 65536) (runs (drop (suc i) ids)) q

  abbrev the : ℕ → ℕ → Run
  the i j = record { block = b; places = map (λ x. x % 65536) (part i j ids) }

  the_cons : (i j : ℕ) → i < j → j ≤ length ids → record { block = b; places = get_or ids i 0 % 65536 ∷ map (λ x. x % 65536) (part (suc i) j ids) } ≡ the i j
  the_cons i j h k = ap (λ (l : List ℕ). record { block = b; places = map (λ x. x % 65536) l }) (sym (part_cons i j ids 0 h k))

  run_from : (n i j : ℕ) → i + suc n ≡ j → j ≤ length ids → InB i j → NotAt b (runs (drop j ids)) → runs (drop i ids) ≡ the i j ∷ runs (drop j ids)
  run_from zero i j e h t q =
      let s : j ≡ suc i = omega arith in
      let z : record { block = b; places = get_or ids i 0 % 65536 ∷ [] } ≡ the i j =
      ap (λ (l : List ℕ). record { block = b; places = get_or ids i 0 % 65536 ∷ map (λ x. x % 65536) l })
      (sym (ap (λ (k : ℕ). part (suc i) k ids) s ∙ part_empty (suc i) ids))
      ∙ the_cons i j (omega arith) h in
      last_run i (omega arith) (t i (omega arith) (omega arith)) (subst (λ (k : ℕ). NotAt b (runs (drop k ids))) s q)
      ∙ ap₂ {C = List Run} (λ (g : Run) (k : ℕ). g ∷ runs (drop k ids)) z (sym s)
  run_from (suc n) i j e h t q =
      head_run i (map (λ x. x % 65536) (part (suc i) j ids)) (runs (drop j ids)) (omega arith) (t i (omega arith) (omega arith))
      (run_from n (suc i) j (omega arith) h (λ k l. t k (omega arith)) q)
      ∙ ap {B = List Run} (λ (g : Run). g ∷ runs (drop j ids)) (the_cons i j (omega arith) h)

  begins : (j : ℕ) → b ≡ get_or ids 0 0 / 65536 → 0 < j → j ≤ length ids → InB 0 j → NotAt b (runs (drop j ids)) → Begins ids (take j ids) (drop j ids)
  unfolding places_from
  begins j e h k t q =
      let z : j - 0 ≡ j = omega arith in
      let l : length (take j ids) ≡ j = length-take-le j ids k in
      let f : get_or (take j ids) 0 0 ≡ get_or ids 0 0 = get_or-take j ids 0 0 h in
      record {
        some = omega arith;
        parts = sym (take-append-drop j ids);
        whole = omega (arith, length-drop j ids);
        first =
            run_from (j - 1) 0 j (omega arith) k t q
            ∙ ap {B = List Run} (λ (n : ℕ). record { block = b; places = map (λ x. x % 65536) (take n ids) } ∷ runs (drop j ids)) z
            ∙ ap {B = List Run} (λ (x : ℕ). record { block = x; places = map (λ x. x % 65536) (take j ids) } ∷ runs (drop j ids)) (e ∙ ap (λ (n : ℕ). n / 65536) (sym f));
      }

-- ---- the first run of ascending ids

abbrev pub in_block : ℕ → ℕ → Bool
in_block b x = x / 65536 == b

module _ (ids : List ℕ) (b : ℕ) (t : Asc 0 ids) (some : 0 < length ids) (e : b ≡ get_or ids 0 0 / 65536) where
  -- ids before one of the block are its own
  in_between : (i j : ℕ) → i ≤ j → j < length ids → get_or ids j 0 / 65536 ≡ b → get_or ids i 0 / 65536 ≡ b
  in_between i j h k q =
      let x : get_or ids 0 0 + (i - 0) ≤ get_or ids i 0 = asc_gap 0 ids 0 i t zero-le (omega arith) in
      let y : get_or ids i 0 + (j - i) ≤ get_or ids j 0 = asc_gap 0 ids i j t h k in
      omega arith

  -- the id after as many as a block has places is in another one,
  pub after_most : (n : ℕ) → n ≡ min (length ids) 65536 → n < length ids → get_or ids n 0 / 65536 ≡ b → ⊥
  after_most n m h q = let g : get_or ids 0 0 + (n - 0) ≤ get_or ids n 0 = asc_gap 0 ids 0 n t zero-le h in omega arith

  -- and so is the one after an id of another
  pub after_few : (n : ℕ) → 0 < n → (get_or ids (n - 1) 0 / 65536 ≡ b → ⊥) → n < length ids → get_or ids n 0 / 65536 ≡ b → ⊥
  after_few n k f h q = f (in_between (n - 1) n (omega arith) h q)

module _ (ids : List ℕ) (b n : ℕ) (t : Asc 0 ids) (some : 0 < length ids) (e : b ≡ get_or ids 0 0 / 65536) (size : n ≤ length ids)
    (after : n < length ids → get_or ids n 0 / 65536 ≡ b → ⊥) where
  pub parted : IsPartitionedBy (in_block b) (take n ids)
  parted i j d h k q =
      let l : length (take n ids) ≡ n = length-take-le n ids (omega arith) in
      let ti : get_or (take n ids) i d ≡ get_or ids i 0 = get_or-take n ids i d (omega arith) ∙ get_or_default ids i d 0 (omega arith) in
      let tj : get_or (take n ids) j d ≡ get_or ids j 0 = get_or-take n ids j d (omega arith) ∙ get_or_default ids j d 0 (omega arith) in
      rw ti (eq-eqb _ _ (in_between ids b t some e i j h (omega arith) (eqb-true _ _ (rw tj at q))))

  -- none of the block stands behind so many
  none_later : (k : ℕ) → k ≤ n → ((i : ℕ) → k ≤ i → i < n → get_or ids i 0 / 65536 ≡ b → ⊥) → NotAt b (runs (drop k ids))
  none_later k h f =
      below_or k n
      (λ l. not_next ids b k (omega arith) (f k (omega arith) l))
      (λ l. below_or k (length ids)
      (λ u. not_next ids b k u (λ q. let s : k ≡ n = omega arith in after (omega arith) (subst (λ (j : ℕ). get_or ids j 0 / 65536 ≡ b) s q)))
      (λ u. not_end ids b k u))

  -- the first id is its own
  begun : 0 < n
  begun =
      below_or 0 n (λ u. u)
      (λ u. let z : 0 ≡ n = omega arith in absurd (after (omega arith) (subst (λ (j : ℕ). get_or ids j 0 / 65536 ≡ b) z (sym e))))

  pub first_run : (k : ℕ) → k ≤ n → IsPartitionPoint (λ y. in_block b y ≡ true) (λ y. in_block b y ≡ false) (take n ids) k
      → Begins ids (take k ids) (drop k ids)
  first_run k h p =
      let l : length (take n ids) ≡ n = length-take-le n ids (omega arith) in
      let later : (i : ℕ) → k ≤ i → i < n → get_or ids i 0 / 65536 ≡ b → ⊥ =
      (λ i g u q. let c : in_block b (get_or (take n ids) i 0) ≡ false = p.1 i 0 g (omega arith) in
      absurd (cc (c, eq-eqb _ _ q, get_or-take n ids i 0 u))) in
      begins ids b k e
      (below_or 0 k (λ u. u) (λ u. absurd (later 0 u begun (sym e))))
      (omega arith)
      (λ i g u. rw (get_or-take n ids i 0 (omega arith)) at (eqb-true _ _ (p.0 i 0 g u)))
      (none_later k h later)
