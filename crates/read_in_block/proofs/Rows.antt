-- Pairs in a row: ids whose ordinals follow each other, and as many of their values as are there. Assumes nothing.
use Rattle.format.specs.Kit.{◌≡◌, refl, ap, ◌∙◌, List, [], ◌∷◌, Option, none, some, ℕ, zero, suc, ◌+◌, ◌-◌, ◌*◌, ◌≤◌, ◌<◌, arith, ℤ, set, sets}
use Rattle.format.specs.Kit.{length, take}
use Rattle.format.specs.Refusals.{done, refused, and_then, given, BROKEN}
use Rattle.format.specs.Opening.{Opened, id_part, value_of}
use Rattle.next_in_block.specs.First.{Below, entry_in}
use Rattle.format.specs.Next.{candidate_at, next_steps}
use Rattle.format.specs.Ids.{all, sparse, kind_of}
use Rattle.blocks.specs.declared.Block.{Block}
use Rattle.format.specs.ReadFrom.{id_after}
use Rattle.format.specs.Drawn.{drawn}
use Rattle.laws.proofs.Drawn.{drawn_some, drawn_none, drawn_zero, drawn_most}
use Rattle.read_in_block.specs.Parts.{Reads}
use Rattle.read_in_block.proofs.Parts.{stays, takes, then}
use Rattle.read_in_block.specs.Rows.{up_from, entries_from, Rising}
use Rattle.read_in_block.specs.Stretch.{InBlock}
use Rattle.read_in_block.proofs.Places.{pair_at, all_ordinal}
use Rattle.read_in_block.proofs.Entries.{raised, sparse_pair}

-- ---- the pairs

-- ids whose ordinals follow each other from x on: each is what comes next after the one before
abbrev pub InRow : List ℕ → Opened → ℕ → ℕ → List ℕ → Type 0
InRow bytes c t x [] = x ≡ x
InRow bytes c t x (id ∷ ids) = (next_steps bytes c t ≡ pair_at bytes c id x) × InRow bytes c (suc id) (suc x) ids

-- the first of the ids xs, with the values vs, were taken; and where ids are left, step 7 fails
pub record RowTo (bytes : List ℕ) (c : Opened) (room t i : ℕ) (ids : List ℕ) (vs : List ℤ) (xs : List ℕ) (ws : List ℤ) : Type 0 where
  pub reads : Reads bytes c room i t ids vs (i + length ws) (id_after t (take (length ws) xs)) (sets ids i (take (length ws) xs)) (sets vs i ws)
  pub stops : length ws < length xs → next_steps bytes c (id_after t (take (length ws) xs)) ≡ refused BROKEN 0

module _ (bytes : List ℕ) (c : Opened) (room : ℕ) where
  none_taken : (t i : ℕ) (ids : List ℕ) (vs : List ℤ) (xs : List ℕ) → i ≤ room → (0 < length xs → next_steps bytes c t ≡ refused BROKEN 0)
      → RowTo bytes c room t i ids vs xs []
  unfolding id_after
  none_taken t i ids vs xs h e = let z : i + 0 ≡ i = omega arith in record { reads = rw z (stays bytes c room i t ids vs h); stops = e }

  one_taken : (t x i : ℕ) (ids : List ℕ) (vs : List ℤ) (id : ℕ) (xs : List ℕ) (v : ℤ) (ws : List ℤ) → i < room
      → next_steps bytes c t ≡ done (candidate_at id x v) → RowTo bytes c room (suc id) (suc i) (set ids i id) (set vs i v) xs ws
      → RowTo bytes c room t i ids vs (id ∷ xs) (v ∷ ws)
  unfolding id_after
  one_taken t x i ids vs id xs v ws h e r =
      let z : i + suc (length ws) ≡ suc i + length ws = omega arith in
      let one : i + 1 ≡ suc i = omega arith in
      let first = takes bytes c room i t ids vs id x v (set ids i id) (set vs i v) h e refl refl in
      record { reads = rw z (then (rw one at first) r.reads); stops = λ l. r.stops (omega (arith, l)) }

  row_by : (t x i : ℕ) (ids : List ℕ) (vs : List ℤ) (id : ℕ) (xs : List ℕ) → i + suc (length xs) ≤ room → next_steps bytes c t ≡ pair_at bytes c id x
      → ((v : ℤ) → RowTo bytes c room (suc id) (suc i) (set ids i id) (set vs i v) xs (drawn (value_of bytes c) (length xs) (suc x)))
      → (o : Option ℤ) → value_of bytes c x ≡ o
      → RowTo bytes c room t i ids vs (id ∷ xs) (drawn (value_of bytes c) (suc (length xs)) x)
  unfolding and_then given
  row_by t x i ids vs id xs h e more (some v) w =
      rw (drawn_some (value_of bytes c) (length xs) x v w) (one_taken t x i ids vs id xs v _ (omega (arith, h)) (e ∙ rw w refl) (more v))
  row_by t x i ids vs id xs h e more none w =
      rw (drawn_none (value_of bytes c) (suc (length xs)) x w) (none_taken t i ids vs (id ∷ xs) (omega (arith, h)) (λ l. e ∙ rw w refl))

  pub row : (xs : List ℕ) (t x i : ℕ) (ids : List ℕ) (vs : List ℤ) → i + length xs ≤ room → InRow bytes c t x xs
      → RowTo bytes c room t i ids vs xs (drawn (value_of bytes c) (length xs) x)
  row [] t x i ids vs h r = rw (drawn_zero (value_of bytes c) 0 x refl) (none_taken t i ids vs [] (omega (arith, h)) (λ l. absurd (omega (arith, l))))
  row (id ∷ xs) t x i ids vs h r =
      row_by t x i ids vs id xs h r.0 (λ v. row xs (suc id) (suc x) (suc i) (set ids i id) (set vs i v) (omega (arith, h)) r.1) (value_of bytes c x) refl

  -- rows of any length, each the front of a longer one: as many as have values
  pub row_part : (f : ℕ → List ℕ) → ((k : ℕ) → length (f k) ≡ k) → ((n k : ℕ) → n ≤ k → take n (f k) ≡ f n) → (i end t t' x n : ℕ)
      (ids ids' : List ℕ) (vs vs' : List ℤ) → i ≤ end → end ≤ room → InRow bytes c t x (f (end - i))
      → n ≡ i + length (drawn (value_of bytes c) (end - i) x) → vs' ≡ sets vs i (drawn (value_of bytes c) (end - i) x)
      → t' ≡ id_after t (f (n - i)) → ids' ≡ sets ids i (f (n - i))
      → Reads bytes c room i t ids vs n t' ids' vs' × (n < end → next_steps bytes c t' ≡ refused BROKEN 0)
  row_part f long front i end t t' x n ids ids' vs vs' g m u en ev et es =
      let d = drawn (value_of bytes c) (end - i) x in
      let z = length d in
      let most : z ≤ end - i = drawn_most (value_of bytes c) (end - i) x in
      let len : length (f (end - i)) ≡ end - i = long (end - i) in
      let w = row (f (end - i)) t x i ids vs (omega (arith, len, g, m)) u in
      let v : RowTo bytes c room t i ids vs (f (end - i)) d = rw len at w in
      let e2 : n - i ≡ z = omega (arith, en) in
      let e3 : ids' ≡ sets ids i (f z) = es ∙ rw e2 refl in
      let e5 : t' ≡ id_after t (f z) = et ∙ rw e2 refl in
      let tk : take z (f (end - i)) ≡ f z = front z (end - i) most in
      let w1 = rw tk at v.reads in
      let w2 = rw tk at v.stops in
      (rw (en, e3, ev, e5) w1, λ y. rw e5 (w2 (omega (arith, y, len, en, g))))

-- ---- the id after a row

pub after_more : (u x : ℕ) (xs : List ℕ) → id_after u (x ∷ xs) ≡ id_after (suc x) xs
unfolding id_after
after_more u x xs = refl

pub after_none : (u : ℕ) → id_after u [] ≡ u
unfolding id_after
after_none u = refl

-- ---- ids that follow each other

pub up_length : (id k : ℕ) → length (up_from id k) ≡ k
unfolding up_from
up_length id zero = refl
up_length id (suc k) = ap suc (up_length (suc id) k)

pub up_take : (id n k : ℕ) → n ≤ k → take n (up_from id k) ≡ up_from id n
unfolding up_from
up_take id zero k h = refl
up_take id (suc n) zero h = absurd (omega (arith, h))
up_take id (suc n) (suc k) h = ap (λ (xs : List ℕ). id ∷ xs) (up_take (suc id) n k (omega (arith, h)))

pub up_after : (id n : ℕ) → id_after id (up_from id n) ≡ id + n
unfolding up_from id_after
up_after id zero = omega arith
up_after id (suc n) = up_after (suc id) n ∙ omega arith

pub up_more : (id k : ℕ) → up_from id (suc k) ≡ id ∷ up_from (id + 1) k
unfolding up_from
up_more id k = let one : id + 1 ≡ suc id = omega arith in rw one refl

pub up_zero : (id k : ℕ) → k ≡ 0 → up_from id k ≡ []
unfolding up_from
up_zero id k e = rw e refl

-- ---- a block of all places

module _ (bytes : List ℕ) (c : Opened) (b : ℕ) (k : Block) (q : InBlock bytes c b k) (e : kind_of k.count ≡ all) where
  all_in_row : (n r : ℕ) → r + n ≤ 65536 → InRow bytes c (b * 65536 + r) (k.ordinal + r) (up_from (b * 65536 + r) n)
  unfolding up_from
  all_in_row zero r h = refl
  all_in_row (suc n) r h =
      let t : b * 65536 + suc r ≡ suc (b * 65536 + r) = omega arith in
      let o : k.ordinal + suc r ≡ suc (k.ordinal + r) = omega arith in
      let more = all_in_row n (suc r) (omega (arith, h)) in
      ((all_ordinal bytes c b k q e r (omega (arith, h)) refl refl).0, rw (t, o) at more)

  -- the places from r on, as many as have values
  pub all_part : (room i end r : ℕ) (ids ids' : List ℕ) (vs vs' : List ℤ) (x id n r' : ℕ) → i ≤ end → end ≤ room → r + (end - i) ≤ 65536
      → x ≡ k.ordinal + r → id ≡ b * 65536 + r
      → n ≡ i + length (drawn (value_of bytes c) (end - i) x) → vs' ≡ sets vs i (drawn (value_of bytes c) (end - i) x)
      → ids' ≡ sets ids i (up_from id (n - i)) → r' ≡ r + (n - i)
      → Reads bytes c room i (b * 65536 + r) ids vs n (b * 65536 + r') ids' vs' × (n < end → next_steps bytes c (b * 65536 + r') ≡ refused BROKEN 0)
  all_part room i end r ids ids' vs vs' x id n r' h m l ex ei en ev es er =
      let t : ℕ = b * 65536 + r in
      let after : b * 65536 + r' ≡ id_after t (up_from t (n - i)) = omega (arith, er, up_after t (n - i)) in
      row_part bytes c room (up_from t) (up_length t) (up_take t) i end t (b * 65536 + r') (k.ordinal + r) n ids ids' vs vs' h m (all_in_row (end - i) r l)
      (rw ex at en) (rw ex at ev) after (es ∙ rw ei refl)

-- ---- entries that rise

module _ (s : List ℕ) (t b : ℕ) where
  pub entries_length : (j n : ℕ) → length (entries_from s t b j n) ≡ n
  unfolding entries_from
  entries_length j zero = refl
  entries_length j (suc n) = ap suc (entries_length (suc j) n)

  pub entries_take : (j n k : ℕ) → n ≤ k → take n (entries_from s t b j k) ≡ entries_from s t b j n
  unfolding entries_from
  entries_take j zero k h = refl
  entries_take j (suc n) zero h = absurd (omega (arith, h))
  entries_take j (suc n) (suc k) h = ap (λ (xs : List ℕ). (b * 65536 + entry_in s t j) ∷ xs) (entries_take (suc j) n k (omega (arith, h)))

  pub entries_more : (j n : ℕ) → entries_from s t b j (suc n) ≡ (b * 65536 + entry_in s t j) ∷ entries_from s t b (j + 1) n
  unfolding entries_from
  entries_more j n = let one : j + 1 ≡ suc j = omega arith in rw one refl

  pub entries_zero : (j n : ℕ) → n ≡ 0 → entries_from s t b j n ≡ []
  unfolding entries_from
  entries_zero j n e = rw e refl

  -- an entry in front
  pub rising_more : (r j y n : ℕ) → y ≡ entry_in s t j → y < 65536 → r ≤ y → Rising s t (y + 1) (j + 1) n → Rising s t r j (suc n)
  rising_more r j y n e h l q =
      let one : y + 1 ≡ suc (entry_in s t j) = omega (arith, e) in
      let two : j + 1 ≡ suc j = omega arith in
      (omega (arith, e, l), omega (arith, e, h), rw (one, two) at q)

  -- the entries that were taken are below the place that comes next
  pub entries_below : (c r j n m r' : ℕ) → Below s t c r j → r ≤ 65536 → j + n ≤ c → n ≤ m → Rising s t r j m
      → b * 65536 + r' ≡ id_after (b * 65536 + r) (entries_from s t b j n) → Below s t c r' (j + n) × (r' ≤ 65536)
  unfolding entries_from id_after
  entries_below c r j zero m r' p h l k q e =
      let f : r' ≡ r = omega (arith, e) in
      let z : j + 0 ≡ j = omega arith in
      rw (f, z) (p, h)
  entries_below c r j (suc n) zero r' p h l k q e = absurd (omega (arith, k))
  entries_below c r j (suc n) (suc m) r' p h l k q e =
      let y : ℕ = entry_in s t j in
      let one : y + 1 ≡ suc y = omega arith in
      let two : j + 1 ≡ suc j = omega arith in
      let z : j + suc n ≡ suc j + n = omega arith in
      let up : b * 65536 + suc y ≡ suc (b * 65536 + y) = omega arith in
      let d = raised s t c r j y p (omega (arith, l)) refl q.0 in
      let w : Below s t c (suc y) (suc j) = rw (one, two) at d in
      rw z (entries_below c (suc y) (suc j) n m r' w (omega (arith, q.1)) (omega (arith, l)) (omega (arith, k)) q.2 (e ∙ rw up refl))

module _ (bytes : List ℕ) (c : Opened) (b : ℕ) (k : Block) (q : InBlock bytes c b k) (e : kind_of k.count ≡ sparse) (s : List ℕ)
    (h : id_part bytes c ≡ s) where
  entries_in_row : (n r j : ℕ) → Below s k.start k.count r j → j + n ≤ k.count → Rising s k.start r j n
      → InRow bytes c (b * 65536 + r) (k.ordinal + j) (entries_from s k.start b j n)
  unfolding entries_from
  entries_in_row zero r j p l u = refl
  entries_in_row (suc n) r j p l u =
      let y : ℕ = entry_in s k.start j in
      let one : y + 1 ≡ suc y = omega arith in
      let two : j + 1 ≡ suc j = omega arith in
      let up : b * 65536 + suc y ≡ suc (b * 65536 + y) = omega arith in
      let o : k.ordinal + suc j ≡ suc (k.ordinal + j) = omega arith in
      let d = raised s k.start k.count r j y p (omega (arith, l)) refl u.0 in
      let more = entries_in_row n (suc y) (suc j) (rw (one, two) at d) (omega (arith, l)) u.2 in
      ((sparse_pair bytes c b k q e s h r j p (omega (arith, l)) refl u.1 u.0 refl refl).0, rw (up, o) at more)

  pub entries_part : (room i end r j : ℕ) (ids ids' : List ℕ) (vs vs' : List ℤ) (x n r' : ℕ) → i ≤ end → end ≤ room → j + (end - i) ≤ k.count
      → Below s k.start k.count r j → Rising s k.start r j (end - i)
      → x ≡ k.ordinal + j
      → n ≡ i + length (drawn (value_of bytes c) (end - i) x) → vs' ≡ sets vs i (drawn (value_of bytes c) (end - i) x)
      → b * 65536 + r' ≡ id_after (b * 65536 + r) (entries_from s k.start b j (n - i))
      → ids' ≡ sets ids i (entries_from s k.start b j (n - i))
      → Reads bytes c room i (b * 65536 + r) ids vs n (b * 65536 + r') ids' vs' × (n < end → next_steps bytes c (b * 65536 + r') ≡ refused BROKEN 0)
  entries_part room i end r j ids ids' vs vs' x n r' g m l p u ex en ev er es =
      row_part bytes c room (entries_from s k.start b j) (entries_length s k.start b j) (entries_take s k.start b j) i end (b * 65536 + r)
      (b * 65536 + r') (k.ordinal + j) n ids ids' vs vs' g m (entries_in_row (end - i) r j p l u) (rw ex at en) (rw ex at ev) er es
