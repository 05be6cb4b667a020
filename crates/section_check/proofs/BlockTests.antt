-- The turns of the loops over a block: what was found right so far, with the tests that are left, is what all the tests give. Assumes nothing.
use Rattle.format.specs.Kit.{◌≡◌, refl, sym, ap, ap₂, ◌∙◌, Bool, true, false, cond, ◌&&◌, and-true, and_assoc, List, ℕ, suc, ◌+◌, ◌-◌, ◌*◌, ◌/◌, ◌^◌}
use Rattle.format.specs.Kit.{◌∷◌, ◌<◌, ◌≤◌, pow-add, arith, add-one, eqb, leb, ltb, drop, drop-drop, ltb-true, ltb-false, le-leb, lt-leb}
use Rattle.format.specs.Limits.{Power}
use Rattle.format.specs.Bytes.{high_at}
use Rattle.format.specs.Ids.{by_kind, rank_bytes}
use Rattle.format.specs.LookUp.{ones_from}
use Rattle.format.specs.Orders.{Order, fixed_at, numbers_in}
use Rattle.format.specs.Pairs.{asc_from}
use Rattle.format.specs.Judge.{ranks_from, places_ok, ones_ok, ranks_ok, ones_unlike, rank_wrong}
use Rattle.laws.proofs.Cases.{below_or}
use Rattle.laws.proofs.Blocks.{kind_sparse, kind_dense, kind_all}
use Rattle.laws.proofs.Sizes.{ranks_none, ranks_some}
use Rattle.judge.proofs.Held.{ranks_zero}
use Rattle.section_check.specs.Reasons.{words_reason}

-- ---- shorts that ascend

ltb_leb : (a b : ℕ) → ltb a b ≡ leb (a + 1) b
ltb_leb a b = go (ltb a b) refl
  where
    go : (q : Bool) → ltb a b ≡ q → q ≡ leb (a + 1) b
    go true e = let h : a < b = ltb-true a b e in sym (le-leb (a + 1) b (omega arith))
    go false e = let h : b ≤ a = ltb-false a b e in sym (lt-leb (a + 1) b (omega arith))

module _ (ord : Order) (s : List ℕ) (t c : ℕ) where
  short_next : (i : ℕ) → i < c
      → numbers_in ord 2 (c - i) (drop (t + 2 * i) s) ≡ fixed_at ord 2 s (t + 2 * i) ∷ numbers_in ord 2 (c - (i + 1)) (drop (t + 2 * (i + 1)) s)
  unfolding numbers_in fixed_at
  short_next i h =
      let e : c - i ≡ suc (c - (i + 1)) = omega arith in
      let f : t + 2 * i + 2 ≡ t + 2 * (i + 1) = omega arith in
      rw (e, drop-drop 2 (t + 2 * i) s, f)

  asc_on : (i a : ℕ) → i < c
      → asc_from a (numbers_in ord 2 (c - i) (drop (t + 2 * i) s))
      ≡ (leb a (fixed_at ord 2 s (t + 2 * i)) && asc_from (fixed_at ord 2 s (t + 2 * i) + 1) (numbers_in ord 2 (c - (i + 1)) (drop (t + 2 * (i + 1)) s)))
  unfolding asc_from
  asc_on i a h = rw (short_next i h, add-one (fixed_at ord 2 s (t + 2 * i)))

  -- one more neighbour, x after y
  pub asc_turn : (i y x : ℕ) (right q : Bool) → i < c → x ≡ fixed_at ord 2 s (t + 2 * i) → y ≡ fixed_at ord 2 s (t + 2 * (i - 1)) → q ≡ (right && ltb y x)
      → (right && asc_from (fixed_at ord 2 s (t + 2 * (i - 1)) + 1) (numbers_in ord 2 (c - i) (drop (t + 2 * i) s)))
      ≡ (q && asc_from (fixed_at ord 2 s (t + 2 * (i + 1 - 1)) + 1) (numbers_in ord 2 (c - (i + 1)) (drop (t + 2 * (i + 1)) s)))
  asc_turn i y x right q h ex ey eq =
      let e : i + 1 - 1 ≡ i = omega arith in
      rw (← ey, asc_on i (y + 1) h, e, ← ex, eq, ltb_leb) (sym (and_assoc right _ _))

  asc_nil : (n a : ℕ) (l : List ℕ) → n ≡ 0 → asc_from a (numbers_in ord 2 n l) ≡ true
  unfolding asc_from numbers_in
  asc_nil n a l e = rw e

  pub asc_end : (i a : ℕ) (right : Bool) → c ≤ i → (right && asc_from a (numbers_in ord 2 (c - i) (drop (t + 2 * i) s))) ≡ right
  asc_end i a right h = rw (asc_nil (c - i) a (drop (t + 2 * i) s) (omega arith)) (and-true right)

  pub asc_begin : (y : ℕ) → y ≡ fixed_at ord 2 s (t + 2 * 0)
      → asc_from 0 (numbers_in ord 2 c (drop t s)) ≡ asc_from (y + 1) (numbers_in ord 2 (c - 1) (drop (t + 2 * 1) s))
  asc_begin y q =
      let e : c ≡ c - 0 = omega arith in
      let f : t ≡ t + 2 * 0 = omega arith in
      below_or 0 c
      (λ h.
      ap₂ (λ (x y : ℕ). asc_from 0 (numbers_in ord 2 x (drop y s))) e f ∙ asc_on 0 0 h
      ∙ rw (le-leb 0 (fixed_at ord 2 s (t + 2 * 0)) (omega arith), q))
      (λ h. asc_nil c 0 (drop t s) (omega arith) ∙ sym (asc_nil (c - 1) (y + 1) (drop (t + 2 * 1) s) (omega arith)))

-- ---- ranks

-- one entry more, with what was found so far; the entry and the ones are the code's own numbers
pub ranks_turn : (n p : ℕ) (s : List ℕ) (t m j : ℕ) (r : Bool) {x y : ℕ} {q : Bool} → j < n → q ≡ (r && eqb x y) → x ≡ high_at 2 s (t + 2 * j)
    → y ≡ ones_from s m (j * 2 ^ (p - 6)) 0
    → q && ranks_from (n - (j + 1)) p s t m (j + 1) ≡ r && ranks_from (n - j) p s t m j
unfolding ranks_from
ranks_turn n p s t m j r h eq ex ey =
    let e : n - j ≡ suc (n - (j + 1)) = omega arith in
    rw (eq, ex, ey, e, add-one) (and_assoc r (eqb (high_at 2 s (t + 2 * j)) (ones_from s m (j * 2 ^ (p - 6)) 0)) _)

pub ranks_last : (n p : ℕ) (s : List ℕ) (t m j : ℕ) (r : Bool) → n ≤ j → r && ranks_from (n - j) p s t m j ≡ r
unfolding ranks_from
ranks_last n p s t m j r h =
    let e : n - j ≡ 0 = omega arith in
    rw e (and-true r)

-- all strides together are the block's longs
pub strides_all : (p j : ℕ) → Power p → (p ≡ 0 → ⊥) → j ≡ rank_bytes p / 2 → j * 2 ^ (p - 6) ≡ 1024
strides_all p j h e q =
    let six : 16 - p + (p - 6) ≡ 10 = omega (arith, h.most, h.least e) in
    ap (λ (x : ℕ). x * 2 ^ (p - 6)) (q ∙ (ranks_some p h.most e).1) ∙ sym (pow-add 2 (16 - p) (p - 6)) ∙ ap (λ (x : ℕ). 2 ^ x) six

-- ---- by kind

pub places_sparse : (ord : Order) (s : List ℕ) (t c : ℕ) → c < 4096 → places_ok ord s t c ≡ asc_from 0 (numbers_in ord 2 c (drop t s))
unfolding places_ok by_kind
places_sparse ord s t c h = rw (kind_sparse c h)

pub places_more : (ord : Order) (s : List ℕ) (t c : ℕ) → 4096 ≤ c → places_ok ord s t c ≡ true
unfolding places_ok by_kind
places_more ord s t c h = below_or c 65536 (λ k. rw (kind_dense c h k)) (λ k. rw (kind_all c k))

module _ (p : ℕ) (s : List ℕ) (t c : ℕ) where
  pub words_sparse : c < 4096 → 0 ≡ words_reason p s t c
  unfolding ones_ok ranks_ok by_kind
  words_sparse h = rw (kind_sparse c h)

  pub words_whole : 65536 ≤ c → 0 ≡ words_reason p s t c
  unfolding ones_ok ranks_ok by_kind
  words_whole h = rw (kind_all c h)

  pub words_dense : 4096 ≤ c → c < 65536 → (n : ℕ) (r : Bool) → n ≡ ones_from s (t + rank_bytes p) 1024 0
      → r ≡ ranks_from (rank_bytes p / 2) p s t (t + rank_bytes p) 0 → cond (eqb n c) (cond r 0 rank_wrong) ones_unlike ≡ words_reason p s t c
  unfolding ones_ok ranks_ok by_kind
  words_dense h k n r en er = rw (kind_dense c h k, ← en, ← er)

pub ranks_begin : (b p : ℕ) (s : List ℕ) (t : ℕ) → b ≡ rank_bytes p
    → ranks_from (rank_bytes p / 2) p s t (t + rank_bytes p) 0 ≡ ranks_from (b / 2 - 0) p s t (t + b) 0
ranks_begin b p s t e =
    let f : rank_bytes p / 2 ≡ b / 2 - 0 = omega arith in
    rw (f, ← e)

pub ranks_free : (p : ℕ) (s : List ℕ) (t m : ℕ) → p ≡ 0 → ranks_from (rank_bytes p / 2) p s t m 0 ≡ true
ranks_free p s t m e = ranks_zero (rank_bytes p / 2) p s t m (ap (λ (x : ℕ). x / 2) (ranks_none p e))
