-- A look-up counts no more words than a stride has, or a block without ranks: by the formula, and on any bytes. And a listed id stands
-- at its ordinal. Assumes nothing.
use Rattle.format.specs.Kit.{◌≡◌, refl, subst, Bool, true, false, cond, not, ◌&&◌, Option, none, some, List, [], ◌∷◌, ℕ, zero, suc, ◌+◌, ◌-◌}
use Rattle.format.specs.Kit.{◌*◌, ◌/◌, ◌%◌, ◌^◌, ◌<◌, ◌≤◌, zero-le, mod-lt, arith, eqb, leb, ltb, pow_pos, ones_in, length, get_or, drop, eq-eqb}
use Rattle.format.specs.Kit.{ne_eqb, lt-ltb, le-ltb}
use Rattle.format.specs.Limits.{Power, block_places}
use Rattle.format.specs.Refusals.{Outcome, done, refused, and_then, need, BROKEN}
use Rattle.format.specs.Bytes.{low_at}
use Rattle.format.specs.Editions.{Edition}
use Rattle.format.specs.Ids.{Entry, Kind, sparse, dense, all, kind_of, by_kind, rank_bytes, block_bytes, count_below}
use Rattle.format.specs.IdsRead.{shorts}
use Rattle.format.specs.Pairs.{Asc}
use Rattle.format.specs.Opening.{Opened, open_column, id_part}
use Rattle.format.specs.LookUp.{Look, absent, Place, inside, nowhere, broken, Rule, halved, in_sparse, ones_from, stride_long, stride_rank, dense_at, place_at}
use Rattle.format.specs.LookUp.{entries_at, entry_at, answer, from_entry, steps, look_up, look_up_in}
use Rattle.format.specs.Walk.{in_block, listed, words, stride_words, FewWords}
use Rattle.laws.proofs.Cases.{below_or, equal_or, true_or}
use Rattle.laws.proofs.Place.{listed_higher, count_higher, stride_words_lem}
use Rattle.laws.proofs.Tests.{needed, passed, or_right}
use Rattle.laws.proofs.Rules.{head_facts}
use Rattle.laws.proofs.Open.{opened_ok}

-- ---- the formula

-- the words from a stride's first to that of place r
stride_le : (p r : ℕ) → r < 65536 → cond (eqb p 0) (r / 64 + 1) (r / 64 % 2 ^ (p - 6) + 1) ≤ stride_words p
unfolding stride_words
stride_le p r h = true_or (eqb p 0) (λ e. rw e (omega arith)) (λ e. rw e (omega (arith, mod-lt (r / 64) (pow_pos (p - 6)))))

one_le : (p : ℕ) → 1 ≤ stride_words p
unfolding stride_words
one_le p = true_or (eqb p 0) (λ e. rw e (omega arith)) (λ e. rw e (pow_pos (p - 6)))

pub words_le : (p : ℕ) (ids : List ℕ) (id : ℕ) → words p ids id ≤ stride_words p
unfolding words by_kind
words_le p ids id = by_kind_lem (kind_of (in_block (id / block_places) ids)) (listed id ids)
  where
    by_kind_lem : (k : Kind) (t : Bool) → by_kind k 0
        (cond t (cond (eqb p 0) (id % block_places / 64 + 1) (id % block_places / 64 % 2 ^ (p - 6) + 1)) 1) 0 ≤ stride_words p
    by_kind_lem sparse t = zero-le
    by_kind_lem dense true = stride_le p (id % block_places) (omega arith)
    by_kind_lem dense false = one_le p
    by_kind_lem all t = zero-le

-- ---- a listed id

pub listed_at : (a id : ℕ) (ids : List ℕ) → Asc a ids → listed id ids ≡ true → get_or ids (count_below id ids) 0 ≡ id
unfolding listed count_below
listed_at a id [] t e = absurd (let z : ◌≡◌ {A = ℕ} 0 1 = cc in omega arith)
listed_at a id (x ∷ xs) t e =
    equal_or x id
    (λ q. rw (le-ltb x id (omega arith), count_higher id (suc x) xs (omega arith) t.1) q)
    (λ q.
    let there : listed id xs ≡ true = rw (ne_eqb x id q) at e in
    below_or x id
    (λ l.
    let one : 1 + count_below id xs ≡ suc (count_below id xs) = omega arith in
    rw (lt-ltb x id l, one) (listed_at (suc x) id xs t.1 there))
    (λ l. absurd (let f = listed_higher id (suc x) xs (omega arith) t.1 in let z : ◌≡◌ {A = ℕ} 0 1 = cc in omega arith)))

pub listed_each : (ids : List ℕ) (i : ℕ) → i < length ids → listed (get_or ids i 0) ids ≡ true
unfolding listed
listed_each [] i h = absurd (omega arith)
listed_each (x ∷ xs) zero h = rw (eq-eqb x x refl)
listed_each (x ∷ xs) (suc i) h = or_right (eqb x (get_or xs i 0)) (listed (get_or xs i 0) xs) (listed_each xs i (omega arith))

-- ---- on any bytes

abbrev Few : ℕ → Place → Type 0
Few m (inside i w) = w ≤ m
Few m (nowhere w) = w ≤ 1
Few m broken = Unit {0}

sparse_few : (m : ℕ) (o : Option ℕ) → Few m (in_sparse o)
unfolding in_sparse
sparse_few m (some i) = zero-le
sparse_few m none = zero-le

dense_few : (p : ℕ) (s : List ℕ) (t c r : ℕ) → ((p ≡ 0 → ⊥) → 6 ≤ p) → r < 65536 → Few (stride_words p) (dense_at p s t c r)
unfolding dense_at
dense_few p s t c r hp hr =
    let m : ℕ = t + rank_bytes p in
    let f : ℕ = stride_long p r in
    let long : ℕ = low_at 8 s (m + 8 * (r / 64)) in
    let i : ℕ = stride_rank p s t r + ones_from s m (r / 64 - f) f + ones_in 64 (long % 2 ^ (r % 64)) in
    go (eqb (long / 2 ^ (r % 64) % 2) 0) (ltb i c) i
  where
    go : (clear within : Bool) (i : ℕ) → Few (stride_words p) (cond clear (nowhere 1) (cond within (inside i (r / 64 - stride_long p r + 1)) broken))
    go true within i = omega arith
    go false true i = rw (stride_words_lem p r hp) (stride_le p r hr)
    go false false i = tt

place_few : (rule : Rule) (p : ℕ) (s : List ℕ) (t c r : ℕ) → ((p ≡ 0 → ⊥) → 6 ≤ p) → r < 65536 → Few (stride_words p) (place_at rule p s t c r)
unfolding place_at by_kind
place_few rule p s t c r hp hr = go (kind_of c)
  where
    go : (k : Kind) → Few (stride_words p) (by_kind k (in_sparse (rule r (shorts c (drop t s)))) (dense_at p s t c r) (inside r 0))
    go sparse = sparse_few (stride_words p) (rule r (shorts c (drop t s)))
    go dense = dense_few p s t c r hp hr
    go all = zero-le

answer_few : (bytes : List ℕ) (c : Opened) (p o : ℕ) (q : Place) (l : Look) → Few (stride_words p) q → answer bytes c o q ≡ done l → FewWords p (done l)
unfolding answer
answer_few bytes c p o (inside i w) l f e = subst (FewWords p) (passed _ _ l e).2 f
answer_few bytes c p o (nowhere w) l f e = subst (FewWords p) e f
answer_few bytes c p o broken l f e = absurd (let z : ◌≡◌ {A = ℕ} 0 1 = cc in omega arith)

-- from step 3 on
module _ (bytes : List ℕ) (col : Opened) (o p : ℕ) (q : Place) (l : Look) where
  rest_few : (other fits : Bool) → Few (stride_words p) q → cond other (done (absent 0)) (need fits BROKEN 0 (answer bytes col o q)) ≡ done l
      → FewWords p (done l)
  rest_few true fits f e = subst (FewWords p) e zero-le
  rest_few false fits f e = answer_few bytes col p o q l f (needed fits BROKEN 0 (answer bytes col o q) l e).1

steps_few : (rule : Rule) (bytes : List ℕ) (col : Opened) (id : ℕ) (l : Look) → Power col.head.power → steps rule bytes col id ≡ done l
    → FewWords col.head.power (done l)
unfolding steps from_entry
steps_few rule bytes col id l ok e =
    let p : ℕ = col.head.power in
    let s : List ℕ = id_part bytes col in
    let at : Entry = entry_at s (entries_at col.head) col.head.jump_count (id / block_places) in
    let k : ℕ = low_at 2 s at.1 in
    let c : ℕ = low_at 2 s (at.1 + 2) + 1 in
    let s2 = needed _ _ _ _ l e in
    let s3 = needed _ _ _ _ l s2.1 in
    rest_few bytes col at.0 p (place_at rule p s (at.1 + 4) c (id % block_places)) l (not (eqb k (id / block_places)))
    (leb (at.1 + block_bytes p c) (entries_at col.head) && leb (at.0 + c) col.head.count)
    (place_few rule p s (at.1 + 4) c (id % block_places) (λ z. omega (arith, ok.least z)) (omega arith)) s3.1

pub few_words : (known : List Edition) (bytes : List ℕ) (c : Opened) (id : ℕ) (l : Look) → open_column known bytes ≡ done c → look_up known bytes id ≡ done l
    → FewWords c.head.power (done l)
unfolding look_up and_then
few_words known bytes c id l o e =
    steps_few halved bytes c id l (head_facts c.head (opened_ok known bytes c o).rules).power (rw o at (needed _ _ _ _ l e).1)

few_words_in : (bytes : List ℕ) (c : Opened) (id : ℕ) (l : Look) → look_up_in bytes c id ≡ done l → FewWords c.head.power (done l)
unfolding look_up_in
few_words_in bytes c id l e =
    let s1 = needed _ _ _ _ l e in
    let s2 = needed _ _ _ _ l s1.1 in
    steps_few halved bytes c id l (head_facts c.head s2.0).power (needed _ _ _ _ l s2.1).1

-- whatever the answer
few_of : (p : ℕ) (r : Outcome Look) → ((l : Look) → r ≡ done l → FewWords p (done l)) → FewWords p r
few_of p (done l) f = f l refl
few_of p (refused why w) f = tt

pub look_up_few : (known : List Edition) (bytes : List ℕ) (c : Opened) (id : ℕ) → open_column known bytes ≡ done c
    → FewWords c.head.power (look_up known bytes id)
look_up_few known bytes c id o = few_of c.head.power (look_up known bytes id) (λ l. few_words known bytes c id l o)

pub look_up_in_few : (bytes : List ℕ) (c : Opened) (id : ℕ) → FewWords c.head.power (look_up_in bytes c id)
look_up_in_few bytes c id = few_of c.head.power (look_up_in bytes c id) (few_words_in bytes c id)
