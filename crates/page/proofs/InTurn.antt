-- Runs of ids: their ends, the entries of a sparse block, what halving finds there, and the block of each id. Assumes nothing.
use Rattle.format.specs.Kit.{◌≡◌, refl, sym, ap, ◌∙◌, subst, List, Option, none, some, ℕ, zero, suc, ◌+◌, ◌-◌, ◌*◌, ◌/◌, ◌≤◌, ◌<◌, arith, length, get_or, drop}
use Rattle.format.specs.Limits.{block_places}
use Rattle.format.specs.Bytes.{low_at}
use Rattle.format.specs.IdsRead.{shorts}
use Rattle.format.specs.Ids.{Kind, sparse, dense, kind_of}
use Rattle.format.specs.Opening.{Opened, id_part}
use Rattle.format.specs.LookUp.{halve, halved, in_sparse}
use Rattle.laws.proofs.Cases.{below_or, equal_or}
use Rattle.laws.proofs.Halving.{by_probe, halve_none, halve_hit, halve_past, halve_before}
use Rattle.laws.proofs.Probes.{length_shorts}
use Rattle.laws.proofs.Standing.{short_at}
use Rattle.blocks.specs.declared.Block.{Block}
use Rattle.column.specs.Opened.{column_of}
use Rattle.column.specs.declared.Column.{Column}
use Rattle.in_block.proofs.ByKind.{of_sparse}
use Rattle.page.specs.Marks.{mark_of, InBlock}
use Rattle.page.specs.declared.marks.Mark as Ma
use Rattle.page.specs.Runs.{Run, Climbs, Reached, ReadyIn, ReachedIn, Way}

-- ---- where they end

abbrev After : List ℕ → (k j : ℕ) → Type 0
After ids k j = (get_or ids k 0 ≤ get_or ids j 0) × (get_or ids j 0 / block_places ≡ get_or ids k 0 / block_places)

after_itself : (ids : List ℕ) (k : ℕ) → After ids k k
after_itself ids k = (omega arith, refl)

pub run_one : (ids : List ℕ) (i : ℕ) → Run ids i (i + 1)
run_one ids i k j a b d = let z : k ≡ j = omega arith in subst (After ids k) z (after_itself ids k)

pub run_more : (ids : List ℕ) (i e : ℕ) → Run ids i e → i < e → After ids (e - 1) e → Run ids i (e + 1)
run_more ids i e g l t k j a b d =
    let last : After ids k e =
    equal_or k e
    (λ z. subst (After ids k) z (after_itself ids k))
    (λ z. let x = g k (e - 1) a (omega arith) (omega arith) in (omega (arith, x.0, t.0), t.1 ∙ x.1)) in
    below_or j e (λ y. g k j a b y) (λ y. let z : e ≡ j = omega arith in subst (After ids k) z last)

-- ---- entries

-- halving ascending entries
module _ (r : ℕ) (xs : List ℕ) (up : (q m : ℕ) → q < m → m < length xs → get_or xs q 0 < get_or xs m 0) where
  order : (i j : ℕ) → i < length xs → j < length xs → get_or xs i 0 < get_or xs j 0 → i < j
  order i j a b h =
      below_or i j (λ l. l)
      (λ l.
      equal_or j i
      (λ z. absurd (let q : get_or xs j 0 ≡ get_or xs i 0 = ap (λ (x : ℕ). get_or xs x 0) z in omega arith))
      (λ z. absurd (let q = up j i (omega arith) a in omega arith)))

  same : (i j : ℕ) → i < length xs → j < length xs → get_or xs i 0 ≡ get_or xs j 0 → i ≡ j
  same i j a b h =
      equal_or i j (λ z. z)
      (λ z. below_or i j (λ l. absurd (let q = up i j l b in omega arith)) (λ l. absurd (let q = up j i (omega arith) a in omega arith)))

  -- what stands there is found,
  finds : (j : ℕ) → get_or xs j 0 ≡ r → (k lo hi n : ℕ) → hi - lo ≤ k → hi ≤ length xs → lo ≤ j → j < hi → (halve r xs lo hi n).index ≡ some j
  finds j e zero lo hi n f l a b = absurd (omega arith)
  finds j e (suc k) lo hi n f l a b =
      let m : ℕ = (lo + hi) / 2 in
      by_probe r xs lo hi
      (λ h. absurd (omega arith))
      (λ h g. rw (halve_hit r xs lo hi n h g) (ap {B = Option ℕ} some (same m j (omega arith) (omega arith) (g ∙ sym e))))
      (λ h g.
      let o : m < j = order m j (omega arith) (omega arith) (omega (arith, g, e)) in
      rw (halve_past r xs lo hi n h g) (finds j e k (suc m) hi (suc n) (omega arith) l (omega arith) b))
      (λ h g.
      let o : j < m = order j m (omega arith) (omega arith) (omega (arith, g, e)) in
      rw (halve_before r xs lo hi n h g) (finds j e k lo m (suc n) (omega arith) (omega arith) a o))

  -- and nothing else
  misses : ((i : ℕ) → i < length xs → get_or xs i 0 ≡ r → ⊥) → (k lo hi n : ℕ) → hi - lo ≤ k → hi ≤ length xs → (halve r xs lo hi n).index ≡ none
  misses z zero lo hi n f l = rw (halve_none r xs lo hi n (omega arith)) refl
  misses z (suc k) lo hi n f l =
      let m : ℕ = (lo + hi) / 2 in
      by_probe r xs lo hi
      (λ h. rw (halve_none r xs lo hi n h) refl)
      (λ h g. absurd (z m (omega arith) g))
      (λ h g. rw (halve_past r xs lo hi n h g) (misses z k (suc m) hi (suc n) (omega arith) l))
      (λ h g. rw (halve_before r xs lo hi n h g) (misses z k lo m (suc n) (omega arith) (omega arith)))

module _ (s : List ℕ) (at c r : ℕ) (up : Climbs s at c) where
  abbrev entries : List ℕ
  entries = shorts c (drop at s)

  rises : (q m : ℕ) → q < m → m < length entries → get_or entries q 0 < get_or entries m 0
  rises q m a b =
      let l : m < c = omega (arith, length_shorts c (drop at s)) in
      rw (short_at c q at s (omega arith), short_at c m at s l) (up q m a l)

  pub entry_found : (j : ℕ) → j < c → low_at 2 s (at + 2 * j) ≡ r → halved r entries ≡ some j
  entry_found j l e =
      let n = length_shorts c (drop at s) in
      finds r entries rises j (short_at c j at s l ∙ e) (length entries) 0 (length entries) 0 (omega arith) (omega arith) (omega arith) (omega (arith, n))

  pub entry_none : (j : ℕ) → Reached s at c j r → (j < c → low_at 2 s (at + 2 * j) ≡ r → ⊥) → halved r entries ≡ none
  entry_none j h z =
      misses r entries rises
      (λ i b e.
      let l : i < c = omega (arith, length_shorts c (drop at s)) in
      let f : low_at 2 s (at + 2 * i) ≡ r = sym (short_at c i at s l) ∙ e in
      below_or i j
      (λ y. let x = h.1 i y in omega arith)
      (λ y.
      equal_or i j
      (λ q. z (omega arith) (subst (λ (x : ℕ). low_at 2 s (at + 2 * x) ≡ r) q f))
      (λ q. let x = h.2 (omega arith) in let u = up j i (omega arith) l in omega arith)))
      (length entries) 0 (length entries) 0 (omega arith) (omega arith)

-- the mark of an entry, and of none
pub mark_found : (o j : ℕ) (x : Option ℕ) → x ≡ some j → Ma.Mark.At (o + j) 0 ≡ mark_of o (in_sparse x)
unfolding in_sparse
mark_found o j x e = rw e refl

pub mark_none : (o : ℕ) (x : Option ℕ) → x ≡ none → Ma.Mark.Absent 0 ≡ mark_of o (in_sparse x)
unfolding in_sparse
mark_none o x e = rw e refl

-- ---- kinds

pub not_both : {X : Type 0} {a b k : Kind} → (a ≡ b → ⊥) → k ≡ a → k ≡ b → X
not_both n e f = absurd (n (sym e ∙ f))

pub sparse_dense : sparse ≡ dense → ⊥
sparse_dense e = let z : ◌≡◌ {A = ℕ} 0 1 = cc in omega arith

pub sparse_fits : {bytes : List ℕ} {c : Opened} {b : ℕ} {k : Block} → InBlock bytes c b k → kind_of k.count ≡ sparse
    → k.start + 2 * k.count ≤ length (id_part bytes c)
sparse_fits {bytes} {c} {b} {k} w e =
    omega (arith, w.data_end, (of_sparse c.head.power k.count (id_part bytes c) k.start 0 e).0)

-- ---- the ids of a run

pub way_for : {bytes : List ℕ} {column : Column} {id : ℕ} {k : Block} → Way bytes column id k → (j : ℕ) → j / 65536 ≡ id / 65536 → Way bytes column j k
way_for {bytes} {column} {id} {k} w j e =
    record {
      in_limit = omega (arith, w.in_limit);
      edition = w.edition;
      block = subst (λ (b : ℕ). InBlock bytes (column_of column) b k) (sym e) w.block;
      not_dense = w.not_dense;
      climbs = w.climbs;
    }

-- a later one goes on from there
pub ready_later : (bytes : List ℕ) (c : Opened) (k : Block) (j r : ℕ) → ReachedIn bytes c k j r → (m : ℕ) → r ≤ m → ReadyIn bytes c k j m
ready_later bytes c k j r h m a e = let x = h e in (x.0, λ q b. let y = x.1 q b in omega arith)
