-- The blocks one after the other: what is read is the bytes of the list that it gives, and the bytes of a list are read back to it.
-- Assumes nothing.
use Rattle.format.specs.Kit.{List, [], ◌++◌, ◌+◌, ◌<◌, ◌^◌, ◌∙◌, ◌∷◌, ◌≡◌, ◌≤◌, ap, append_assoc, ap₂, arith, drop, drop-append_seam, drop-drop, drop-length}
use Rattle.format.specs.Kit.{eq-eqb, eqb-true, le-leb, leb-true, length, length-append, length-drop, refl, subst, suc, sym, true, zero, zero-le, ℕ}
use Rattle.format.specs.Bytes.{bytes_of, low}
use Rattle.format.specs.HeaderNumbers.{number, number_at}
use Rattle.format.specs.Ids.{Run, bitmap, runs}
use Rattle.format.specs.IdsRead.{ids_of}
use Rattle.format.specs.Pairs.{Asc, Below}
use Rattle.format.specs.Refusals.{and_then, done, need, refused}
use Rattle.format.specs.Runs.{AllFine, AscBlocks, Fine}
use Rattle.format.specs.SetBytes.{set_block, set_block_as, set_bytes, set_data, set_kind, set_list}
use Rattle.format.specs.SetCalls.{SetHead, block_from, blocks_from, data_from, kind_from, length_from, list_length_ok, set_data_ok, set_end, set_ids, set_places, set_run}
use Rattle.laws.proofs.Header.{number_at_lem}
use Rattle.laws.proofs.Jumps.{asc_blocks}
use Rattle.laws.proofs.Minimal.{number_is}
use Rattle.laws.proofs.Retired.{blocks_few}
use Rattle.laws.proofs.Runs.{fine_runs, ids_runs}
use Rattle.laws.proofs.Tests.{both_true, needed, passed, result}
use Rattle.judge.proofs.Grouped.{asc_ids, below_ids, runs_ids}
use Rattle.set_format.proofs.Data.{Held, Passes, fits, held, kind_le, list_short, other_kind, passes}

-- ---- one number

-- a number that stands at a place is read, and what follows it follows
record Step (s : List ℕ) (at n : ℕ) (rest : List ℕ) : Type 0 where
  read : number_at s at ≡ done (n, at + length (number n))
  behind : drop (at + length (number n)) s ≡ rest
  inside : at + length (number n) ≤ length s

step : (s : List ℕ) (at n : ℕ) (rest : List ℕ) → n < 2 ^ 64 → at ≤ length s → drop at s ≡ number n ++ rest → Step s at n rest
step s at n rest h a e =
    record {
      read = number_at_lem s at n rest e h;
      behind = sym (drop-drop (length (number n)) at s) ∙ ap (drop (length (number n))) e ∙ drop-append_seam (number n) rest;
      inside = omega (arith, length-drop at s, ap length e ∙ length-append (number n) rest);
    }

-- ---- the bytes of a list are read back

block_shape : (t c : ℕ) (g : Run) (rest : List ℕ) → set_kind (length g.places) ≡ t → length (set_list t g.places) ≡ c
    → set_block g ++ rest ≡ number g.block ++ (number t ++ (number c ++ (set_data t g.places ++ rest)))
unfolding set_block set_block_as
block_shape t c g rest e f = rw (e, f) (simp append_assoc)

-- a block that stands at a place is taken, and gives its run back
pub record Taken (next at : ℕ) (s : List ℕ) (g : Run) (rest : List ℕ) : Type 0 where
  pub head : SetHead
  pub read : block_from next s at ≡ done head
  pub block_is : head.block ≡ g.block
  pub run : set_run s head ≡ g
  pub behind : drop (set_end head) s ≡ rest
  pub inside : set_end head ≤ length s

pub taken : (next at : ℕ) (s : List ℕ) (g : Run) (rest : List ℕ) → Fine g → next ≤ g.block → at ≤ length s → drop at s ≡ set_block g ++ rest
    → Taken next at s g rest
unfolding block_from kind_from length_from data_from set_run and_then need
taken next at s g rest fine n a e =
    let rs : List ℕ = g.places in
    let t : ℕ = set_kind (length rs) in
    let c : ℕ = length (set_list t rs) in
    let s1 : Step s at g.block (number t ++ (number c ++ (set_data t rs ++ rest))) =
    step s at g.block (number t ++ (number c ++ (set_data t rs ++ rest))) (omega (arith, fine.number)) a (e ∙ block_shape t c g rest refl refl) in
    let a1 : ℕ = at + length (number g.block) in
    let s2 : Step s a1 t (number c ++ (set_data t rs ++ rest)) =
    step s a1 t (number c ++ (set_data t rs ++ rest)) (omega (arith, kind_le (length rs))) s1.inside s1.behind in
    let a2 : ℕ = a1 + length (number t) in
    let s3 : Step s a2 c (set_data t rs ++ rest) =
    step s a2 c (set_data t rs ++ rest) (omega (arith, list_short rs fine.ascending fine.inside)) s2.inside s2.behind in
    let a3 : ℕ = a2 + length (number c) in
    let p : Passes t rs s a3 rest = passes rs s a3 rest fine.some_place fine.ascending fine.inside s3.inside s3.behind in
    record {
      head = record { block = g.block; kind = t; long = c; start = a3 };
      read =
          rw (
            s1.read,
            le-leb next g.block n,
            le-leb g.block 32765 (omega (arith, fine.number)),
            s2.read,
            le-leb t 2 (kind_le (length rs)),
            s3.read,
            p.long,
            p.sound,
          );
      block_is = refl;
      run = ap (λ (l : List ℕ). record { block = g.block; places = l }) p.places;
      behind = p.behind;
      inside = fits a3 t c s p.sound;
    }

-- a bitmap whose count belongs to another kind is no block's
pub other_count : (next at k : ℕ) (s rs rest : List ℕ) → Asc 0 rs → Below 65536 rs → next ≤ k → k < 32766 → (set_kind (length rs) ≡ 2 → ⊥) → at ≤ length s
    → drop at s ≡ number k ++ (number 2 ++ (number 0 ++ (low 8192 (bitmap rs) ++ rest))) → block_from next s at ≡ refused 13 0
unfolding block_from kind_from length_from data_from and_then need list_length_ok
other_count next at k s rs rest t u h l n a e =
    let bits : List ℕ = low 8192 (bitmap rs) ++ rest in
    let s1 : Step s at k (number 2 ++ (number 0 ++ bits)) = step s at k (number 2 ++ (number 0 ++ bits)) (omega arith) a e in
    let a1 : ℕ = at + length (number k) in
    let s2 : Step s a1 2 (number 0 ++ bits) = step s a1 2 (number 0 ++ bits) (omega arith) s1.inside s1.behind in
    let a2 : ℕ = a1 + length (number 2) in
    let s3 : Step s a2 0 bits = step s a2 0 bits (omega arith) s2.inside s2.behind in
    rw (
      s1.read,
      le-leb next k h,
      le-leb k 32765 (omega arith),
      s2.read,
      s3.read,
      other_kind rs s (a2 + length (number 0)) rest t u s3.behind n,
    )

pub blocks_back : (gs : List Run) (next at : ℕ) (s : List ℕ) → AllFine gs → AscBlocks next gs → at ≤ length s → drop at s ≡ bytes_of set_block gs
    → blocks_from (length gs) next s at ≡ done gs
unfolding blocks_from bytes_of and_then need
blocks_back [] next at s f b a e =
    let z : at ≡ length s = omega (arith, length-drop at s, ap length e) in
    rw (eq-eqb at (length s) z)
blocks_back (g ∷ gs) next at s f b a e =
    let k : Taken next at s g (bytes_of set_block gs) = taken next at s g (bytes_of set_block gs) f.0 b.0 a e in
    let ih : blocks_from (length gs) (suc g.block) s (set_end k.head) ≡ done gs =
    blocks_back gs (suc g.block) (set_end k.head) s f.1 b.1 k.inside k.behind in
    rw (k.read, k.block_is, ih, k.run)

pub list_back : (ids : List ℕ) → Asc 0 ids → Below 2147352576 ids → set_ids (set_bytes ids) ≡ done ids
unfolding set_ids set_bytes and_then need
list_back ids t u =
    let gs : List Run = runs ids in
    let fine : AllFine gs = fine_runs ids t u in
    let asc : AscBlocks 0 gs = asc_blocks 0 ids t in
    let few : length gs ≤ 32766 = blocks_few gs fine asc in
    let s : List ℕ = number (length gs) ++ bytes_of set_block gs in
    let s1 : Step s 0 (length gs) (bytes_of set_block gs) = step s 0 (length gs) (bytes_of set_block gs) (omega arith) zero-le refl in
    rw (
      s1.read,
      le-leb (length gs) 32766 few,
      blocks_back gs 0 (0 + length (number (length gs))) s fine asc s1.inside s1.behind,
      ids_runs ids,
    )

-- ---- what is read is the bytes of a list

record Built (m next at : ℕ) (s : List ℕ) (gs : List Run) : Type 0 where
  fine : AllFine gs
  asc : AscBlocks next gs
  count : length gs ≡ m
  bytes : drop at s ≡ bytes_of set_block gs

made_of : (ids : List ℕ) (gs : List Run) → runs ids ≡ gs → set_bytes ids ≡ number (length gs) ++ bytes_of set_block gs
unfolding set_bytes
made_of ids gs e = rw e

module _ (s : List ℕ) (u : Below 256 s) where
  -- a block that is taken is the bytes of its run
  pub record Block (next at : ℕ) (h : SetHead) : Type 0 where
    pub low : next ≤ h.block
    pub high : h.block < 32766
    pub kind_is_is : h.kind ≤ 2
    pub block_data_is : Held h.kind h.long s h.start (set_places h.kind h.long (drop h.start s))
    pub long_is : list_length_ok h.kind h.long ≡ true
    pub data_ok : set_data_ok h.kind h.long s h.start ≡ true
    pub bytes : drop at s ≡ number h.block ++ (number h.kind ++ (number h.long ++ drop h.start s))

  pub block_there : (next at : ℕ) (h : SetHead) → block_from next s at ≡ done h → Block next at h
  unfolding block_from kind_from length_from data_from
  block_there next at h e =
      let w1 = passed _ _ h e in
      let n1 = needed _ _ _ _ h w1.2 in
      let b1 = both_true _ _ n1.0 in
      let w2 = passed _ _ h n1.1 in
      let n2 = needed _ _ _ _ h w2.2 in
      let w3 = passed _ _ h n2.1 in
      let n3 = needed _ _ _ _ h w3.2 in
      let n4 = needed _ _ _ _ h n3.1 in
      let k : ℕ × ℕ = w1.0 in
      let t : ℕ × ℕ = w2.0 in
      let c : ℕ × ℕ = w3.0 in
      subst (Block next at) (ap (result h) n4.1)
      (record {
        low = leb-true next k.0 b1.0;
        high = omega (arith, leb-true k.0 32765 b1.1);
        kind_is_is = leb-true t.0 2 n2.0;
        block_data_is = held s u c.1 t.0 c.0 (leb-true t.0 2 n2.0) n3.0 n4.0;
        long_is = n3.0;
        data_ok = n4.0;
        bytes =
            (number_is s at k u w1.1).there
            ∙ ap (λ (x : List ℕ). number k.0 ++ x)
            ((number_is s k.1 t u w2.1).there ∙ ap (λ (x : List ℕ). number t.0 ++ x) (number_is s t.1 c u w3.1).there);
      })

  one_more : (m next at : ℕ) (h : SetHead) (gs : List Run) → Block next at h → Built m (suc h.block) (set_end h) s gs
      → Built (suc m) next at s (set_run s h ∷ gs)
  unfolding bytes_of set_run
  one_more m next at h gs d b =
      let k = d.block_data_is in
      record {
        fine = (record { number = d.high; some_place = k.some_place; ascending = k.ascending; inside = k.inside }, b.fine);
        asc = (d.low, b.asc);
        count = ap suc b.count;
        bytes =
            d.bytes
            ∙ ap (λ (x : List ℕ). number h.block ++ (number h.kind ++ (number h.long ++ x)))
            (d.block_data_is.bytes ∙ ap (λ (x : List ℕ). set_data h.kind (set_run s h).places ++ x) b.bytes)
            ∙ sym (block_shape h.kind h.long (set_run s h) (bytes_of set_block gs) d.block_data_is.kind d.block_data_is.long);
      }

  built : (m next at : ℕ) (gs : List Run) → blocks_from m next s at ≡ done gs → Built m next at s gs
  unfolding blocks_from bytes_of
  built zero next at gs h =
      let n = needed _ _ _ _ gs h in
      let z : at ≡ length s = eqb-true at (length s) n.0 in
      subst (Built zero next at s) (ap (result gs) n.1)
      (record { fine = tt; asc = tt; count = refl; bytes = ap (λ (x : ℕ). drop x s) z ∙ drop-length s })
  built (suc m) next at gs e =
      let w1 = passed _ _ gs e in
      let w2 = passed _ _ gs w1.2 in
      let h : SetHead = w1.0 in
      subst (Built (suc m) next at s) (ap (result gs) w2.2)
      (one_more m next at h w2.0 (block_there next at h w1.1) (built m (suc h.block) (set_end h) w2.0 w2.1))

  pub list_sound : (ids : List ℕ) → set_ids s ≡ done ids → Asc 0 ids × Below 2147352576 ids × (set_bytes ids ≡ s)
  unfolding set_ids
  list_sound ids h =
      let w1 = passed _ _ ids h in
      let n1 = needed _ _ _ _ ids w1.2 in
      let w2 = passed _ _ ids n1.1 in
      let m : ℕ × ℕ = w1.0 in
      let gs : List Run = w2.0 in
      let b : Built m.0 0 m.1 s gs = built m.0 0 m.1 gs w2.1 in
      subst (λ (ids : List ℕ). Asc 0 ids × Below 2147352576 ids × (set_bytes ids ≡ s)) (ap (result ids) w2.2) (
        asc_ids 0 gs b.fine b.asc,
        below_ids gs b.fine,
        made_of (ids_of gs) gs (runs_ids 0 gs b.fine b.asc)
            ∙ ap₂ {C = List ℕ} (λ (n : ℕ) (l : List ℕ). number n ++ l) b.count (sym b.bytes) ∙ sym (number_is s 0 m u w1.1).there,
      )
