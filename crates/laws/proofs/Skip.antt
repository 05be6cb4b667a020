-- The run that an entry leads to, and the entries as they are read. Assumes nothing.
use Rattle.format.specs.Kit.{◌≡◌, refl, sym, ap, ◌∙◌, cond, List, [], ◌∷◌, ◌++◌, append_assoc, ℕ, suc, ◌+◌, ◌*◌, ◌<◌, ◌≤◌, zero-le}
use Rattle.format.specs.Kit.{mod-eq_of_lt, arith, eqb, ltb, lit<, length, take, drop, get_or, drop-drop, drop_at}
use Rattle.format.specs.Kit.{ne_eqb, lt-ltb, le-ltb}
use Rattle.format.specs.Bytes.{low, from_low, bytes_of, low_at}
use Rattle.format.specs.Ids.{Run, block_bytes, block_of, Entry, entry_bytes}
use Rattle.format.specs.IdsRead.{ids_of}
use Rattle.format.specs.Runs.{Fine, AllFine, AscBlocks, end_of, total_bytes}
use Rattle.laws.proofs.Cases.{below_or}
use Rattle.laws.proofs.Digits.{from_digits_lem}
use Rattle.laws.proofs.Places.{take_low, drop_low}
use Rattle.laws.proofs.Pieces.{bytes_of_at}
use Rattle.laws.proofs.Section.{length_block_of, entry_eight}
use Rattle.laws.proofs.Runs.{length_ids}
use Rattle.laws.proofs.Jumps.{under, ids_under, bytes_under, none_under, end_ge}
use Rattle.laws.proofs.Find.{places_of, no_places}

-- the runs from block b on
unfoldable pub from_b : ℕ → List Run → List Run
from_b b [] = []
from_b b (g ∷ gs) = cond (ltb g.block b) (from_b b gs) (g ∷ gs)

pub skip : (p b next : ℕ) (gs : List Run) (x : List ℕ) → p ≤ 16 → AscBlocks next gs
    → drop (bytes_under p b gs) (bytes_of (block_of p) gs ++ x) ≡ bytes_of (block_of p) (from_b b gs) ++ x
unfolding under bytes_of from_b
skip p b next [] x hp t = refl
skip p b next (g ∷ gs) x hp t =
    below_or g.block b
    (λ l.
    rw (lt-ltb g.block b l, append_assoc (block_of p g) (bytes_of (block_of p) gs) x)
    (sym (drop-drop (bytes_under p b gs) (block_bytes p (length g.places)) (block_of p g ++ (bytes_of (block_of p) gs ++ x)))
    ∙ ap (drop (bytes_under p b gs)) (drop_at (block_of p g) (bytes_of (block_of p) gs ++ x) (block_bytes p (length g.places)) (length_block_of p g hp))
    ∙ skip p b (suc g.block) gs x hp t.1))
    (λ l. rw (le-ltb g.block b l, none_under (block_bytes p) b (suc g.block) gs (omega arith) t.1))

-- what is known of the first run from block b on
pub record First (p b : ℕ) (gs : List Run) (g : Run) : Type 0 where
  pub from : b ≤ g.block
  pub fine : Fine g
  pub its_places : places_of b gs ≡ cond (eqb g.block b) g.places []
  pub its_end : bytes_under p b gs + block_bytes p (length g.places) ≤ total_bytes p gs
  pub its_ids : ids_under b gs + length g.places ≤ length (ids_of gs)

abbrev pub View : ℕ → ℕ → List Run → List Run → Type 0
View p b gs [] = (places_of b gs ≡ []) × (bytes_under p b gs ≡ total_bytes p gs)
View p b gs (g ∷ back) = First p b gs g

view_more : (p b : ℕ) (g : Run) (gs back : List Run) → g.block < b → View p b gs back → View p b (g ∷ gs) back
unfolding places_of under total_bytes
view_more p b g gs [] l v =
    (rw (ne_eqb g.block b (λ e. omega arith)) v.0, rw (lt-ltb g.block b l) (ap (λ (n : ℕ). block_bytes p (length g.places) + n) v.1))
view_more p b g gs (f ∷ back) l v =
    record {
      from = v.from;
      fine = v.fine;
      its_places = rw (ne_eqb g.block b (λ e. omega arith)) v.its_places;
      its_end = rw (lt-ltb g.block b l) (omega (arith, v.its_end));
      its_ids = rw (lt-ltb g.block b l) (omega (arith, v.its_ids, length_ids g gs));
    }

view_nil : (p b : ℕ) → View p b [] []
unfolding places_of under total_bytes
view_nil p b = (refl, refl)

view_here : (p b : ℕ) (g : Run) (gs : List Run) → b ≤ g.block → AscBlocks (suc g.block) gs → Fine g → First p b (g ∷ gs) g
unfolding places_of under total_bytes
view_here p b g gs l t u =
    record {
      from = l;
      fine = u;
      its_places = ap (λ (x : List ℕ). cond (eqb g.block b) g.places x) (no_places b (suc g.block) gs (omega arith) t);
      its_end = rw (le-ltb g.block b l) (omega (arith, none_under (block_bytes p) b (suc g.block) gs (omega arith) t));
      its_ids = rw (le-ltb g.block b l) (omega (arith, none_under (λ n. n) b (suc g.block) gs (omega arith) t, length_ids g gs));
    }

pub view : (p b next : ℕ) (gs : List Run) → AscBlocks next gs → AllFine gs → View p b gs (from_b b gs)
unfolding from_b
view p b next [] t u = view_nil p b
view p b next (g ∷ gs) t u =
    below_or g.block b
    (λ l. rw (lt-ltb g.block b l) (view_more p b g gs (from_b b gs) l (view p b (suc g.block) gs t.1 u.1)))
    (λ l. rw (le-ltb g.block b l) (view_here p b g gs l t.1 u.0))

-- ---- what is read of an entry

module _ (s : List ℕ) (a : ℕ) (es : List Entry) (i : ℕ) (here : drop a s ≡ bytes_of entry_bytes es) (l : i < length es) where
  its_bytes : drop (a + 8 * i) s ≡ low 4 (get_or es i (0, 0)).0 ++ (low 4 (get_or es i (0, 0)).1 ++ bytes_of entry_bytes (drop (suc i) es))
  unfolding entry_bytes
  its_bytes =
      sym (drop-drop (8 * i) a s) ∙ ap (drop (8 * i)) here ∙ bytes_of_at 8 entry_bytes (0, 0) entry_eight es i l
      ∙ append_assoc (low 4 (get_or es i (0, 0)).0) (low 4 (get_or es i (0, 0)).1) (bytes_of entry_bytes (drop (suc i) es))

  pub ordinal_read : (get_or es i (0, 0)).0 < 4294967296 → low_at 4 s (a + 8 * i) ≡ (get_or es i (0, 0)).0
  unfolding low_at
  ordinal_read h =
      rw (its_bytes, take_low 4 (get_or es i (0, 0)).0 _, from_digits_lem 256 4 (get_or es i (0, 0)).0 (lit< tt), mod-eq_of_lt h)

  pub start_read : (get_or es i (0, 0)).1 < 4294967296 → low_at 4 s (a + 8 * i + 4) ≡ (get_or es i (0, 0)).1
  unfolding low_at
  start_read h =
      ap (λ (x : List ℕ). from_low (take 4 x)) (sym (drop-drop 4 (a + 8 * i) s) ∙ ap (drop 4) its_bytes ∙ drop_low 4 (get_or es i (0, 0)).0 _)
      ∙ ap from_low (take_low 4 (get_or es i (0, 0)).1 _)
      ∙ from_digits_lem 256 4 (get_or es i (0, 0)).1 (lit< tt) ∙ mod-eq_of_lt h

-- ---- beyond the last block

pub under_same : (size : ℕ → ℕ) (b c next : ℕ) (gs : List Run) → AscBlocks next gs → end_of next gs ≤ b → end_of next gs ≤ c
    → under size b gs ≡ under size c gs
unfolding under end_of
under_same size b c next [] t hb hc = refl
under_same size b c next (g ∷ gs) t hb hc =
    let l : suc g.block ≤ end_of (suc g.block) gs = end_ge (suc g.block) gs t.1 in
    rw (lt-ltb g.block b (omega arith), lt-ltb g.block c (omega arith), under_same size b c (suc g.block) gs t.1 hb hc)

pub beyond : (b next : ℕ) (gs : List Run) → AscBlocks next gs → end_of next gs ≤ b → places_of b gs ≡ []
unfolding places_of end_of
beyond b next [] t h = refl
beyond b next (g ∷ gs) t h =
    let l : suc g.block ≤ end_of (suc g.block) gs = end_ge (suc g.block) gs t.1 in
    rw (ne_eqb g.block b (λ e. omega arith)) (beyond b (suc g.block) gs t.1 h)

pub under_le : (b : ℕ) (gs : List Run) → ids_under b gs ≤ length (ids_of gs)
unfolding under
under_le b [] = zero-le
under_le b (g ∷ gs) =
    below_or g.block b
    (λ l. rw (lt-ltb g.block b l) (omega (arith, under_le b gs, length_ids g gs)))
    (λ l. rw (le-ltb g.block b l) (omega (arith, under_le b gs, length_ids g gs)))

pub bytes_under_le : (p b : ℕ) (gs : List Run) → bytes_under p b gs ≤ total_bytes p gs
unfolding under total_bytes
bytes_under_le p b [] = zero-le
bytes_under_le p b (g ∷ gs) =
    below_or g.block b
    (λ l. rw (lt-ltb g.block b l) (omega (arith, bytes_under_le p b gs)))
    (λ l. rw (le-ltb g.block b l) (omega (arith, bytes_under_le p b gs)))
