-- That the definitions mean document 01's words where a reader could doubt it: packed bits, the bitmap, rank entries, jump entries. (What
-- is stored of the values stands in MeaningValues.) Assumes nothing.
use Rattle.format.specs.Kit.{◌≡◌, refl, sym, ap, ap₂, ◌∙◌, subst, cond, not, List, [], ◌∷◌, append-nil, ℕ, suc, ◌+◌, ◌-◌, ◌*◌, ◌/◌, ◌%◌, ◌^◌}
use Rattle.format.specs.Kit.{◌<◌, ◌≤◌, mod-lt, zero-lt-suc, zero-add, add-zero, mul-le-mul_right, suc-mul, arith, length, get_or, drop, pow-add}
use Rattle.format.specs.Kit.{pow_pos, digits_div, digits_mod, eq-eqb, ne_eqb, lt-ltb, le-ltb, eqb-true, eqb-false}
use Rattle.format.specs.Limits.{block_places, max_power, max_id}
use Rattle.format.specs.Bytes.{low, low_at, high_at, bytes_of}
use Rattle.format.specs.Bits.{bit_of, bit_at, packed, fetched}
use Rattle.format.specs.Ids.{Run, Entry, runs, push, block_of, blocks, bitmap, count_below, rank_table, jumps_from}
use Rattle.format.specs.IdsRead.{ids_of}
use Rattle.format.specs.Pairs.{Asc, Below}
use Rattle.format.specs.Walk.{listed}
use Rattle.format.specs.Runs.{AscBlocks, end_of}
use Rattle.laws.proofs.Cases.{below_or, equal_or, true_or}
use Rattle.laws.proofs.Bits.{bits_packed, spare_packed, fetched_packed}
use Rattle.laws.proofs.Ones.{occurs, bit_is, count_zero}
use Rattle.laws.proofs.Dense.{bit_at_lem, rank_at}
use Rattle.laws.proofs.Find.{occurs_listed, places_of, count_runs}
use Rattle.laws.proofs.Place.{count_higher}
use Rattle.laws.proofs.Section.{length_blocks}
use Rattle.laws.proofs.Runs.{ids_runs, fine_runs}
use Rattle.laws.proofs.Jumps.{asc_blocks, ids_under, bytes_under, length_jumps, entry_is}
use Rattle.laws.proofs.Skip.{from_b, skip, bytes_under_le}

-- ---- packed numbers

-- number i fills bits iw to iw + w - 1, the high bit first
pub bit_place : (w : ℕ) (xs : List ℕ) (i k : ℕ) → k < w → bit_of w xs (i * w + k) ≡ get_or xs i 0 / 2 ^ (w - 1 - k) % 2
unfolding bit_of
bit_place w xs i k h = rw (digits_div i h, digits_mod i h)

-- the bytes hold these bits
pub packed_bits : (w : ℕ) (xs : List ℕ) (j : ℕ) → j < 8 * length (packed w xs) → bit_at (packed w xs) j ≡ bit_of w xs j
packed_bits = bits_packed

-- spare bits are 0
pub packed_spare : (w : ℕ) (xs : List ℕ) (j : ℕ) → length xs * w ≤ j → bit_at (packed w xs) j ≡ 0
packed_spare = spare_packed

-- and number i is fetched
pub packed_number : (w : ℕ) (xs : List ℕ) (i : ℕ) → i < length xs → get_or xs i 0 < 2 ^ w → fetched (packed w xs) w i ≡ get_or xs i 0
packed_number = fetched_packed

-- ---- dense blocks

-- place x is bit x mod 64 of long x div 64
pub bitmap_bit : (rs : List ℕ) (x : ℕ) → Asc 0 rs → x < block_places
    → low_at 8 (low 8192 (bitmap rs)) (8 * (x / 64)) / 2 ^ (x % 64) % 2 ≡ cond (listed x rs) 1 0
bitmap_bit rs x t h =
    let few : occurs x rs < 2 = omega (arith, bit_is x rs t, mod-lt (bitmap rs / 2 ^ x) (zero-lt-suc 1)) in
    ap (λ (n : ℕ). low_at 8 (low 8192 (bitmap rs)) n / 2 ^ (x % 64) % 2) (sym (zero-add (8 * (x / 64))))
    ∙ bit_at_lem (low 8192 (bitmap rs)) 0 (bitmap rs) [] (sym (append-nil (low 8192 (bitmap rs)))) x h
    ∙ bit_is x rs t
    ∙ true_or (listed x rs)
    (λ e. rw e (omega (arith, eqb-false (occurs x rs) 0 (occurs_listed x rs ∙ ap not e))))
    (λ e. rw e (eqb-true (occurs x rs) 0 (occurs_listed x rs ∙ ap not e)))

-- rank entry t, high byte first, counts the places below t * 2 ^ p
pub rank_entry : (p : ℕ) (rs : List ℕ) (t : ℕ) → Asc 0 rs → 0 < p → p ≤ max_power → t < 2 ^ (16 - p)
    → high_at 2 (rank_table p rs) (2 * t) ≡ count_below (t * 2 ^ p) rs
rank_entry p rs t a hp hq h =
    let sixteen : 16 - p + p ≡ 16 = omega arith in
    let whole : 2 ^ (16 - p) * 2 ^ p ≡ 65536 = sym (pow-add 2 (16 - p) p) ∙ ap (λ (n : ℕ). 2 ^ n) sixteen in
    let within : t * 2 ^ p < 65536 = omega (arith, mul-le-mul_right (2 ^ p) h, suc-mul t (2 ^ p), pow_pos p) in
    ap (high_at 2 (rank_table p rs)) (sym (zero-add (2 * t)))
    ∙ rank_at p rs (rank_table p rs) 0 [] a (sym (append-nil (rank_table p rs))) t (λ e. omega arith) h within

-- ---- jump entries

-- the blocks hold the ids, in order
pub blocks_hold : (ids : List ℕ) → ids_of (runs ids) ≡ ids
blocks_hold = ids_runs

push_from : (b k r : ℕ) (gs : List Run) → k < b → from_b b (push k r gs) ≡ from_b b gs
unfolding push from_b
push_from b k r [] l = rw (lt-ltb k b l)
push_from b k r (g ∷ gs) l =
    equal_or k g.block
    (λ e. rw (eq-eqb k g.block e, lt-ltb k b l, lt-ltb g.block b (omega arith)))
    (λ e. rw (ne_eqb k g.block e, lt-ltb k b l))

all_from : (b : ℕ) (gs : List Run) → AscBlocks b gs → from_b b gs ≡ gs
unfolding from_b
all_from b [] t = refl
all_from b (g ∷ gs) t = rw (le-ltb g.block b t.0)

-- the blocks from b on are those of the ids from 65536 b on
from_is : (b a : ℕ) (ids : List ℕ) → Asc a ids → from_b b (runs ids) ≡ runs (drop (count_below (b * block_places) ids) ids)
unfolding runs count_below from_b
from_is b a [] t = refl
from_is b a (i ∷ is) t =
    below_or i (b * block_places)
    (λ l.
    let one : 1 + count_below (b * block_places) is ≡ suc (count_below (b * block_places) is) = omega arith in
    cc (lt-ltb i (b * block_places) l, push_from b (i / block_places) (i % block_places) (runs is) (omega arith), from_is b (suc i) is t.1))
    (λ l.
    all_from b (runs (i ∷ is)) (asc_blocks b (i ∷ is) (l, t.1))
    ∙ ap (λ (n : ℕ). runs (drop n (i ∷ is))) (sym (count_higher (b * block_places) (b * block_places) (i ∷ is) (omega arith) (l, t.1))))

-- an entry of block b: the ids before the block, and the block's start, where the blocks of the other ids stand
pub record EntryOf (p : ℕ) (ids : List ℕ) (b : ℕ) (e : Entry) : Type 0 where
  pub ids_before : e.0 ≡ count_below (b * block_places) ids
  pub start_within : e.1 ≤ length (blocks p ids)
  pub blocks_there : drop e.1 (blocks p ids) ≡ blocks p (drop e.0 ids)

pub jump_entry : (p : ℕ) (ids : List ℕ) (b : ℕ) → p ≤ max_power → Asc 0 ids → Below (suc max_id) ids → b < length (jumps_from p 0 0 0 (runs ids))
    → EntryOf p ids b (get_or (jumps_from p 0 0 0 (runs ids)) b (0, 0))
unfolding blocks
jump_entry p ids b hp t r h =
    subst (EntryOf p ids b)
    (sym (entry_is p 0 0 0 b b (0, 0) (runs ids) asc (zero-add b) (omega (arith, length_jumps p 0 0 0 (runs ids) asc))))
    record {
      ids_before = rw zero-add before;
      start_within = omega (arith, bytes_under_le p b (runs ids), length_blocks p (runs ids) (omega arith));
      blocks_there =
          rw (zero-add, zero-add)
          (ap (drop (bytes_under p b (runs ids))) (sym (append-nil (bytes_of (block_of p) (runs ids))))
          ∙ skip p b 0 (runs ids) [] (omega arith) asc
          ∙ append-nil (bytes_of (block_of p) (from_b b (runs ids)))
          ∙ ap (bytes_of (block_of p)) (from_is b 0 ids t ∙ ap (λ (n : ℕ). runs (drop n ids)) (sym before)));
    }
  where
    asc : AscBlocks 0 (runs ids)
    asc = asc_blocks 0 ids t

    before : ids_under b (runs ids) ≡ count_below (b * block_places) ids
    before =
        omega (
          arith,
          count_runs b 0 0 (runs ids) (omega arith) asc (fine_runs ids t r),
          count_zero (places_of b (runs ids)),
          ap₂ count_below (add-zero (b * block_places)) (ids_runs ids),
        )

-- with last block B there are entries for 0 to B + 1
push_end : (next m k r : ℕ) (g : Run) (gs : List Run) → end_of next (push k r (g ∷ gs)) ≡ end_of m (g ∷ gs)
unfolding push end_of
push_end next m k r g gs =
    equal_or k g.block
    (λ e. rw (eq-eqb k g.block e) (ap (λ (n : ℕ). end_of (suc n) gs) e))
    (λ e. rw (ne_eqb k g.block e))

push_some : (k r : ℕ) (gs : List Run) → (g : Run) × (back : List Run) × (push k r gs ≡ g ∷ back)
unfolding push
push_some k r [] = (record { block = k; places = r ∷ [] }, [], refl)
push_some k r (g ∷ gs) =
    equal_or k g.block
    (λ e. (record { block = k; places = r ∷ g.places }, gs, rw (eq-eqb k g.block e)))
    (λ e. (record { block = k; places = r ∷ [] }, g ∷ gs, rw (ne_eqb k g.block e)))

end_is : (next i : ℕ) (is : List ℕ) → end_of next (runs (i ∷ is)) ≡ suc (get_or (i ∷ is) (length is) 0 / block_places)
unfolding runs push end_of
end_is next i [] = refl
end_is next i (j ∷ is) =
    let s = push_some (j / block_places) (j % block_places) (runs is) in
    cc (push_end next next (i / block_places) (i % block_places) s.0 s.1, end_is next j is)

pub entry_count : (p i : ℕ) (is : List ℕ) → Asc 0 (i ∷ is)
    → length (jumps_from p 0 0 0 (runs (i ∷ is))) ≡ get_or (i ∷ is) (length is) 0 / block_places + 2
entry_count p i is t = omega (arith, length_jumps p 0 0 0 (runs (i ∷ is)) (asc_blocks 0 (i ∷ is) t), end_is 0 i is)
