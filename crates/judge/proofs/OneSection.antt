-- The judge of document 02, [9], accepts "exactly if some id list within limits gives these bytes", and that is one list only: two lists with one id section
-- at one rank power are equal, once over the byte order. Assumes nothing.
use Rattle.format.specs.Kit.{◌≡◌, refl, sym, ap, ap₂, ◌∙◌, subst, List, [], ◌∷◌, ◌++◌, append_assoc, ℕ, ◌+◌, ◌^◌, ◌<◌, ◌≤◌, zero-le, mod-eq_of_lt, arith, lit<}
use Rattle.format.specs.Kit.{true, length, drop, drop_at}
use Rattle.format.specs.Limits.{power_ok}
use Rattle.format.specs.Bytes.{digits, from_digits, bytes_of, count_from}
use Rattle.format.specs.Ids.{Run, runs, by_kind, kind_of, rank_bytes, block_bytes, bitmap, rank_table, jumps}
use Rattle.format.specs.IdsRead.{set_bits, ids_of}
use Rattle.format.specs.Pairs.{Below, Asc}
use Rattle.format.specs.Orders.{Order, bytes_in, numbers_in, longs_in, block_data_in, block_in, end_in, entry_in, id_section_in}
use Rattle.format.specs.Lists.{SectionIn, OneList}
use Rattle.laws.proofs.Cases.{below_or}
use Rattle.laws.proofs.Rules.{power_fact}
use Rattle.laws.proofs.Digits.{from_digits_lem, length_digits, below_digits, pow_pow}
use Rattle.laws.proofs.Places.{asc_length, bitmap_is, bits_lt, all_places}
use Rattle.laws.proofs.SetBits.{bits_back}
use Rattle.laws.proofs.Section.{length_rank_table}
use Rattle.laws.proofs.Blocks.{kind_sparse, kind_dense, kind_all}
use Rattle.laws.proofs.Runs.{ids_runs, fine_runs}
use Rattle.judge.proofs.Numbers.{numbers_back}
use Rattle.judge.proofs.Standing.{BlocksAt, ahead, end_read}

-- ---- one block: its places can be read back from its data

-- the places of a block of c ids, from the bytes after its head
unfoldable places_read : Order → ℕ → ℕ → List ℕ → List ℕ
places_read o p c d =
    by_kind (kind_of c) (numbers_in o 2 c d) (set_bits 65536 0 (from_digits (2 ^ 64) (numbers_in o 8 1024 (drop (rank_bytes p) d)))) (count_from 65536 0)

module _ (o : Order) (p : ℕ) (rs rest : List ℕ) (hp : p ≤ 16) (t : Asc 0 rs) (u : Below 65536 rs) where
  abbrev map_is : ℕ
  map_is = bitmap rs

  map_small : map_is < (2 ^ 64) ^ 1024
  map_small = subst (λ (n : ℕ). map_is < n) (sym (pow_pow 64 1024)) (subst (λ (n : ℕ). n < 2 ^ 65536) (sym (bitmap_is rs)) (bits_lt 65536 0 rs t u))

  longs_read : numbers_in o 8 1024 (longs_in o map_is ++ rest) ≡ digits (2 ^ 64) 1024 map_is
  unfolding longs_in
  longs_read =
      ap (λ (n : ℕ). numbers_in o 8 n (bytes_of (bytes_in o 8) (digits (2 ^ 64) 1024 map_is) ++ rest)) (sym (length_digits (2 ^ 64) 1024 map_is))
      ∙ numbers_back o 8 (digits (2 ^ 64) 1024 map_is) rest (below_digits (2 ^ 64) 1024 map_is (lit< tt))

  map_read : from_digits (2 ^ 64) (numbers_in o 8 1024 (drop (rank_bytes p) (rank_table p rs ++ longs_in o map_is ++ rest))) ≡ map_is
  map_read =
      ap (λ (l : List ℕ). from_digits (2 ^ 64) (numbers_in o 8 1024 l))
      (ap (drop (rank_bytes p)) (append_assoc (rank_table p rs) (longs_in o map_is) rest)
      ∙ drop_at (rank_table p rs) (longs_in o map_is ++ rest) (rank_bytes p) (length_rank_table p rs hp))
      ∙ ap (from_digits (2 ^ 64)) longs_read ∙ from_digits_lem (2 ^ 64) 1024 map_is (lit< tt) ∙ mod-eq_of_lt map_small

  places_back : places_read o p (length rs) (block_data_in o p rs ++ rest) ≡ rs
  unfolding places_read block_data_in by_kind
  places_back =
      below_or (length rs) 4096
      (λ h. rw (kind_sparse (length rs) h) (numbers_back o 2 rs rest u))
      (λ h.
      below_or (length rs) 65536
      (λ k. rw (kind_dense (length rs) h k, map_read, bitmap_is rs, bits_back 65536 0 rs t u))
      (λ k. rw (kind_all (length rs) k) (sym (all_places 65536 0 rs t u (omega (arith, asc_length 0 65536 rs zero-le t u))))))

-- ---- the blocks

same_run : (g h : Run) → g.block ≡ h.block → g.places ≡ h.places → g ≡ h
same_run g h b q = λ i. record { block = b i; places = q i }

-- blocks that stand at one place, up to the end block, are the same blocks
one_run : (o : Order) (p : ℕ) → p ≤ 16 → (s : List ℕ) (at : ℕ) (gs hs : List Run) (x y : List ℕ)
    → BlocksAt o p s at gs (end_in o ++ x) → BlocksAt o p s at hs (end_in o ++ y) → gs ≡ hs
unfolding bytes_of
one_run o p hp s at [] [] x y a b = refl
one_run o p hp s at [] (h ∷ hs) x y a b =
    let k = ahead o p hp s at h hs (end_in o ++ y) b in
    absurd (omega (arith, end_read o s at x a.bytes, k.number, k.fine.number))
one_run o p hp s at (g ∷ gs) [] x y a b =
    let k = ahead o p hp s at g gs (end_in o ++ x) a in
    absurd (omega (arith, end_read o s at y b.bytes, k.number, k.fine.number))
one_run o p hp s at (g ∷ gs) (h ∷ hs) x y a b =
    let k = ahead o p hp s at g gs (end_in o ++ x) a in
    let l = ahead o p hp s at h hs (end_in o ++ y) b in
    let count : length g.places ≡ length h.places = sym k.count ∙ l.count in
    let places : g.places ≡ h.places =
    sym (places_back o p g.places (bytes_of (block_in o p) gs ++ (end_in o ++ x)) hp k.fine.ascending k.fine.inside)
    ∙ ap₂ (places_read o p) count (sym k.its_data ∙ l.its_data)
    ∙ places_back o p h.places (bytes_of (block_in o p) hs ++ (end_in o ++ y)) hp l.fine.ascending l.fine.inside in
    let after : BlocksAt o p s (at + block_bytes p (length g.places)) hs (end_in o ++ y) =
    subst (λ (n : ℕ). BlocksAt o p s (at + block_bytes p n) hs (end_in o ++ y)) (sym count) l.after in
    ap₂ ◌∷◌ (same_run g h (sym k.number ∙ l.number) places) (one_run o p hp s (at + block_bytes p (length g.places)) gs hs x y k.after after)

-- ---- the section

module _ (o : Order) (p : ℕ) (s : List ℕ) where
  blocks_at : (i m : ℕ) (x : SectionIn o p i s m) → BlocksAt o p s 0 (runs x.ids) (end_in o ++ bytes_of (entry_in o) (jumps p x.ids))
  unfolding id_section_in
  blocks_at i m x = record { fine = fine_runs x.ids x.ascending x.range; bytes = sym x.bytes }

  -- whatever entry counts and numbers of ids are claimed for them
  pub one_section : power_ok p ≡ true → (i j m n : ℕ) (x : SectionIn o p i s m) (y : SectionIn o p j s n) → OneList x y
  one_section ok i j m n x y =
      let same : runs x.ids ≡ runs y.ids =
      one_run o p (omega (arith, (power_fact p ok).most)) s 0 (runs x.ids) (runs y.ids) _ _ (blocks_at i m x) (blocks_at j n y) in
      let ids : x.ids ≡ y.ids = sym (ids_runs x.ids) ∙ ap ids_of same ∙ ids_runs y.ids in
      record {
        ids = ids;
        entries = sym x.entries ∙ ap (λ (l : List ℕ). length (jumps p l)) ids ∙ y.entries;
        count = sym x.count ∙ ap length ids ∙ y.count;
      }

-- so are two lists with the same section
pub same_section : (o : Order) (p : ℕ) (is js : List ℕ) → power_ok p ≡ true → Asc 0 is → Below 2147352576 is → Asc 0 js → Below 2147352576 js
    → id_section_in o p is ≡ id_section_in o p js → is ≡ js
same_section o p is js ok ai bi aj bj e =
    (one_section o p (id_section_in o p js) ok (length (jumps p is)) (length (jumps p js)) (length is) (length js)
    (record { ids = is; ascending = ai; range = bi; bytes = e; entries = refl; count = refl })
    (record { ids = js; ascending = aj; range = bj; bytes = refl; entries = refl; count = refl })).ids
