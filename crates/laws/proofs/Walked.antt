-- The walk over a column's blocks answers as the pair list does. Assumes nothing.
use Rattle.format.specs.Kit.{◌≡◌, refl, sym, ap, ◌∙◌, cond, List, [], ◌∷◌, ◌++◌, append_assoc, none, some, ℕ, zero, suc, ◌+◌, ◌/◌, ◌%◌, ◌<◌}
use Rattle.format.specs.Kit.{◌≤◌, zero-add, add-zero, add_assoc, arith, eqb, ℤ, length, drop, drop_at, drop-drop, eq-eqb, ne_eqb, lt-ltb}
use Rattle.format.specs.Kit.{le-ltb}
use Rattle.format.specs.Bytes.{bytes_of}
use Rattle.format.specs.Ids.{Run, runs, id_section, jumps, blocks, block_of, block_bytes, end_block, entry_bytes, count_below}
use Rattle.format.specs.Editions.{Edition, codec}
use Rattle.format.specs.Pairs.{Asc}
use Rattle.format.specs.Valid.{Valid}
use Rattle.format.specs.Column.{column, head_of}
use Rattle.format.specs.Opening.{Opened, id_part, value_of}
use Rattle.format.specs.Walk.{listed, index_of, seen_or, walk_from, walk, Seen, seen, unseen, wordless, list_answer}
use Rattle.laws.proofs.Cases.{below_or, equal_or, true_or}
use Rattle.laws.proofs.Section.{length_block_of}
use Rattle.laws.proofs.Blocks.{places_back}
use Rattle.laws.proofs.Jumps.{under, ids_under, none_under}
use Rattle.laws.proofs.Find.{places_of, no_places, count_lt}
use Rattle.laws.proofs.Place.{listed_higher, count_higher}
use Rattle.format.specs.Runs.{Fine, AllFine, AscBlocks}
use Rattle.laws.proofs.Lawful.{Lawful}
use Rattle.laws.proofs.RoundTrip.{power16, blocks_asc, blocks_fine, section_is, runs_le, the_head, the_column, ids_part}
use Rattle.laws.proofs.FromEntry.{value_is}
use Rattle.laws.proofs.Looked.{the_count, the_test}
use Rattle.laws.proofs.Standing.{number_read, count_read, data_read, end_read}

index_is : (r i a : ℕ) (rs : List ℕ) → Asc a rs → index_of r i rs ≡ cond (listed r rs) (some (i + count_below r rs)) none
unfolding index_of listed count_below
index_is r i a [] t = refl
index_is r i a (x ∷ xs) t =
    equal_or x r
    (λ e. rw (eq-eqb x r e, le-ltb x r (omega arith), count_higher r (suc x) xs (omega arith) t.1) (ap (λ (n : ℕ). some n) (sym (add-zero i))))
    (λ e.
    rw (ne_eqb x r e)
    (below_or x r
    (λ l. rw (lt-ltb x r l) (index_is r (suc i) (suc x) xs t.1 ∙ ap (λ (n : ℕ). cond (listed r xs) (some n) none) (omega arith)))
    (λ l.
    rw (le-ltb x r l, listed_higher r (suc x) xs (omega arith) t.1)
    (index_is r (suc i) (suc x) xs t.1 ∙ rw (listed_higher r (suc x) xs (omega arith) t.1) refl))))

module _ (bytes : List ℕ) (col : Opened) (id : ℕ) (s rest : List ℕ) (part : id_part bytes col ≡ s) (hp : col.head.power ≤ 16) where
  -- the answer for a block with places rs, before which o ids stand
  unfoldable pub seen_at : ℕ → List ℕ → Seen
  seen_at o rs = cond (listed (id % 65536) rs) (seen (o + count_below (id % 65536) rs) (value_of bytes col (o + count_below (id % 65536) rs))) unseen

  unseen_nil : (o : ℕ) → seen_at o [] ≡ unseen
  unfolding seen_at listed
  unseen_nil o = refl

  or_seen : (o : ℕ) (rs : List ℕ) → Asc 0 rs → seen_or bytes col o (index_of (id % 65536) 0 rs) unseen ≡ seen_at o rs
  unfolding seen_or seen_at
  or_seen o rs t = rw (index_is (id % 65536) 0 0 rs t, zero-add) (true_or (listed (id % 65536) rs) (λ e. rw e) (λ e. rw e))

  walk_step : (f at o : ℕ) (g : Run) (after : List ℕ) → Fine g → drop at s ≡ block_of col.head.power g ++ after
      → walk_from (suc f) bytes col id at o
      ≡ seen_or bytes col o (cond (eqb g.block (id / 65536)) (index_of (id % 65536) 0 g.places) none)
      (walk_from f bytes col id (at + block_bytes col.head.power (length g.places)) (o + length g.places))
  unfolding walk_from
  walk_step f at o g after fine here =
      rw (
        part,
        number_read s at col.head.power g after hp fine here,
        count_read s at col.head.power g after hp fine here,
        data_read s at col.head.power g after hp fine here,
        places_back col.head.power g.places after hp fine.ascending fine.inside,
        ne_eqb g.block 32767 (λ e. omega (arith, fine.number)),
      )

  walk_end : (f at o : ℕ) (after : List ℕ) → drop at s ≡ end_block ++ after → walk_from (suc f) bytes col id at o ≡ unseen
  unfolding walk_from
  walk_end f at o after here = rw (part, end_read s at after here)

  walk_runs : (f at o next : ℕ) (gs : List Run) → AscBlocks next gs → AllFine gs → length gs < f
      → drop at s ≡ bytes_of (block_of col.head.power) gs ++ (end_block ++ rest)
      → walk_from f bytes col id at o ≡ seen_at (o + ids_under (id / 65536) gs) (places_of (id / 65536) gs)
  unfolding bytes_of under places_of seen_or
  walk_runs zero at o next gs t u k here = absurd (omega arith)
  walk_runs (suc f) at o next [] t u k here = walk_end f at o rest here ∙ sym (unseen_nil (o + 0))
  walk_runs (suc f) at o next (g ∷ gs) t u k here =
      let p : ℕ = col.head.power in
      let here' : drop at s ≡ block_of p g ++ (bytes_of (block_of p) gs ++ (end_block ++ rest)) =
      here ∙ append_assoc (block_of p g) (bytes_of (block_of p) gs) (end_block ++ rest) in
      let then : drop (at + block_bytes p (length g.places)) s ≡ bytes_of (block_of p) gs ++ (end_block ++ rest) =
      sym (drop-drop (block_bytes p (length g.places)) at s) ∙ ap (drop (block_bytes p (length g.places))) here'
      ∙ drop_at (block_of p g) (bytes_of (block_of p) gs ++ (end_block ++ rest)) (block_bytes p (length g.places)) (length_block_of p g hp) in
      let ih : walk_from f bytes col id (at + block_bytes p (length g.places)) (o + length g.places)
      ≡ seen_at (o + length g.places + ids_under (id / 65536) gs) (places_of (id / 65536) gs) =
      walk_runs f (at + block_bytes p (length g.places)) (o + length g.places) (suc g.block) gs t.1 u.1 (omega arith) then in
      walk_step f at o g (bytes_of (block_of p) gs ++ (end_block ++ rest)) u.0 here'
      ∙ ap (seen_or bytes col o (cond (eqb g.block (id / 65536)) (index_of (id % 65536) 0 g.places) none)) ih
      ∙ equal_or g.block (id / 65536)
      (λ e.
      rw (
        eq-eqb g.block (id / 65536) e,
        le-ltb g.block (id / 65536) (omega arith),
        none_under (λ n. n) (id / 65536) (suc g.block) gs (omega arith) t.1,
        no_places (id / 65536) (suc g.block) gs (omega arith) t.1,
        unseen_nil,
      )
      (or_seen o g.places u.0.ascending ∙ ap (λ (n : ℕ). seen_at n g.places) (sym (add-zero o))))
      (λ e.
      rw (ne_eqb g.block (id / 65536) e)
      (below_or g.block (id / 65536)
      (λ l. simp (lt-ltb, add_assoc))
      (λ l. rw (no_places (id / 65536) (suc g.block) gs (omega arith) t.1, unseen_nil, unseen_nil))))

-- ---- a column, in every edition whose codec is lawful

module _ (ed : Edition) (law : Lawful (codec ed)) (p : ℕ) (ids : List ℕ) (vs : List ℤ) (ok : Valid ed p ids vs) (id : ℕ) (hid : id ≤ 2147352575) where
  pub walked : walk (column ed p ids vs) (the_column ed p ids vs) id ≡ wordless (list_answer p ids vs id)
  unfolding walk the_column head_of the_head id_section blocks seen_at wordless list_answer
  walked =
      walk_runs (column ed p ids vs) (the_column ed p ids vs) id (id_section p ids) (bytes_of entry_bytes (jumps p ids)) (ids_part ed law p ids vs ok)
      (power16 p ids vs ok) (suc (length (id_section p ids))) 0 0 0 (runs ids) (blocks_asc p ids vs ok) (blocks_fine p ids vs ok)
      (omega (arith, runs_le p (runs ids), section_is p ids vs ok)) refl
      ∙ rw (zero-add, ← the_count p ids vs ok id, ← the_test p ids vs ok id)
      (true_or (listed id ids)
      (λ e. rw e (ap (seen (count_below id ids)) (value_is ed law p ids vs ok (count_below id ids) (count_lt id ids e))))
      (λ e. rw e))
