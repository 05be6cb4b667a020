-- What stands at an id's entry in the id section of a list: the id's block, or another and nothing is listed in the id's. Assumes nothing.
use Rattle.format.specs.Kit.{◌≡◌, refl, sym, ap, ◌∙◌, subst, ◌⊎◌, inl, inr, true, ◌||◌, List, [], ◌∷◌, ◌++◌, append_assoc, ℕ, suc, ◌+◌, ◌-◌}
use Rattle.format.specs.Kit.{◌*◌, ◌/◌, ◌<◌, ◌≤◌, min, zero-add, arith, eqb, leb, ℤ, length, get_or, drop, length-append, drop_at, eq-eqb, ne_eqb}
use Rattle.format.specs.Kit.{le-leb}
use Rattle.format.specs.Bytes.{low_at, bytes_of}
use Rattle.format.specs.Ids.{Run, runs, id_section, jumps, jumps_from, not_two, blocks, block_of, block_bytes, block_data, end_block, Entry, entry_bytes}
use Rattle.format.specs.Pairs.{Asc, Below}
use Rattle.format.specs.Editions.{Edition}
use Rattle.format.specs.Valid.{Valid}
use Rattle.format.specs.LookUp.{entry_at}
use Rattle.format.specs.Runs.{total_bytes, Fine, AllFine, AscBlocks, end_of}
use Rattle.laws.proofs.Cases.{below_or, equal_or}
use Rattle.laws.proofs.Tests.{or_right}
use Rattle.laws.proofs.Section.{length_blocks}
use Rattle.laws.proofs.Runs.{ids_runs}
use Rattle.laws.proofs.Jumps.{under, pair, ids_under, bytes_under, length_jumps, entry_is, end_ge, none_under}
use Rattle.laws.proofs.Find.{places_of}
use Rattle.laws.proofs.Skip.{from_b, skip, First, View, view, under_same, beyond, under_le, bytes_under_le, ordinal_read, start_read}
use Rattle.laws.proofs.RoundTrip.{power16, blocks_asc, blocks_fine, count_le, section_is, blocks_le}
use Rattle.laws.proofs.Standing.{number_read, count_read, data_read, end_read}

block_ge : (p c : ℕ) → 4 ≤ block_bytes p c
unfolding block_bytes
block_ge p c = omega arith

-- the places listed in the id's block
abbrev pub there : List ℕ → ℕ → List ℕ
there ids id = places_of (id / 65536) (runs ids)

-- where the jump entries start
abbrev pub entries_from : ℕ → List ℕ → ℕ
entries_from p ids = length (id_section p ids) - 8 * length (jumps p ids)

-- the id's block
pub record Here (p : ℕ) (ids : List ℕ) (id : ℕ) (e : Entry) : Type 0 where
  pub number : low_at 2 (id_section p ids) e.1 ≡ id / 65536
  pub count : low_at 2 (id_section p ids) (e.1 + 2) + 1 ≡ length (there ids id)
  pub rest : List ℕ
  pub its_data : drop (e.1 + 4) (id_section p ids) ≡ block_data p (there ids id) ++ rest
  pub head_end : e.1 + 4 ≤ entries_from p ids
  pub data_end : e.1 + block_bytes p (length (there ids id)) ≤ entries_from p ids
  pub ordinal : e.0 ≡ ids_under (id / 65536) (runs ids)
  pub last : e.0 + length (there ids id) ≤ length ids
  pub ascending : Asc 0 (there ids id)
  pub inside : Below 65536 (there ids id)

-- another block, or the end block
pub record Away (p : ℕ) (ids : List ℕ) (id : ℕ) (e : Entry) : Type 0 where
  pub other : low_at 2 (id_section p ids) e.1 ≡ id / 65536 → ⊥
  pub above : (eqb (length (jumps p ids)) 0 || leb (id / 65536) (low_at 2 (id_section p ids) e.1)) ≡ true
  pub head_end : e.1 + 4 ≤ entries_from p ids
  pub nothing : there ids id ≡ []

abbrev pub Met : ℕ → List ℕ → ℕ → Entry → Type 0
Met p ids id e = Here p ids id e ⊎ Away p ids id e

module _ {ed : Edition} (p : ℕ) (ids : List ℕ) (vs : List ℤ) (ok : Valid ed p ids vs) (id : ℕ) (hid : id ≤ 2147352575) where
  -- the sections after the blocks
  abbrev end : List ℕ
  end = end_block ++ bytes_of entry_bytes (jumps p ids)

  p16 : p ≤ 16
  p16 = power16 p ids vs ok

  blocks_end : total_bytes p (runs ids) + 6 ≡ entries_from p ids
  blocks_end = omega (arith, section_is p ids vs ok)

  -- ---- at the start of a block

  module _ (g : Run) (rest : List ℕ) (o s : ℕ) (here : drop s (id_section p ids) ≡ block_of p g ++ rest) (fine : Fine g)
      (by_bytes : s + block_bytes p (length g.places) ≤ total_bytes p (runs ids)) where
    number_is : low_at 2 (id_section p ids) s ≡ g.block
    number_is = number_read (id_section p ids) s p g rest p16 fine here

    head_by : s + 4 ≤ entries_from p ids
    head_by = omega (arith, blocks_end, block_ge p (length g.places))

    at_here : g.block ≡ id / 65536 → there ids id ≡ g.places → o ≡ ids_under (id / 65536) (runs ids) → o + length g.places ≤ length ids
        → Here p ids id (o, s)
    at_here k e q by_ids =
        record {
          number = number_is ∙ k;
          count = rw e (count_read (id_section p ids) s p g rest p16 fine here);
          rest = rest;
          its_data = rw e (data_read (id_section p ids) s p g rest p16 fine here);
          head_end = head_by;
          data_end = rw e (omega (arith, blocks_end));
          ordinal = q;
          last = rw e by_ids;
          ascending = rw e fine.ascending;
          inside = rw e fine.inside;
        }

    at_away : (g.block ≡ id / 65536 → ⊥) → there ids id ≡ [] → (eqb (length (jumps p ids)) 0 || leb (id / 65536) g.block) ≡ true → Away p ids id (o, s)
    at_away k e test = record { other = λ z. k (sym number_is ∙ z); above = rw number_is test; head_end = head_by; nothing = e }

  -- ---- at the entry of the id's block: the ids and the bytes before it

  abbrev its_entry : Entry
  its_entry = (ids_under (id / 65536) (runs ids), bytes_under p (id / 65536) (runs ids))

  section_at : drop its_entry.1 (id_section p ids) ≡ bytes_of (block_of p) (from_b (id / 65536) (runs ids)) ++ end
  unfolding id_section blocks
  section_at = skip p (id / 65536) 0 (runs ids) end p16 (blocks_asc p ids vs ok)

  at_first : (g : Run) (back : List Run) → First p (id / 65536) (runs ids) g → from_b (id / 65536) (runs ids) ≡ g ∷ back → Met p ids id its_entry
  unfolding bytes_of
  at_first g back f e =
      equal_or g.block (id / 65536)
      (λ k. inl (at_here g rest _ _ here f.fine f.its_end k (f.its_places ∙ rw (eq-eqb g.block (id / 65536) k) refl) refl its_ids))
      (λ k.
      inr (at_away g rest _ _ here f.fine f.its_end k (f.its_places ∙ rw (ne_eqb g.block (id / 65536) k) refl)
      (or_right (eqb (length (jumps p ids)) 0) (leb (id / 65536) g.block) (le-leb (id / 65536) g.block f.from))))
    where
      rest : List ℕ
      rest = bytes_of (block_of p) back ++ end

      here : drop its_entry.1 (id_section p ids) ≡ block_of p g ++ rest
      here = section_at ∙ ap (λ (l : List Run). bytes_of (block_of p) l ++ end) e ∙ append_assoc (block_of p g) (bytes_of (block_of p) back) end

      its_ids : its_entry.0 + length g.places ≤ length ids
      its_ids = subst (λ (l : List ℕ). its_entry.0 + length g.places ≤ length l) (ids_runs ids) f.its_ids

  at_end : from_b (id / 65536) (runs ids) ≡ [] → View p (id / 65536) (runs ids) [] → Away p ids id its_entry
  unfolding bytes_of
  at_end e v =
      let here : drop its_entry.1 (id_section p ids) ≡ end = section_at ∙ ap (λ (l : List Run). bytes_of (block_of p) l ++ end) e in
      let n : low_at 2 (id_section p ids) its_entry.1 ≡ 32767 = end_read (id_section p ids) its_entry.1 (bytes_of entry_bytes (jumps p ids)) here in
      record {
        other = λ z. omega (arith, n);
        above = rw n (or_right (eqb (length (jumps p ids)) 0) (leb (id / 65536) 32767) (le-leb (id / 65536) 32767 (omega arith)));
        head_end = omega (arith, v.1, blocks_end);
        nothing = v.0;
      }

  at_its_entry : Met p ids id its_entry
  at_its_entry = go (from_b (id / 65536) (runs ids)) refl (view p (id / 65536) 0 (runs ids) (blocks_asc p ids vs ok) (blocks_fine p ids vs ok))
    where
      go : (l : List Run) → from_b (id / 65536) (runs ids) ≡ l → View p (id / 65536) (runs ids) (from_b (id / 65536) (runs ids)) → Met p ids id its_entry
      go [] e v = inr (at_end e (subst (View p (id / 65536) (runs ids)) e v))
      go (g ∷ back) e v = at_first g back (subst (View p (id / 65536) (runs ids)) e v) e

  -- ---- step 1: the entry

  pub entries : length (jumps_from p 0 0 0 (runs ids)) + 0 ≡ end_of 0 (runs ids) + 1
  entries = length_jumps p 0 0 0 (runs ids) (blocks_asc p ids vs ok)

  pub entries_at : drop (entries_from p ids) (id_section p ids) ≡ bytes_of entry_bytes (jumps p ids)
  unfolding id_section blocks end_block
  entries_at =
      ap (drop (entries_from p ids))
      (sym (append_assoc (bytes_of (block_of p) (runs ids)) end_block (bytes_of entry_bytes (jumps p ids))))
      ∙ drop_at (bytes_of (block_of p) (runs ids) ++ end_block) (bytes_of entry_bytes (jumps p ids)) (entries_from p ids)
      (omega (arith, length-append (bytes_of (block_of p) (runs ids)) end_block, length_blocks p (runs ids) (power16 p ids vs ok), section_is p ids vs ok))

  -- many entries: that of the id's block, or the last
  module _ (many : jumps p ids ≡ jumps_from p 0 0 0 (runs ids)) where
    i : ℕ
    i = min (id / 65536) (length (jumps p ids) - 1)

    i_le : i ≤ end_of 0 (runs ids)
    unfolding i
    i_le = omega (arith, ap length many, entries)

    the_entry : get_or (jumps p ids) i (0, 0) ≡ (ids_under i (runs ids), bytes_under p i (runs ids))
    the_entry =
        ap (λ (l : List Entry). get_or l i (0, 0)) many
        ∙ entry_is p 0 0 0 i i (0, 0) (runs ids) (blocks_asc p ids vs ok) (zero-add i) i_le
        ∙ pair (zero-add (ids_under i (runs ids))) (zero-add (bytes_under p i (runs ids)))

    i_lt : i < length (jumps p ids)
    i_lt = omega (arith, ap length many, entries, i_le)

    same_under : (size : ℕ → ℕ) → under size i (runs ids) ≡ under size (id / 65536) (runs ids)
    unfolding i
    same_under size =
        below_or (id / 65536) (end_of 0 (runs ids))
        (λ l. let e : i ≡ id / 65536 = omega (arith, ap length many, entries) in ap (λ (n : ℕ). under size n (runs ids)) e)
        (λ l. under_same size i (id / 65536) 0 (runs ids) (blocks_asc p ids vs ok) (omega (arith, ap length many, entries)) l)

    ids_are : (get_or (jumps p ids) i (0, 0)).0 ≡ ids_under i (runs ids)
    ids_are = ap (λ (e : Entry). e.0) the_entry

    bytes_are : (get_or (jumps p ids) i (0, 0)).1 ≡ bytes_under p i (runs ids)
    bytes_are = ap (λ (e : Entry). e.1) the_entry

    entry_many : entry_at (id_section p ids) (entries_from p ids) (length (jumps p ids)) (id / 65536)
        ≡ (ids_under (id / 65536) (runs ids), bytes_under p (id / 65536) (runs ids))
    unfolding entry_at i
    entry_many =
        rw (ne_eqb (length (jumps p ids)) 0 (λ e. omega (arith, i_lt)))
        (pair
        (ordinal_read (id_section p ids) (entries_from p ids) (jumps p ids) i entries_at i_lt
        (omega (arith, ids_are, under_le i (runs ids), ap length (ids_runs ids), count_le p ids vs ok)) ∙ ids_are ∙ same_under (λ n. n))
        (start_read (id_section p ids) (entries_from p ids) (jumps p ids) i entries_at i_lt
        (omega (arith, bytes_are, bytes_under_le p i (runs ids), blocks_le p ids vs ok)) ∙ bytes_are ∙ same_under (block_bytes p)))

  -- one block, numbered 0: no entries
  module _ (none_kept : jumps p ids ≡ []) (two : length (jumps_from p 0 0 0 (runs ids)) ≡ 2) where
    entry_none : entry_at (id_section p ids) (entries_from p ids) (length (jumps p ids)) (id / 65536) ≡ (0, 0)
    unfolding entry_at
    entry_none = rw (ap length none_kept)

    ends_at_one : end_of 0 (runs ids) ≡ 1
    ends_at_one = omega (arith, entries)

    other_block : (l : List Run) → runs ids ≡ l → (id / 65536 ≡ 0 → ⊥) → Away p ids id (0, 0)
    unfolding id_section blocks bytes_of end_of total_bytes
    other_block [] e k =
        let z : end_of 0 [] ≡ 1 = ap (end_of 0) (sym e) ∙ ends_at_one in
        absurd (omega arith)
    other_block (g ∷ gs) e k =
        let a : AscBlocks 0 (g ∷ gs) = subst (AscBlocks 0) e (blocks_asc p ids vs ok) in
        let f : AllFine (g ∷ gs) = subst AllFine e (blocks_fine p ids vs ok) in
        let z : end_of (suc g.block) gs ≡ 1 = ap (end_of 0) (sym e) ∙ ends_at_one in
        let y : suc g.block ≤ end_of (suc g.block) gs = end_ge (suc g.block) gs a.1 in
        at_away g (bytes_of (block_of p) gs ++ end) 0 0
        (ap (λ (l : List Run). bytes_of (block_of p) l ++ end) e ∙ append_assoc (block_of p g) (bytes_of (block_of p) gs) end)
        f.0
        (subst (λ (l : List Run). 0 + block_bytes p (length g.places) ≤ total_bytes p l) (sym e) (omega arith))
        (λ q. k (omega arith))
        (beyond (id / 65536) 0 (runs ids) (blocks_asc p ids vs ok) (omega (arith, ends_at_one)))
        (rw (ap length none_kept) refl)

    at_zero : Met p ids id (0, 0)
    at_zero =
        equal_or (id / 65536) 0
        (λ e.
        let o : ids_under (id / 65536) (runs ids) ≡ 0 = none_under (λ n. n) (id / 65536) 0 (runs ids) (omega arith) (blocks_asc p ids vs ok) in
        let s : bytes_under p (id / 65536) (runs ids) ≡ 0 = none_under (block_bytes p) (id / 65536) 0 (runs ids) (omega arith) (blocks_asc p ids vs ok) in
        subst (Met p ids id) (pair o s) at_its_entry)
        (λ e. inr (other_block (runs ids) refl e))

  pub two_dropped : length (jumps_from p 0 0 0 (runs ids)) ≡ 2 → jumps p ids ≡ []
  unfolding jumps not_two
  two_dropped e = rw (eq-eqb (length (jumps_from p 0 0 0 (runs ids))) 2 e)

  pub all_kept : (length (jumps_from p 0 0 0 (runs ids)) ≡ 2 → ⊥) → jumps p ids ≡ jumps_from p 0 0 0 (runs ids)
  unfolding jumps not_two
  all_kept e = rw (ne_eqb (length (jumps_from p 0 0 0 (runs ids))) 2 e)

  pub met : Met p ids id (entry_at (id_section p ids) (entries_from p ids) (length (jumps p ids)) (id / 65536))
  met =
      equal_or (length (jumps_from p 0 0 0 (runs ids))) 2
      (λ e. subst (Met p ids id) (sym (entry_none (two_dropped e) e)) (at_zero (two_dropped e) e))
      (λ e. subst (Met p ids id) (sym (entry_many (all_kept e))) at_its_entry)
