-- The column of a pair list, in every edition whose codec is lawful, is opened, read back to that list, and passes the check.
-- Assumes nothing.
use Rattle.format.specs.Kit.{◌≡◌, refl, sym, ap, ◌∙◌, subst, true, false, List, [], ◌∷◌, Option, none, some, bind, ℕ, zero, suc, ◌+◌, ◌*◌, ◌^◌, ◌<◌, ◌≤◌}
use Rattle.format.specs.Kit.{bind-eq-some_iff, map-eq-some_iff, Option·some-injective, take, drop, length-take-le, length-drop, get_or-take, get_or-drop}
use Rattle.format.specs.Kit.{zero-le, le_refl, arith, eqb, leb, ℤ, pos, length, get_or, eq-eqb, eqb-false, le-leb, lt-leb, lt-ltb}
use Rattle.format.specs.Limits.{power_ok}
use Rattle.format.specs.Refusals.{done, refused, and_then, need, given, need_none, ROOM}
use Rattle.format.specs.Bytes.{bytes_of, same}
use Rattle.format.specs.Ids.{Run, runs, id_section, jumps, blocks, block_bytes, entry_bytes}
use Rattle.format.specs.IdsRead.{read_runs, ids_of}
use Rattle.format.specs.Editions.{Edition, Knows, codec}
use Rattle.format.specs.Pairs.{Below, Asc}
use Rattle.format.specs.Valid.{Valid}
use Rattle.format.specs.Column.{Head, head_of, column}
use Rattle.format.specs.Writer.{not_above, order_fault, range_fault, write_if, write_as}
use Rattle.format.specs.Opening.{head_ok, Opened, open_column, id_part, value_part, value_in}
use Rattle.format.specs.Says.{Within}
use Rattle.format.specs.Check.{all_values, pairs_in, is_done, is_column, accepted, check, reading}
use Rattle.laws.proofs.Places.{asc_length}
use Rattle.laws.proofs.Section.{length_id_section}
use Rattle.laws.proofs.Blocks.{read_runs_lem}
use Rattle.laws.proofs.Runs.{ids_runs, fine_runs}
use Rattle.laws.proofs.Jumps.{asc_blocks}
use Rattle.format.proofs.RankBytes.{rank_le}
use Rattle.laws.proofs.Bounds.{total_le, end_le, jumps_le}
use Rattle.laws.proofs.Rules.{power_fact}
use Rattle.laws.proofs.Lawful.{Storable, Lawful}
use Rattle.laws.proofs.Open.{tail, opened_as, opened_is, id_part_lem, value_part_lem}
use Rattle.format.specs.Runs.{total_bytes, AllFine, AscBlocks}

-- ---- the power

pub power_le : (p : ℕ) → power_ok p ≡ true → p ≤ 15
power_le p h = (power_fact p h).most

pub power_ge : (p : ℕ) → power_ok p ≡ true → eqb p 0 ≡ false → 7 ≤ p
power_ge p h e = (power_fact p h).least (eqb-false p 0 e)

-- ---- what the writer takes

no_order_fault : (i a : ℕ) (ids : List ℕ) → Asc (suc a) ids → not_above i a ids ≡ none
unfolding not_above
no_order_fault i a [] t = refl
no_order_fault i a (x ∷ xs) t = rw (lt-ltb a x t.0) (no_order_fault (suc i) x xs t.1)

pub in_order : (ids : List ℕ) → Asc 0 ids → order_fault ids ≡ none
unfolding order_fault
in_order [] t = refl
in_order (x ∷ xs) t = no_order_fault 1 x xs t.1

pub in_range : (i : ℕ) (ids : List ℕ) → Below 2147352576 ids → range_fault i ids ≡ none
unfolding range_fault
in_range i [] t = refl
in_range i (x ∷ xs) t = rw (le-leb x 2147352575 (omega (arith, t.0))) (in_range (suc i) xs t.1)

pub same_refl : (l : List ℕ) → same l l ≡ true
unfolding same
same_refl [] = refl
same_refl (x ∷ xs) = rw (eq-eqb x x refl) (same_refl xs)

-- the values come back one by one
pub all_values_lem : (vs : List ℤ) (f : ℕ → Option ℤ) → ((i : ℕ) → i < length vs → f i ≡ some (get_or vs i (pos 0))) → all_values (length vs) f ≡ some vs
unfolding all_values bind
all_values_lem [] f h = refl
all_values_lem (v ∷ vs) f h = rw (h 0 (omega arith), all_values_lem vs (λ i. f (suc i)) (λ i k. h (suc i) (omega arith)))

-- the same values, one by one
pub all_same : (n : ℕ) (f g : ℕ → Option ℤ) → ((i : ℕ) → i < n → f i ≡ g i) → all_values n f ≡ all_values n g
unfolding all_values
all_same zero f g h = refl
all_same (suc n) f g h = rw (h 0 (omega arith), all_same n (λ i. f (suc i)) (λ i. g (suc i)) (λ i k. h (suc i) (omega arith)))

-- of values that are all there: how many, each by its ordinal, and a part of them
pub all_length : (n : ℕ) (f : ℕ → Option ℤ) (vs : List ℤ) → all_values n f ≡ some vs → length vs ≡ n
unfolding all_values bind-eq-some_iff
all_length zero f vs e = sym (ap length (Option·some-injective [] vs e))
all_length (suc n) f vs e =
    let s = (bind-eq-some_iff (f 0) _).0 e in
    let t = (map-eq-some_iff _ (all_values n (λ i. f (suc i)))).0 s.2 in
    subst (λ (l : List ℤ). length l ≡ suc n) t.2 (ap suc (all_length n (λ i. f (suc i)) t.0 t.1))

pub all_at : (n : ℕ) (f : ℕ → Option ℤ) (vs : List ℤ) → all_values n f ≡ some vs → (i : ℕ) → i < n → f i ≡ some (get_or vs i (pos 0))
unfolding all_values bind-eq-some_iff
all_at zero f vs e i h = absurd (omega arith)
all_at (suc n) f vs e i h =
    let s = (bind-eq-some_iff (f 0) _).0 e in
    let t = (map-eq-some_iff _ (all_values n (λ i. f (suc i)))).0 s.2 in
    subst (λ (l : List ℤ). f i ≡ some (get_or l i (pos 0))) t.2 (by i h s.0 s.1 t.0 (λ j b. all_at n (λ i. f (suc i)) t.0 t.1 j b))
  where
    by : (i : ℕ) → i < suc n → (v : ℤ) → f 0 ≡ some v → (ws : List ℤ) → ((j : ℕ) → j < n → f (suc j) ≡ some (get_or ws j (pos 0)))
        → f i ≡ some (get_or (v ∷ ws) i (pos 0))
    by zero h v a ws more = a
    by (suc i) h v a ws more = more i (omega arith)

pub all_part : (n : ℕ) (f : ℕ → Option ℤ) (vs : List ℤ) → all_values n f ≡ some vs → (i m : ℕ) → i + m ≤ n
    → all_values m (λ k. f (i + k)) ≡ some (take m (drop i vs))
all_part n f vs e i m h =
    let part : List ℤ = take m (drop i vs) in
    let long : length part ≡ m = length-take-le m (drop i vs) (omega (arith, length-drop i vs, all_length n f vs e)) in
    ap (λ (k : ℕ). all_values k (λ j. f (i + j))) (sym long)
    ∙ all_values_lem part (λ j. f (i + j))
    (λ j b. all_at n f vs e (i + j) (omega (arith, b, long))
    ∙ ap (λ (v : ℤ). some v) (sym (get_or-take m (drop i vs) j (pos 0) (omega (arith, b, long)) ∙ get_or-drop i vs j (pos 0))))

pub runs_le : (p : ℕ) (gs : List Run) → length gs ≤ total_bytes p gs
unfolding total_bytes block_bytes
runs_le p [] = zero-le
runs_le p (g ∷ gs) = omega (arith, runs_le p gs)

-- ---- the ids' half, the same in each edition

module _ {ed : Edition} (p : ℕ) (ids : List ℕ) (vs : List ℤ) (ok : Valid ed p ids vs) where
  pub power16 : p ≤ 16
  power16 = omega (arith, power_le p ok.power)

  pub blocks_asc : AscBlocks 0 (runs ids)
  blocks_asc = asc_blocks 0 ids ok.ascending

  pub blocks_fine : AllFine (runs ids)
  blocks_fine = fine_runs ids ok.ascending ok.range

  pub count_le : length ids ≤ 2147352576
  count_le = omega (arith, asc_length 0 2147352576 ids zero-le ok.ascending ok.range)

  pub storable : Storable (codec ed) vs
  storable = record { taken = ok.taken; few = omega (arith, count_le, ok.lengths); fit = ok.fit }

  -- 9220 bytes for each of 32766 blocks
  pub blocks_le : total_bytes p (runs ids) ≤ 302102520
  blocks_le =
      omega (arith, total_le p 0 (runs ids) (rank_le p (power_ge p ok.power)) blocks_asc, end_le 0 (runs ids) zero-le blocks_fine)

  pub entries_le : length (jumps p ids) ≤ 32767
  entries_le = jumps_le p ids blocks_asc blocks_fine

  pub section_is : length (id_section p ids) ≡ total_bytes p (runs ids) + (6 + 8 * length (jumps p ids))
  section_is = length_id_section p ids power16

  ids_back : ids_of (read_runs (length (id_section p ids)) p (id_section p ids)) ≡ ids
  unfolding id_section blocks
  ids_back =
      ap ids_of (read_runs_lem (length (id_section p ids)) p (runs ids) (bytes_of entry_bytes (jumps p ids)) power16 blocks_fine
      (omega (arith, section_is, runs_le p (runs ids))))
      ∙ ids_runs ids

-- ---- the writer has nothing but the room to ask for, of a list within the limits and values that the edition takes

pub room_decides : (ed : Edition) (p : ℕ) (ids : List ℕ) (vs : List ℤ) → length ids ≡ length vs → Within p ids → (codec ed).takes vs ≡ true → (room : ℕ)
    → write_as ed p ids vs room ≡ need (leb (length (column ed p ids vs)) room) ROOM (length (column ed p ids vs)) (done (column ed p ids vs))
unfolding write_as write_if need need_none
room_decides ed p ids vs l a t room =
    rw (eq-eqb (length ids) (length vs) l, a.power, in_order ids a.ascending, in_range 0 ids a.range, t)

-- ---- the column of a list, as it is opened

module _ (ed : Edition) (p : ℕ) (ids : List ℕ) (vs : List ℤ) where
  unfoldable pub the_head : Head
  the_head = head_of ed p ids vs (length (id_section p ids)) (length ((codec ed).section vs))

  unfoldable pub the_column : Opened
  the_column = opened_as the_head (id_section p ids) ((codec ed).section vs)

-- ---- the round trip, for every edition whose codec is lawful

module _ (ed : Edition) (law : Lawful (codec ed)) (p : ℕ) (ids : List ℕ) (vs : List ℤ) (ok : Valid ed p ids vs) where
  abbrev bytes : List ℕ
  bytes = column ed p ids vs

  abbrev col : Opened
  col = the_column ed p ids vs

  small : Below (2 ^ 64) (tail (the_head ed p ids vs))
  unfolding head_of the_head
  small =
      let f = law.small_fields vs (storable p ids vs ok) in (
        omega (arith, count_le p ids vs ok),
        (
          omega (arith, power16 p ids vs ok),
          (
            omega (arith, section_is p ids vs ok, blocks_le p ids vs ok, entries_le p ids vs ok),
            (
              omega (arith, entries_le p ids vs ok),
              (f.0, (f.1.0, (f.1.1.0, (law.small_section vs (storable p ids vs ok), tt)))),
            ),
          ),
        ),
      )

  head_ok_lem : head_ok (the_head ed p ids vs) ≡ true
  unfolding head_ok head_of the_head
  head_ok_lem =
      rw (
        le-leb (length ids) 2147352576 (count_le p ids vs ok),
        ok.power,
        le-leb (length (jumps p ids)) 32767 (entries_le p ids vs ok),
        le-leb (6 + 8 * length (jumps p ids)) (length (id_section p ids)) (omega (arith, section_is p ids vs ok)),
        ok.lengths,
        law.rules vs (storable p ids vs ok),
      )

  pub opened : (known : List Edition) → Knows known ed → open_column known bytes ≡ done col
  unfolding the_column head_of the_head column
  opened = opened_is (the_head ed p ids vs) (id_section p ids) ((codec ed).section vs) small head_ok_lem refl refl

  pub ids_part : id_part bytes col ≡ id_section p ids
  unfolding the_column head_of the_head column
  ids_part = id_part_lem (the_head ed p ids vs) (id_section p ids) ((codec ed).section vs) small head_ok_lem refl refl

  pub values_part : value_part bytes col ≡ (codec ed).section vs
  unfolding the_column head_of the_head column
  values_part = value_part_lem (the_head ed p ids vs) (id_section p ids) ((codec ed).section vs) small head_ok_lem refl refl

  -- each value, by the edition's step 7
  pub value_back : (i : ℕ) → i < length vs → value_in (the_head ed p ids vs) ((codec ed).section vs) i ≡ some (get_or vs i (pos 0))
  unfolding value_in head_of the_head
  value_back i k = rw ok.lengths (law.back vs (storable p ids vs ok) i k)

  values_back : all_values (length ids) (value_in (the_head ed p ids vs) ((codec ed).section vs)) ≡ some vs
  values_back =
      ap (λ (n : ℕ). all_values n (value_in (the_head ed p ids vs) ((codec ed).section vs))) ok.lengths ∙ all_values_lem vs _ value_back

  pub pairs_back : pairs_in bytes col ≡ some (record { ids = ids; values = vs })
  unfolding pairs_in the_column head_of the_head
  pairs_back = rw (ids_part, values_part, ids_back p ids vs ok, values_back)

  -- ---- the calls

  within : Within p ids
  within = record { power = ok.power; ascending = ok.ascending; range = ok.range }

  pub written : (room : ℕ) → length bytes ≤ room → write_as ed p ids vs room ≡ done bytes
  unfolding need
  written room k = room_decides ed p ids vs ok.lengths within ok.taken room ∙ rw (le-leb (length bytes) room k) refl

  pub no_room : (room : ℕ) → room < length bytes → write_as ed p ids vs room ≡ refused ROOM (length bytes)
  unfolding need
  no_room room k = room_decides ed p ids vs ok.lengths within ok.taken room ∙ rw (lt-leb (length bytes) room k) refl

  pub taken : accepted bytes col ≡ done (record { ids = ids; values = vs })
  unfolding accepted and_then given need is_column is_done the_column head_of the_head
  taken = rw (pairs_back, written (length bytes) (le_refl (length bytes)), same_refl bytes)

  pub checked : (known : List Edition) → Knows known ed → check known bytes ≡ done (length ids)
  unfolding check and_then the_column head_of the_head
  checked known k = rw (opened known k, taken)

  pub read : (known : List Edition) → Knows known ed → (idRoom valueRoom : ℕ) → length ids ≤ idRoom → length ids ≤ valueRoom
      → reading known bytes idRoom valueRoom ≡ done (record { ids = ids; values = vs })
  unfolding reading and_then need the_column head_of the_head
  read known k a b ha hb = rw (opened known k, le-leb (length ids) a ha, le-leb (length ids) b hb, taken)
