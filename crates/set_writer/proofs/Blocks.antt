-- One block's bytes: its data by the kind, its three numbers, and all of it. Assumes nothing.
use Rattle.format.specs.Kit.{◌≡◌, refl, sym, ap, ◌∙◌, List, ◌++◌, append_assoc, ℕ, zero, suc, ◌+◌, ◌-◌, ◌*◌, ◌/◌, ◌<◌, ◌≤◌, zero-le, arith, length}
use Rattle.format.specs.Kit.{get_or, length-append, sets}
use Rattle.format.specs.Limits.{Power}
use Rattle.format.specs.Bytes.{low, bytes_of}
use Rattle.format.specs.HeaderNumbers.{number}
use Rattle.format.specs.Ids.{bitmap, rank_table}
use Rattle.format.specs.Pairs.{Below, Asc}
use Rattle.format.specs.Runs.{Fine}
use Rattle.format.specs.SetBytes.{missing, set_kind, set_list, set_data, set_block_as, set_block}
use Rattle.format.specs.SetCalls.{set_data_bytes}
use Rattle.laws.proofs.Digits.{length_digits}
use Rattle.laws.proofs.Places.{asc_length}
use Rattle.laws.proofs.Stores.{sets_then}
use Rattle.set_format.proofs.Missing.{missing_length}
use Rattle.set_format.proofs.Data.{by_count, kind_listed, kind_missing, kind_bitmap, length_shorts_bytes}
use Rattle.block_writer.specs.Part.{places_from, run_of, bits_of}
use Rattle.block_writer.proofs.Data.{length_places}
use Rattle.set_writer.specs.Head.{list_long, head_bytes, HeadOf}
use Rattle.set_blocks.specs.Kinds.{kind_number}
use Rattle.set_blocks.specs.declared.SetKind.{SetKind}
use Rattle.set_writer.specs.declared.Head.{Head}

-- ---- the data, by the kind

module _ (t : ℕ) (rs : List ℕ) where
  pub data_listed : t ≡ 0 → bytes_of (low 2) rs ≡ set_data t rs
  unfolding set_data
  data_listed e = rw e

  pub data_missing : t ≡ 1 → bytes_of (low 2) (missing 65536 0 rs) ≡ set_data t rs
  unfolding set_data
  data_missing e = rw e

  pub data_bitmap : t ≡ 2 → bits_of 0 rs ≡ set_data t rs
  unfolding set_data rank_table
  data_bitmap e = rw e

  pub long_listed : t ≡ 0 → length (set_data t rs) ≡ 2 * length rs
  long_listed e = ap length (sym (data_listed e)) ∙ length_shorts_bytes rs

  pub long_missing : t ≡ 1 → length (set_data t rs) ≡ 2 * length (missing 65536 0 rs)
  long_missing e = ap length (sym (data_missing e)) ∙ length_shorts_bytes (missing 65536 0 rs)

  pub long_bitmap : t ≡ 2 → length (set_data t rs) ≡ 8192
  unfolding set_data
  long_bitmap e = rw e (length_digits 256 8192 (bitmap rs))

pub no_ranks : Power 0
no_ranks = record { most = omega arith; least = λ h. absurd (h refl) }

-- ---- the list's length

pub len_listed : (t n : ℕ) → t ≡ 0 → n ≡ list_long t n
unfolding list_long
len_listed t n e = rw e

pub len_missing : (t n : ℕ) → t ≡ 1 → 65536 - n ≡ list_long t n
unfolding list_long
len_missing t n e = rw e

pub len_bitmap : (t n : ℕ) → t ≡ 2 → 0 ≡ list_long t n
unfolding list_long
len_bitmap t n e = rw e

list_long_lem : (t : ℕ) (rs : List ℕ) → Asc 0 rs → Below 65536 rs → list_long t (length rs) ≡ length (set_list t rs)
unfolding list_long set_list
list_long_lem zero rs a u = refl
list_long_lem (suc zero) rs a u = omega (arith, missing_length 65536 0 rs a u)
list_long_lem (suc (suc t)) rs a u = refl

list_most : (n : ℕ) → n ≤ 65536 → list_long (set_kind n) n ≤ 4096
unfolding list_long
list_most n h =
    by_count n
    (λ a. rw (kind_listed n a) a)
    (λ a b. rw (kind_missing n a b) (omega arith))
    (λ a b. rw (kind_bitmap n a b) zero-le)

data_long : (t : ℕ) (rs : List ℕ) → set_data_bytes t (length (set_list t rs)) ≡ length (set_data t rs)
unfolding set_data_bytes set_list set_data
data_long zero rs = sym (length_shorts_bytes rs)
data_long (suc zero) rs = sym (length_shorts_bytes (missing 65536 0 rs))
data_long (suc (suc t)) rs = sym (length_digits 256 8192 (bitmap rs))

-- ---- the three numbers

-- put one after the other
pub head_put : (h : Head) (out : List ℕ) (at a b : ℕ) → a ≡ at + length (number h.block) → b ≡ a + length (number (kind_number h.kind))
    → sets (sets (sets out at (number h.block)) a (number (kind_number h.kind))) b (number h.long) ≡ sets out at (head_bytes h)
head_put h out at a b e f =
    sym
    (sets_then out at a (number h.block) (number (kind_number h.kind) ++ number h.long) (sym e)
    ∙ sets_then (sets out at (number h.block)) a b (number (kind_number h.kind)) (number h.long) (sym f))

pub head_long : (h : Head) → length (head_bytes h) ≡ length (number h.block) + (length (number (kind_number h.kind)) + length (number h.long))
head_long h =
    length-append (number h.block) (number (kind_number h.kind) ++ number h.long)
    ∙ ap (λ (n : ℕ). length (number h.block) + n) (length-append (number (kind_number h.kind)) (number h.long))

-- ---- the ids of one block

module _ (xs : List ℕ) (fine : Fine (run_of xs)) where
  pub few : length xs ≤ 65536
  few = omega (arith, length_places xs, asc_length 0 65536 (places_from xs 0) zero-le fine.ascending fine.inside)

  pub some_id : zero < length xs
  some_id = omega (arith, length_places xs, fine.some_place)

  -- its head
  pub head_is_is : {block : ℕ} {kind : SetKind} {long : ℕ} → block ≡ get_or xs 0 0 / 65536 → kind_number kind ≡ set_kind (length xs)
      → long ≡ list_long (kind_number kind) (length xs)
      → HeadOf xs (record { block = block; kind = kind; long = long })
  head_is_is {kind = kind} eb ek el =
      record {
        block_is = eb;
        kind_is_is = ek;
        long_is = el;
        long_le = omega (arith, el ∙ ap (λ (t : ℕ). list_long t (length xs)) ek, list_most (length xs) few);
      }

  module _ (h : Head) (is : HeadOf xs h) where
    its_list : h.long ≡ length (set_list (kind_number h.kind) (places_from xs 0))
    its_list =
        is.long_is ∙ ap (list_long (kind_number h.kind)) (sym (length_places xs))
        ∙ list_long_lem (kind_number h.kind) (places_from xs 0) fine.ascending fine.inside

    pub its_data : set_data_bytes (kind_number h.kind) h.long ≡ length (set_data (kind_number h.kind) (places_from xs 0))
    its_data = ap (set_data_bytes (kind_number h.kind)) its_list ∙ data_long (kind_number h.kind) (places_from xs 0)

    pub its_bytes : set_block (run_of xs) ≡ head_bytes h ++ set_data (kind_number h.kind) (places_from xs 0)
    unfolding set_block set_block_as
    its_bytes =
        let k : set_kind (length (places_from xs 0)) ≡ (kind_number h.kind) = ap set_kind (length_places xs) ∙ sym is.kind_is_is in
        rw (k, ← is.block_is, ← its_list) (simp append_assoc)

    pub its_length : length (set_block (run_of xs)) ≡ length (head_bytes h) + length (set_data (kind_number h.kind) (places_from xs 0))
    its_length = ap length its_bytes ∙ length-append (head_bytes h) (set_data (kind_number h.kind) (places_from xs 0))
