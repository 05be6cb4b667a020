-- A block's bytes by its kind. Assumes nothing.
use Rattle.format.specs.Kit.{◌≡◌, refl, sym, ap, ap₂, ◌∙◌, List, [], ◌++◌, ℕ, ◌+◌, ◌-◌, ◌*◌, ◌/◌, ◌%◌, ◌≤◌, ◌<◌, zero-le, length, get_or, length-map}
use Rattle.format.specs.Kit.{sets}
use Rattle.format.specs.Bytes.{digits, low, bytes_of}
use Rattle.format.specs.Ids.{by_kind, kind_of, rank_bytes, data_bytes, block_bytes, block_data, block_of}
use Rattle.laws.proofs.Digits.{length_digits}
use Rattle.laws.proofs.Stores.{sets_then}
use Rattle.block_writer.specs.Part.{places_from, run_of, bits_of, From}
use Rattle.block_writer.proofs.Words.{places_cons, places_end}
use Rattle.format.specs.Ids as F
use Rattle.format.specs.Runs.{Fine}

-- ---- how many

pub length_places : (xs : List ℕ) → length (places_from xs 0) ≡ length xs
unfolding places_from
length_places xs = length-map xs _

-- ---- which bytes

pub from_fine : (xs : List ℕ) → Fine (run_of xs) → From xs 0 0
from_fine xs f = record { inside = zero-le; ascending = f.ascending }

-- ---- the loop over places

pub short_more : (xs out : List ℕ) (i j m : ℕ) → m < length xs → i + 2 ≡ j
    → sets out i (bytes_of (low 2) (places_from xs m)) ≡ sets (sets out i (low 2 (get_or xs m 0 % 65536))) j (bytes_of (low 2) (places_from xs (m + 1)))
unfolding bytes_of
short_more xs out i j m h e =
    let seam : i + length (low 2 (get_or xs m 0 % 65536)) ≡ j = ap (λ (n : ℕ). i + n) (length_digits 256 2 (get_or xs m 0 % 65536)) ∙ e in
    rw (places_cons xs m h) (sets_then out i j (low 2 (get_or xs m 0 % 65536)) (bytes_of (low 2) (places_from xs (m + 1))) seam)

pub short_end : (xs out : List ℕ) (i m : ℕ) → length xs ≤ m → sets out i (bytes_of (low 2) (places_from xs m)) ≡ out
unfolding bytes_of
short_end xs out i m h = ap (λ (l : List ℕ). sets out i (bytes_of (low 2) l)) (places_end xs m h)

-- ---- head and data

pub head_is_is : (xs out : List ℕ) (at b c : ℕ) → b ≡ get_or xs 0 0 / 65536 → c ≡ length xs - 1
    → sets (sets out at (low 2 b)) (at + 2) (low 2 c) ≡ sets out at (low 2 (run_of xs).block ++ low 2 (length (run_of xs).places - 1))
head_is_is xs out at b c eb ec =
    sym (sets_then out at (at + 2) (low 2 b) (low 2 c) (ap (λ (n : ℕ). at + n) (length_digits 256 2 b)))
    ∙ ap₂ (λ (x y : ℕ). sets out at (low 2 x ++ low 2 y)) eb (ec ∙ ap (λ (n : ℕ). n - 1) (sym (length_places xs)))

pub block_is : (xs out : List ℕ) (p at : ℕ)
    → sets (sets out at (low 2 (run_of xs).block ++ low 2 (length (run_of xs).places - 1))) (at + 4) (block_data p (run_of xs).places)
    ≡ sets out at (block_of p (run_of xs))
unfolding block_of digits
block_is xs out p at =
    sym (sets_then out at (at + 4) (low 2 (run_of xs).block ++ low 2 (length (run_of xs).places - 1)) (block_data p (run_of xs).places) refl)

-- ---- by the kind itself

module _ (p c : ℕ) where
  pub bytes_by_sparse : kind_of c ≡ F.sparse → block_bytes p c ≡ 4 + 2 * c
  unfolding block_bytes data_bytes by_kind
  bytes_by_sparse e = rw e

  pub bytes_by_dense : kind_of c ≡ F.dense → block_bytes p c ≡ 4 + (rank_bytes p + 8192)
  unfolding block_bytes data_bytes by_kind
  bytes_by_dense e = rw e

module _ (p : ℕ) (xs : List ℕ) where
  pub data_by_sparse : kind_of (length xs) ≡ F.sparse → block_data p (places_from xs 0) ≡ bytes_of (low 2) (places_from xs 0)
  unfolding block_data by_kind
  data_by_sparse e = rw (length_places xs, e)

  pub data_by_dense : kind_of (length xs) ≡ F.dense → block_data p (places_from xs 0) ≡ bits_of p (places_from xs 0)
  unfolding block_data by_kind
  data_by_dense e = rw (length_places xs, e)

  pub data_by_all : kind_of (length xs) ≡ F.all → block_data p (places_from xs 0) ≡ []
  unfolding block_data by_kind
  data_by_all e = rw (length_places xs, e)
