-- How long the id section is. Assumes nothing.
use Rattle.format.specs.Kit.{◌≡◌, refl, sym, ap, ap₂, ◌∙◌, Bool, true, false, List, [], ◌∷◌, ◌++◌, ℕ, zero, suc, ◌+◌, ◌-◌, ◌*◌, ◌^◌, ◌≤◌}
use Rattle.format.specs.Kit.{mul-zero, mul-suc, pow-succ', add_comm, arith, eqb, length, length-append}
use Rattle.format.specs.Bytes.{digits, low, high, bytes_of, count_from}
use Rattle.format.specs.Ids.{Run, Kind, sparse, dense, all, kind_of, by_kind, rank_bytes, data_bytes, block_bytes, bitmap, count_below, rank_table, block_data}
use Rattle.format.specs.Ids.{block_of, end_block, Entry, entry_bytes, jumps, blocks, id_section, runs}
use Rattle.format.specs.Runs.{total_bytes}
use Rattle.laws.proofs.Digits.{length_digits, length_high}

pub length_bytes_of_lem : {A : Type 0} (k : ℕ) (f : A → List ℕ) → ((x : A) → length (f x) ≡ k) → (xs : List A) → length (bytes_of f xs) ≡ k * length xs
unfolding bytes_of
length_bytes_of_lem k f h [] = sym (mul-zero k)
length_bytes_of_lem k f h (x ∷ xs) =
    length-append (f x) (bytes_of f xs) ∙ ap₂ ◌+◌ (h x) (length_bytes_of_lem k f h xs) ∙ add_comm k (k * length xs) ∙ sym (mul-suc k (length xs))

pub length_count_from : (k a : ℕ) → length (count_from k a) ≡ k
unfolding count_from
length_count_from zero a = refl
length_count_from (suc k) a = ap suc (length_count_from k (suc a))

-- a rank table's bytes, for p to 16
pub length_rank_table : (p : ℕ) (rs : List ℕ) → p ≤ 16 → length (rank_table p rs) ≡ rank_bytes p
unfolding rank_table rank_bytes
length_rank_table p rs h = go (eqb p 0) refl
  where
    go : (t : Bool) → eqb p 0 ≡ t → length (rank_table p rs) ≡ rank_bytes p
    go true e = rw e
    go false e =
        let twice : 2 ^ (17 - p) ≡ 2 * 2 ^ (16 - p) = ap (λ (n : ℕ). 2 ^ n) (omega arith) ∙ pow-succ' 2 (16 - p) in
        rw e
        (length_bytes_of_lem 2 (λ s. high 2 (count_below (s * 2 ^ p) rs)) (λ s. length_high 2 (count_below (s * 2 ^ p) rs)) _
        ∙ ap (λ (n : ℕ). 2 * n) (length_count_from _ 0) ∙ omega arith)

pub length_block_data : (p : ℕ) (rs : List ℕ) → p ≤ 16 → length (block_data p rs) ≡ data_bytes p (length rs)
unfolding block_data data_bytes by_kind
length_block_data p rs h = go (kind_of (length rs)) refl
  where
    go : (k : Kind) → kind_of (length rs) ≡ k → length (block_data p rs) ≡ data_bytes p (length rs)
    go sparse e = rw e (length_bytes_of_lem 2 (low 2) (λ x. length_digits 256 2 x) rs)
    go dense e = rw e (length-append (rank_table p rs) (low 8192 (bitmap rs)) ∙ ap₂ ◌+◌ (length_rank_table p rs h) (length_digits 256 8192 (bitmap rs)))
    go all e = rw e

pub length_block_of : (p : ℕ) (g : Run) → p ≤ 16 → length (block_of p g) ≡ block_bytes p (length g.places)
unfolding block_of block_bytes digits
length_block_of p g h = rw (length_block_data p g.places h) (omega arith)

pub length_blocks : (p : ℕ) (gs : List Run) → p ≤ 16 → length (bytes_of (block_of p) gs) ≡ total_bytes p gs
unfolding bytes_of total_bytes
length_blocks p [] h = refl
length_blocks p (g ∷ gs) h =
    length-append (block_of p g) (bytes_of (block_of p) gs) ∙ ap₂ ◌+◌ (length_block_of p g h) (length_blocks p gs h)

pub entry_eight : (e : Entry) → length (entry_bytes e) ≡ 8
unfolding entry_bytes digits
entry_eight e = refl

pub length_id_section : (p : ℕ) (ids : List ℕ) → p ≤ 16 → length (id_section p ids) ≡ total_bytes p (runs ids) + (6 + 8 * length (jumps p ids))
unfolding id_section blocks end_block entry_bytes digits
length_id_section p ids h =
    length-append (bytes_of (block_of p) (runs ids)) (end_block ++ bytes_of entry_bytes (jumps p ids))
    ∙ ap₂ ◌+◌ (length_blocks p (runs ids) h)
    (rw (length-append end_block (bytes_of entry_bytes (jumps p ids)), length_bytes_of_lem 8 entry_bytes (λ e. refl) (jumps p ids)))
