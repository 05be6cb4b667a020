-- The blocks of an id section, read back. Assumes nothing.
use Rattle.format.specs.Kit.{◌≡◌, refl, sym, ap, ◌∙◌, subst, List, [], ◌∷◌, ◌++◌, append_assoc, ℕ, zero, suc, ◌-◌, ◌^◌, ◌<◌, ◌≤◌, zero-le}
use Rattle.format.specs.Kit.{mod-eq_of_lt, arith, lit<, length, take, drop, drop_at, drop-drop, ne_eqb, le-ltb, lt-ltb}
use Rattle.format.specs.Bytes.{from_digits, low, from_low, bytes_of}
use Rattle.format.specs.Ids.{Run, sparse, dense, all, by_kind, kind_of, rank_bytes, block_bytes, bitmap, rank_table, block_data, block_of, end_block}
use Rattle.format.specs.IdsRead.{places_in, read_runs}
use Rattle.format.specs.Pairs.{Below, Asc}
use Rattle.format.specs.Runs.{Fine, AllFine}
use Rattle.laws.proofs.Cases.{below_or}
use Rattle.laws.proofs.Digits.{from_digits_lem}
use Rattle.laws.proofs.Places.{asc_length, bitmap_is, bits_lt, all_places, short_back, take_low, drop_low, shorts_back}
use Rattle.laws.proofs.SetBits.{bits_back}
use Rattle.laws.proofs.Section.{length_rank_table, length_block_of}

-- ---- kinds

pub kind_sparse : (c : ℕ) → c < 4096 → kind_of c ≡ sparse
unfolding kind_of
kind_sparse c h = rw (lt-ltb c 4096 h)

pub kind_dense : (c : ℕ) → 4096 ≤ c → c < 65536 → kind_of c ≡ dense
unfolding kind_of
kind_dense c h k = rw (le-ltb c 4096 h, lt-ltb c 65536 k)

pub kind_all : (c : ℕ) → 65536 ≤ c → kind_of c ≡ all
unfolding kind_of
kind_all c h = rw (le-ltb c 4096 (omega arith), le-ltb c 65536 h)

-- ---- one block

pub low_back : (k m : ℕ) → m < 256 ^ k → from_low (low k m) ≡ m
low_back k m h = from_digits_lem 256 k m (lit< tt) ∙ mod-eq_of_lt h

module _ (p : ℕ) (rs rest : List ℕ) (hp : p ≤ 16) (t : Asc 0 rs) (u : Below 65536 rs) where
  bitmap_lt : bitmap rs < 256 ^ 8192
  bitmap_lt = subst (λ (n : ℕ). n < 2 ^ 65536) (sym (bitmap_is rs)) (bits_lt 65536 0 rs t u)

  the_bits : take 8192 (drop (rank_bytes p) (rank_table p rs ++ low 8192 (bitmap rs) ++ rest)) ≡ low 8192 (bitmap rs)
  the_bits = simp (append_assoc, drop_at, length_rank_table, take_low)

  pub places_back : places_in p (length rs) (block_data p rs ++ rest) ≡ rs
  unfolding places_in block_data by_kind
  places_back =
      below_or (length rs) 4096
      (λ h. rw (kind_sparse (length rs) h) (shorts_back rs rest u))
      (λ h.
      below_or (length rs) 65536
      (λ k.
      rw (kind_dense (length rs) h k, the_bits, low_back 8192 (bitmap rs) bitmap_lt, bitmap_is rs, bits_back 65536 0 rs t u))
      (λ k. rw (kind_all (length rs) k) (sym (all_places 65536 0 rs t u (omega (arith, asc_length 0 65536 rs zero-le t u))))))

read_step : (f p k c : ℕ) (s d r : List ℕ) → from_low (take 2 s) ≡ k → suc (from_low (take 2 (drop 2 s))) ≡ c → drop 4 s ≡ d
    → drop (block_bytes p c) s ≡ r → (k ≡ 32767 → ⊥)
    → read_runs (suc f) p s ≡ record { block = k; places = places_in p c d } ∷ read_runs f p r
unfolding read_runs
read_step f p k c s d r ek ec ed er h = rw (ek, ec, ed, er, ne_eqb k 32767 h)

pub read_end : (f p : ℕ) (rest : List ℕ) → read_runs (suc f) p (end_block ++ rest) ≡ []
unfolding read_runs end_block from_digits
read_end f p rest = refl

module _ (f p : ℕ) (g : Run) (rest : List ℕ) (hp : p ≤ 16) (fine : Fine g) where
  pub shape : block_of p g ++ rest ≡ low 2 g.block ++ (low 2 (length g.places - 1) ++ (block_data p g.places ++ rest))
  unfolding block_of
  shape = simp append_assoc

  -- the count fits two bytes
  pub count_fits : length g.places ≤ 65536
  count_fits = omega (arith, asc_length 0 65536 g.places zero-le fine.ascending fine.inside)

  after_two : drop 2 (block_of p g ++ rest) ≡ low 2 (length g.places - 1) ++ (block_data p g.places ++ rest)
  after_two = ap (drop 2) shape ∙ drop_low 2 g.block (low 2 (length g.places - 1) ++ (block_data p g.places ++ rest))

  pub the_number : from_low (take 2 (block_of p g ++ rest)) ≡ g.block
  the_number =
      ap (λ (l : List ℕ). from_low (take 2 l)) shape
      ∙ ap from_low (take_low 2 g.block (low 2 (length g.places - 1) ++ (block_data p g.places ++ rest)))
      ∙ short_back g.block (omega (arith, fine.number))

  pub the_count : suc (from_low (take 2 (drop 2 (block_of p g ++ rest)))) ≡ length g.places
  the_count =
      let c : from_low (take 2 (drop 2 (block_of p g ++ rest))) ≡ length g.places - 1 =
      ap (λ (l : List ℕ). from_low (take 2 l)) after_two
      ∙ ap from_low (take_low 2 (length g.places - 1) (block_data p g.places ++ rest))
      ∙ short_back (length g.places - 1) (omega (arith, count_fits)) in
      omega (arith, fine.some_place)

  pub the_data : drop 4 (block_of p g ++ rest) ≡ block_data p g.places ++ rest
  the_data =
      sym (drop-drop 2 2 (block_of p g ++ rest)) ∙ ap (drop 2) after_two ∙ drop_low 2 (length g.places - 1) (block_data p g.places ++ rest)

  pub read_block : read_runs (suc f) p (block_of p g ++ rest) ≡ g ∷ read_runs f p rest
  read_block =
      read_step f p g.block (length g.places) (block_of p g ++ rest) (block_data p g.places ++ rest) rest the_number the_count the_data
      (drop_at (block_of p g) rest (block_bytes p (length g.places)) (length_block_of p g hp)) (λ e. omega (arith, fine.number))
      ∙ ap (λ (l : List ℕ). record { block = g.block; places = l } ∷ read_runs f p rest)
      (places_back p g.places rest hp fine.ascending fine.inside)

-- the blocks read back: any count above that of the runs will do
pub read_runs_lem : (f p : ℕ) (gs : List Run) (rest : List ℕ) → p ≤ 16 → AllFine gs → length gs < f
    → read_runs f p (bytes_of (block_of p) gs ++ (end_block ++ rest)) ≡ gs
unfolding bytes_of
read_runs_lem zero p gs rest hp t h = absurd (omega arith)
read_runs_lem (suc f) p [] rest hp t h = read_end f p rest
read_runs_lem (suc f) p (g ∷ gs) rest hp t h = search (arith, append_assoc, read_block, read_runs_lem f p gs rest hp t.1 (omega arith))
