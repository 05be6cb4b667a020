-- A block stands at a place of an id section: what is read there, and what stands after it. Blocks that stand at a place, up to the
-- end block, are what every loop over blocks keeps. Assumes nothing.
use Rattle.format.specs.Kit.{◌≡◌, sym, ap, ◌∙◌, List, [], ◌∷◌, ◌++◌, append_assoc, ℕ, zero, suc, ◌+◌, ◌-◌, ◌*◌, ◌<◌, ◌≤◌, add-zero, arith, length, get_or, take}
use Rattle.format.specs.Kit.{drop}
use Rattle.format.specs.Kit.{length-append, length-drop, drop_at, drop-drop}
use Rattle.format.specs.Limits.{block_places, end_number}
use Rattle.format.specs.Bytes.{from_low, from_digits, bytes_of, low_at}
use Rattle.format.specs.Ids.{Run, block_bytes, block_of, block_data, end_block}
use Rattle.format.specs.IdsRead.{places_in, shorts}
use Rattle.laws.proofs.Section.{length_block_of, length_blocks}
use Rattle.laws.proofs.Blocks.{the_number, the_count, the_data, count_fits, places_back}
use Rattle.format.specs.Runs.{total_bytes, Fine, AllFine}

-- ---- one block

module _ (s : List ℕ) (at p : ℕ) (g : Run) (rest : List ℕ) (hp : p ≤ 16) (fine : Fine g) (here : drop at s ≡ block_of p g ++ rest) where
  pub number_read : low_at 2 s at ≡ g.block
  unfolding low_at
  number_read = ap (λ (l : List ℕ). from_low (take 2 l)) here ∙ the_number 0 p g rest hp fine

  pub count_read : low_at 2 s (at + 2) + 1 ≡ length g.places
  unfolding low_at
  count_read =
      let e : from_low (take 2 (drop (at + 2) s)) ≡ from_low (take 2 (drop 2 (block_of p g ++ rest))) =
      ap (λ (l : List ℕ). from_low (take 2 l)) (sym (drop-drop 2 at s) ∙ ap (drop 2) here) in
      omega (arith, the_count 0 p g rest hp fine)

  pub data_read : drop (at + 4) s ≡ block_data p g.places ++ rest
  data_read = sym (drop-drop 4 at s) ∙ ap (drop 4) here ∙ the_data 0 p g rest hp fine

  pub places_read_lem : places_in p (length g.places) (drop (at + 4) s) ≡ g.places
  places_read_lem = ap (places_in p (length g.places)) data_read ∙ places_back p g.places rest hp fine.ascending fine.inside

  pub next_read : drop (at + block_bytes p (length g.places)) s ≡ rest
  next_read =
      let n : ℕ = block_bytes p (length g.places) in
      sym (drop-drop n at s) ∙ ap (drop n) here ∙ drop_at (block_of p g) rest n (length_block_of p g hp)

pub end_read : (s : List ℕ) (at : ℕ) (rest : List ℕ) → drop at s ≡ end_block ++ rest → low_at 2 s at ≡ end_number
unfolding low_at end_block from_digits
end_read s at rest here = ap (λ (l : List ℕ). from_low (take 2 l)) here

-- ---- the entries of a sparse block, one after the other

pub short_next : (s : List ℕ) (t c i : ℕ) → i < c
    → shorts (c - i) (drop (t + 2 * i) s) ≡ low_at 2 s (t + 2 * i) ∷ shorts (c - (i + 1)) (drop (t + 2 * (i + 1)) s)
unfolding shorts low_at
short_next s t c i h =
    let e : c - i ≡ suc (c - (i + 1)) = omega arith in
    let f : t + 2 * i + 2 ≡ t + 2 * (i + 1) = omega arith in
    rw (e, drop-drop 2 (t + 2 * i) s, f)

-- entry i of a sparse block
pub short_at : (c i at : ℕ) (s : List ℕ) → i < c → get_or (shorts c (drop at s)) i 0 ≡ low_at 2 s (at + 2 * i)
unfolding shorts low_at
short_at zero i at s h = absurd (omega arith)
short_at (suc c) zero at s h = rw (add-zero at)
short_at (suc c) (suc i) at s h =
    let e : at + 2 + 2 * i ≡ at + 2 * suc i = omega arith in
    rw (drop-drop 2 at s) (short_at c i (at + 2) s (omega arith) ∙ rw e)

-- ---- blocks, up to the end block

pub record Stands (p : ℕ) (s : List ℕ) (at : ℕ) (gs : List Run) (rest : List ℕ) : Type 0 where
  pub fine : AllFine gs
  pub bytes : drop at s ≡ bytes_of (block_of p) gs ++ (end_block ++ rest)

-- the first of them, and those after it
pub record Ahead (p : ℕ) (s : List ℕ) (at : ℕ) (g : Run) (gs : List Run) (rest : List ℕ) : Type 0 where
  pub fine : Fine g
  pub here : drop at s ≡ block_of p g ++ (bytes_of (block_of p) gs ++ (end_block ++ rest))
  pub number : low_at 2 s at ≡ g.block
  pub count : low_at 2 s (at + 2) + 1 ≡ length g.places
  pub few : length g.places ≤ block_places
  pub its_data : drop (at + 4) s ≡ block_data p g.places ++ (bytes_of (block_of p) gs ++ (end_block ++ rest))
  pub places : places_in p (length g.places) (drop (at + 4) s) ≡ g.places
  pub inside : at + block_bytes p (length g.places) + 6 ≤ length s
  pub after : Stands p s (at + block_bytes p (length g.places)) gs rest

end_six : (rest : List ℕ) → length (end_block ++ rest) ≡ 6 + length rest
unfolding end_block
end_six rest = omega arith

module _ (p : ℕ) (hp : p ≤ 16) (s : List ℕ) (at : ℕ) (rest : List ℕ) where
  pub stands_long : (gs : List Run) → Stands p s at gs rest → at + total_bytes p gs + 6 + length rest ≡ length s
  stands_long gs t =
      omega (
        arith,
        length-drop at s,
        ap length t.bytes,
        length-append (bytes_of (block_of p) gs) (end_block ++ rest),
        length_blocks p gs hp,
        end_six rest,
      )

  pub ahead : (g : Run) (gs : List Run) → Stands p s at (g ∷ gs) rest → Ahead p s at g gs rest
  unfolding bytes_of total_bytes
  ahead g gs t =
      let more : List ℕ = bytes_of (block_of p) gs ++ (end_block ++ rest) in
      let fine : Fine g = t.fine.0 in
      let here : drop at s ≡ block_of p g ++ more = t.bytes ∙ append_assoc (block_of p g) (bytes_of (block_of p) gs) (end_block ++ rest) in
      record {
        fine = fine;
        here = here;
        number = number_read s at p g more hp fine here;
        count = count_read s at p g more hp fine here;
        few = count_fits 0 p g more hp fine;
        its_data = data_read s at p g more hp fine here;
        places = places_read_lem s at p g more hp fine here;
        inside = omega (arith, stands_long (g ∷ gs) t);
        after = record { fine = t.fine.1; bytes = next_read s at p g more hp fine here };
      }

  pub end_number_lem : Stands p s at [] rest → low_at 2 s at ≡ end_number
  unfolding bytes_of
  end_number_lem t = end_read s at rest t.bytes
