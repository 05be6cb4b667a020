-- Blocks that stand at a place of a section, in either byte order: what is read there, and what stands after them. Assumes nothing.
use Rattle.format.specs.Kit.{◌≡◌, refl, sym, ap, ap₂, ◌∙◌, List, [], ◌∷◌, ◌++◌, append_assoc, ℕ, suc, ◌+◌, ◌-◌, ◌*◌, ◌<◌, ◌≤◌, arith, length, take, drop}
use Rattle.format.specs.Kit.{lit<, length-append, length-drop, take_at, drop_at, drop-drop}
use Rattle.format.specs.Limits.{block_places, end_number}
use Rattle.format.specs.Bytes.{bytes_of}
use Rattle.format.specs.Ids.{Run, Entry, Kind, sparse, dense, all, kind_of, by_kind, rank_bytes, data_bytes, block_bytes, rank_table, bitmap}
use Rattle.format.specs.Runs.{total_bytes, Fine, AllFine}
use Rattle.format.specs.Orders.{Order, bytes_in, number_in, fixed_at, longs_in, block_data_in, block_in, end_in, entry_in}
use Rattle.laws.proofs.Blocks.{count_fits}
use Rattle.laws.proofs.Section.{length_bytes_of_lem, length_rank_table}
use Rattle.judge.proofs.Numbers.{length_in, number_back}
use Rattle.judge.proofs.Longs.{longs_long}

-- ---- lengths

pub entry_eight : (o : Order) (e : Entry) → length (entry_in o e) ≡ 8
unfolding entry_in
entry_eight o e = length-append (bytes_in o 4 e.0) (bytes_in o 4 e.1) ∙ ap₂ ◌+◌ (length_in o 4 e.0) (length_in o 4 e.1)

pub end_six : (o : Order) → length (end_in o) ≡ 6
unfolding end_in
end_six o =
    length-append (bytes_in o 2 end_number ++ bytes_in o 2 0) (bytes_in o 2 65535)
    ∙ ap₂ ◌+◌ (length-append (bytes_in o 2 end_number) (bytes_in o 2 0) ∙ ap₂ ◌+◌ (length_in o 2 end_number) (length_in o 2 0)) (length_in o 2 65535)

module _ (o : Order) (p : ℕ) (hp : p ≤ 16) where
  length_data_in : (rs : List ℕ) → length (block_data_in o p rs) ≡ data_bytes p (length rs)
  unfolding block_data_in data_bytes by_kind
  length_data_in rs = go (kind_of (length rs))
    where
      go : (k : Kind)
          → length (by_kind k (bytes_of (bytes_in o 2) rs) (rank_table p rs ++ longs_in o (bitmap rs)) []) ≡ by_kind k (2 * length rs) (rank_bytes p + 8192) 0
      go sparse = length_bytes_of_lem 2 (bytes_in o 2) (length_in o 2) rs
      go dense = length-append (rank_table p rs) (longs_in o (bitmap rs)) ∙ ap₂ ◌+◌ (length_rank_table p rs hp) (longs_long o (bitmap rs))
      go all = refl

  pub length_block_in : (g : Run) → length (block_in o p g) ≡ block_bytes p (length g.places)
  unfolding block_in block_bytes
  length_block_in g =
      let a : List ℕ = bytes_in o 2 g.block in
      let b : List ℕ = bytes_in o 2 (length g.places - 1) in
      length-append (a ++ b) (block_data_in o p g.places)
      ∙ ap₂ ◌+◌ (length-append a b ∙ ap₂ ◌+◌ (length_in o 2 g.block) (length_in o 2 (length g.places - 1))) (length_data_in g.places)

  pub length_blocks_in : (gs : List Run) → length (bytes_of (block_in o p) gs) ≡ total_bytes p gs
  unfolding bytes_of total_bytes
  length_blocks_in [] = refl
  length_blocks_in (g ∷ gs) = length-append (block_in o p g) (bytes_of (block_in o p) gs) ∙ ap₂ ◌+◌ (length_block_in g) (length_blocks_in gs)

-- ---- one block

pub shape : (o : Order) (p : ℕ) (g : Run) (rest : List ℕ)
    → block_in o p g ++ rest ≡ bytes_in o 2 g.block ++ (bytes_in o 2 (length g.places - 1) ++ (block_data_in o p g.places ++ rest))
unfolding block_in
shape o p g rest = simp append_assoc

-- blocks at a place, and what follows them
pub record BlocksAt (o : Order) (p : ℕ) (s : List ℕ) (at : ℕ) (gs : List Run) (rest : List ℕ) : Type 0 where
  pub fine : AllFine gs
  pub bytes : drop at s ≡ bytes_of (block_in o p) gs ++ rest

-- the first of them, and those after it
pub record Ahead (o : Order) (p : ℕ) (s : List ℕ) (at : ℕ) (g : Run) (gs : List Run) (rest : List ℕ) : Type 0 where
  pub fine : Fine g
  pub few : length g.places ≤ block_places
  pub number : fixed_at o 2 s at ≡ g.block
  pub count : suc (fixed_at o 2 s (at + 2)) ≡ length g.places
  pub its_data : drop (at + 4) s ≡ block_data_in o p g.places ++ (bytes_of (block_in o p) gs ++ rest)
  pub inside : at + block_bytes p (length g.places) ≤ length s
  pub after : BlocksAt o p s (at + block_bytes p (length g.places)) gs rest

-- what stands at a place is within the bytes
pub within : (s : List ℕ) (at n : ℕ) (l : List ℕ) → drop at s ≡ l → n ≤ length l → 0 < n → at + n ≤ length s
within s at n l e h pos = omega (arith, ap length e, length-drop at s)

module _ (o : Order) (p : ℕ) (hp : p ≤ 16) (s : List ℕ) (at : ℕ) where
  module _ (g : Run) (rest : List ℕ) (fine : Fine g) (here : drop at s ≡ block_in o p g ++ rest) where
    abbrev c : ℕ
    c = length g.places

    few : c ≤ 65536
    few = count_fits 0 p g rest hp fine

    abbrev tail : List ℕ
    tail = block_data_in o p g.places ++ rest

    two : drop (at + 2) s ≡ bytes_in o 2 (c - 1) ++ tail
    two =
        sym (drop-drop 2 at s) ∙ ap (drop 2) (here ∙ shape o p g rest)
        ∙ drop_at (bytes_in o 2 g.block) (bytes_in o 2 (c - 1) ++ tail) 2 (length_in o 2 g.block)

    pub number_read : fixed_at o 2 s at ≡ g.block
    unfolding fixed_at
    number_read =
        let lt : g.block < 65536 = omega (arith, fine.number) in
        ap (λ (l : List ℕ). number_in o (take 2 l)) (here ∙ shape o p g rest)
        ∙ ap (number_in o) (take_at (bytes_in o 2 g.block) (bytes_in o 2 (c - 1) ++ tail) 2 (length_in o 2 g.block)) ∙ number_back o 2 g.block lt

    pub count_read : suc (fixed_at o 2 s (at + 2)) ≡ c
    unfolding fixed_at
    count_read =
        let lt : c - 1 < 65536 = omega (arith, few) in
        let e : number_in o (take 2 (drop (at + 2) s)) ≡ c - 1 =
        ap (λ (l : List ℕ). number_in o (take 2 l)) two
        ∙ ap (number_in o) (take_at (bytes_in o 2 (c - 1)) tail 2 (length_in o 2 (c - 1))) ∙ number_back o 2 (c - 1) lt in
        omega (arith, fine.some_place)

    pub data_read : drop (at + 4) s ≡ tail
    data_read =
        let e : at + 2 + 2 ≡ at + 4 = omega arith in
        ap (λ (n : ℕ). drop n s) (sym e) ∙ sym (drop-drop 2 (at + 2) s) ∙ ap (drop 2) two
        ∙ drop_at (bytes_in o 2 (c - 1)) tail 2 (length_in o 2 (c - 1))

    next_read : drop (at + block_bytes p c) s ≡ rest
    next_read =
        sym (drop-drop (block_bytes p c) at s) ∙ ap (drop (block_bytes p c)) here ∙ drop_at (block_in o p g) rest (block_bytes p c) (length_block_in o p hp g)

  pub ahead : (g : Run) (gs : List Run) (rest : List ℕ) → BlocksAt o p s at (g ∷ gs) rest → Ahead o p s at g gs rest
  unfolding bytes_of block_bytes
  ahead g gs rest t =
      let more : List ℕ = bytes_of (block_in o p) gs ++ rest in
      let fine : Fine g = t.fine.0 in
      let here : drop at s ≡ block_in o p g ++ more = t.bytes ∙ append_assoc (block_in o p g) (bytes_of (block_in o p) gs) rest in
      record {
        fine = fine;
        few = count_fits 0 p g more hp fine;
        number = number_read g more fine here;
        count = count_read g more fine here;
        its_data = data_read g more fine here;
        inside =
            within s at (block_bytes p (length g.places)) (block_in o p g ++ more) here
            (omega (arith, length-append (block_in o p g) more, length_block_in o p hp g)) (omega arith);
        after = record { fine = t.fine.1; bytes = next_read g more fine here };
      }

-- the end block at a place
pub end_read : (o : Order) (s : List ℕ) (at : ℕ) (rest : List ℕ) → drop at s ≡ end_in o ++ rest → fixed_at o 2 s at ≡ end_number
unfolding fixed_at end_in
end_read o s at rest here =
    ap (λ (l : List ℕ). number_in o (take 2 l)) (here ∙ apart)
    ∙ ap (number_in o) (take_at (bytes_in o 2 end_number) (bytes_in o 2 0 ++ (bytes_in o 2 65535 ++ rest)) 2 (length_in o 2 end_number))
    ∙ number_back o 2 end_number (lit< tt)
  where
    apart : end_in o ++ rest ≡ bytes_in o 2 end_number ++ (bytes_in o 2 0 ++ (bytes_in o 2 65535 ++ rest))
    apart = simp append_assoc
