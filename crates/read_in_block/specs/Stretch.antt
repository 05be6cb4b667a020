-- The pairs of one block from a place on. Assumes nothing.
use Rattle.std.specs.Prelude.{◌+◌, ◌-◌, ◌*◌, ◌/◌, ◌%◌, ◌^◌, ◌≤◌, ◌<◌, ◌≡◌, ◌⊎◌}
use Rattle.format.specs.Kit.{ℕ, zero, suc, Bool, true, false, List, ℤ, length, ones_in}
use Rattle.format.specs.Limits.{max_block, block_places, bitmap_longs}
use Rattle.format.specs.Refusals.{refused, BROKEN}
use Rattle.format.specs.Bytes.{low_at}
use Rattle.format.specs.Ids.{kind_of, rank_bytes, data_bytes}
use Rattle.format.specs.Opening.{Opened, id_part, head_ok, length_ok}
use Rattle.format.specs.LookUp.{scanned, place_at, answer, steps, ones_from, stride_long, stride_rank}
use Rattle.format.specs.Next.{next_steps}
use Rattle.format.specs.ReadFrom.{is_none}
use Rattle.blocks.specs.Kinds.{kind_is}
use Rattle.blocks.specs.declared.Block.{Block}
use Rattle.read_in_block.specs.Parts.{Reads}
use Rattle.read_in_block.specs.Rows.{bits_at, ones_ahead, place_after}
use Rattle.read_in_block.specs.declared.Stretch as We
use Rattle.read_in_block.specs.declared.dense.Longs as Lo
use Rattle.read_in_block.specs.declared.dense.Row as Ro

-- steps 1 to 4 led into block b, for each of its places
pub record InBlock (bytes : List ℕ) (c : Opened) (b : ℕ) (k : Block) : Type 0 where
  pub steps_left : (y : ℕ) → y < block_places → steps scanned bytes c (b * block_places + y)
      ≡ answer bytes c k.ordinal (place_at scanned c.head.power (id_part bytes c) k.start k.count y)
  pub number : b ≤ max_block
  pub kind : kind_is k.kind ≡ kind_of k.count
  pub data_end : k.start + data_bytes c.head.power k.count ≤ length (id_part bytes c)
  pub last : k.ordinal + k.count ≤ c.head.count

-- a column that keeps the header rules and fits its bytes, and lists with room for so many pairs, of which i are there
pub record Lent (bytes : List ℕ) (c : Opened) (room i : ℕ) (ids : List ℕ) (vs : List ℤ) : Type 0 where
  pub rules : head_ok c.head ≡ true
  pub whole : length_ok bytes c ≡ true
  pub in_ids : room ≤ length ids
  pub in_values : room ≤ length vs
  pub upto : i ≤ room

-- it stops where a step fails, where the lists are full, or after the block's last place
abbrev pub Stops : Bool → List ℕ → Opened → ℕ → ℕ → ℕ → ℕ → Type 0
Stops true bytes c room b i r = next_steps bytes c (b * block_places + r) ≡ refused BROKEN 0
Stops false bytes c room b i r = (i ≡ room) ⊎ (r ≡ block_places)

-- from place r of block b on
pub record StretchTo (bytes : List ℕ) (c : Opened) (room b i r : ℕ) (ids : List ℕ) (vs : List ℤ) (w : We.Stretch) (ids' : List ℕ) (vs' : List ℤ) : Type 0 where
  pub reads : Reads bytes c room i (b * block_places + r) ids vs w.count (b * block_places + w.place) ids' vs'
  pub place : w.place ≤ block_places
  pub left : w.left ≡ true → is_none (next_steps bytes c (b * block_places + w.place)) ≡ false
  pub stops : Stops w.broken bytes c room b w.count w.place

-- ---- a dense block's longs

-- the ids of the block before long k, by the rank of its stride
abbrev pub before_long : ℕ → List ℕ → ℕ → ℕ → ℕ
before_long p s t k =
    stride_rank p s t (64 * k) + ones_from s (t + rank_bytes p) (k - stride_long p (64 * k)) (stride_long p (64 * k))

abbrev pub long_at : ℕ → List ℕ → ℕ → ℕ → ℕ
long_at p s t k = low_at 8 s (t + rank_bytes p + 8 * k)

-- at place r of long k or after it: the bits from there on, and the index of the first id there
pub record InLong (p : ℕ) (s : List ℕ) (t k r rest inner : ℕ) : Type 0 where
  pub long_most : k < bitmap_longs
  pub from : 64 * k ≤ r
  pub most : r ≤ 64 * k + 64
  pub small : long_at p s t k < 2 ^ 64
  pub rest_is : rest ≡ long_at p s t k / 2 ^ (r - 64 * k)
  pub index : inner ≡ before_long p s t k + ones_in 64 (long_at p s t k % 2 ^ (r - 64 * k))

-- from place r on, whose index is `inner`, in its long: up to a failed step, as far as the lists have room, or all of them
pub record LongTo (bytes : List ℕ) (c : Opened) (room b : ℕ) (x : Block) (i r inner : ℕ) (ids : List ℕ) (vs : List ℤ) (w : We.Stretch) (ids' : List ℕ)
    (vs' : List ℤ) : Type 0 where
  pub reads : Reads bytes c room i (b * block_places + r) ids vs w.count (b * block_places + w.place) ids' vs'
  pub place : w.place ≤ block_places
  pub failure : w.broken ≡ true → next_steps bytes c (b * block_places + w.place) ≡ refused BROKEN 0
  pub whole : w.broken ≡ false → (w.count ≡ room → ⊥) → let k = r / 64 in let s = id_part bytes c in let p = c.head.power in
      (inner + (w.count - i) ≡ before_long p s x.start k + ones_in 64 (long_at p s x.start k))
      × (next_steps bytes c (b * block_places + (64 * k + 64)) ≡ next_steps bytes c (b * block_places + w.place))
  pub index : (w.count ≡ i) ⊎ (inner + (w.count - i) ≤ x.count)

-- ---- whole longs of a dense block

-- n longs, from place r of long k on, whose ids follow each other from index `inner` on
abbrev pub InLongs : ℕ → List ℕ → ℕ → ℕ → ℕ → ℕ → ℕ → Type 0
InLongs p s t zero k r inner = k ≡ k
InLongs p s t (suc n) k r inner =
    let rest : ℕ = bits_at s (t + rank_bytes p) k r in
    InLong p s t k r rest inner × InLongs p s t n (suc k) (64 * suc k) (inner + ones_in 64 rest)

-- from place r on, whose index is `inner`: so many longs, with at most so many ids
pub record LongsTo (p : ℕ) (s : List ℕ) (t r inner most : ℕ) (w : Lo.Longs) : Type 0 where
  pub number : ℕ
  pub upto : r / 64 + number ≤ bitmap_longs
  pub follow : InLongs p s t number (r / 64) r inner
  pub ones : w.ones ≡ ones_ahead s (t + rank_bytes p) number (r / 64) r
  pub few : w.ones ≤ most
  pub place : w.place ≡ place_after number (r / 64) r

-- from place r on, up to a failed step or not
pub record WholeTo (bytes : List ℕ) (c : Opened) (room b i r : ℕ) (ids : List ℕ) (vs : List ℤ) (w : Ro.Row) (ids' : List ℕ) (vs' : List ℤ) : Type 0 where
  pub reads : Reads bytes c room i (b * block_places + r) ids vs w.count (b * block_places + w.place) ids' vs'
  pub place : w.place ≤ block_places
  pub failure : w.broken ≡ true → next_steps bytes c (b * block_places + w.place) ≡ refused BROKEN 0
