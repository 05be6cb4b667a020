-- Ids that ascend in one block, and the entry of a sparse block to which one comes from that of the one before. Assumes nothing.
use Rattle.std.specs.Prelude.{◌≡◌, ◌+◌, ◌*◌, ◌/◌, ◌≤◌, ◌<◌}
use Rattle.format.specs.Kit.{List, ℕ, get_or}
use Rattle.format.specs.Limits.{block_places, max_id}
use Rattle.format.specs.Bytes.{low_at}
use Rattle.format.specs.Ids.{sparse, dense, kind_of}
use Rattle.format.specs.Opening.{Opened, id_part}
use Rattle.blocks.specs.declared.Block.{Block}
use Rattle.column.specs.Opened.{column_of}
use Rattle.column.specs.declared.Column.{Column}
use Rattle.lookup.specs.declared.Step as St
use Rattle.values.specs.declared.Edition as Ed
use Rattle.page.specs.Marks.{InBlock}

-- ids i to e (e not included)
abbrev pub Run : List ℕ → (i e : ℕ) → Type 0
Run ids i e = (k j : ℕ) → i ≤ k → k ≤ j → j < e → (get_or ids k 0 ≤ get_or ids j 0) × (get_or ids j 0 / block_places ≡ get_or ids k 0 / block_places)

-- ---- n entries at a place of s

-- they ascend
abbrev pub Climbs : List ℕ → (at n : ℕ) → Type 0
Climbs s at n = (q m : ℕ) → q < m → m < n → low_at 2 s (at + 2 * q) < low_at 2 s (at + 2 * m)

-- those before entry j are below r,
abbrev pub Ready : List ℕ → (at j r : ℕ) → Type 0
Ready s at j r = (q : ℕ) → q < j → low_at 2 s (at + 2 * q) < r

-- and entry j is not
abbrev pub Reached : List ℕ → (at n j r : ℕ) → Type 0
Reached s at n j r = (j ≤ n) × (Ready s at j r) × (j < n → r ≤ low_at 2 s (at + 2 * j))

-- both for a block of a column, if it is sparse
abbrev pub ReadyIn : List ℕ → Opened → Block → (j r : ℕ) → Type 0
ReadyIn bytes c k j r = kind_of k.count ≡ sparse → (j ≤ k.count) × (Ready (id_part bytes c) k.start j r)

abbrev pub ReachedIn : List ℕ → Opened → Block → (j r : ℕ) → Type 0
ReachedIn bytes c k j r = kind_of k.count ≡ sparse → Reached (id_part bytes c) k.start k.count j r

-- ---- the block of a run that an id is in

pub record Way (bytes : List ℕ) (column : Column) (id : ℕ) (k : Block) : Type 0 where
  pub in_limit : id ≤ max_id
  pub edition : column.head.edition ≡ Ed.Edition.Plain
  pub block : InBlock bytes (column_of column) (id / block_places) k
  pub not_dense : kind_of k.count ≡ dense → ⊥
  pub climbs : kind_of k.count ≡ sparse → Climbs (id_part bytes (column_of column)) k.start k.count

abbrev pub WayIs : List ℕ → Column → ℕ → St.Step → Type 0
WayIs bytes column id (St.Step.At k) = Way bytes column id k
WayIs bytes column id St.Step.Absent = Unit
WayIs bytes column id St.Step.Broken = Unit
