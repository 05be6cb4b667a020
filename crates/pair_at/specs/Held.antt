-- The block that holds an ordinal, and the place with an index there. Assumes nothing.
use Rattle.std.specs.Prelude as Std
use Rattle.std.specs.Prelude.{Some, None, ◌+◌, ◌-◌, ◌*◌, ◌^◌, ◌≤◌, ◌<◌, ◌≡◌, ◌&&◌, ◌||◌, MatchOption}
use Rattle.format.specs.Kit.{ℕ, cond, true, false, List, Option, none, some, leb, eqb, length}
use Rattle.format.specs.Limits.{max_block, block_places}
use Rattle.format.specs.Refusals.{Outcome, refused, and_then, given, done, BROKEN}
use Rattle.format.specs.Bytes.{low_at, high_at}
use Rattle.format.specs.Ids.{kind_of, data_bytes}
use Rattle.format.specs.Opening.{Opened, id_part, value_of}
use Rattle.format.specs.Next.{Candidate, candidate_at}
use Rattle.blocks.specs.Kinds.{kind_is}
use Rattle.blocks.specs.declared.Block.{Block}
use Rattle.lookup.specs.declared.Ask.{Ask}
use Rattle.next.specs.Blocks.{AskedOf}
use Rattle.format.specs.PairAt.{last_up_to, place_with, pair_steps}

-- ---- a place

-- the place, which is one of a block's
abbrev pub PlaceIs : Std.Option ℕ → Option ℕ → Type 0
PlaceIs r o = MatchOption r (o ≡ none) (λ y. (o ≡ some y) × (y < block_places))

-- the stride that holds index i, and how many places a stride has
abbrev pub stride_of : ℕ → List ℕ → ℕ → ℕ → ℕ
stride_of p s t i = cond (eqb p 0) 0 (last_up_to (λ q. high_at 2 s (t + 2 * q)) i (2 ^ (16 - p)))

abbrev pub stride_places : ℕ → ℕ
stride_places p = cond (eqb p 0) block_places (2 ^ p)

-- ---- a block

-- the number of the block whose head stands at t, or that it is out of place or none of those that it can be
abbrev pub number_ok : List ℕ → ℕ → ℕ → ℕ → ℕ → Type 0
number_ok s a j b t = (leb (t + 4) a ≡ true) × ((leb (low_at 2 s t) max_block && (eqb j 0 || eqb (low_at 2 s t) b)) ≡ true)

abbrev pub NumberAt : List ℕ → ℕ → ℕ → ℕ → ℕ → Std.Option ℕ → Type 0
NumberAt s a j b t None = (leb (t + 4) a && (leb (low_at 2 s t) max_block && (eqb j 0 || eqb (low_at 2 s t) b))) ≡ false
NumberAt s a j b t (Some r) = number_ok s a j b t × (r ≡ low_at 2 s t) × (t + 4 ≤ a) × (r ≤ max_block)

-- what is left: the place, and then step 7
abbrev pub pair_left : List ℕ → Opened → ℕ → ℕ → Option ℕ → Outcome Candidate
pair_left bytes c ordinal k o =
    and_then (given o BROKEN 0) (λ r. and_then (given (value_of bytes c ordinal) BROKEN 0) (λ v. done (candidate_at (k * block_places + r) ordinal v)))

pub record HeldIn (s : List ℕ) (q : Ask) (ordinal k : ℕ) (x : Block) : Type 0 where
  pub steps_left : (bytes : List ℕ) (c : Opened) → AskedOf c q → id_part bytes c ≡ s
      → pair_steps bytes c ordinal ≡ pair_left bytes c ordinal k (place_with q.power s x.start x.count (ordinal - x.ordinal))
  pub number : k ≤ max_block
  pub kind : kind_is x.kind ≡ kind_of x.count
  pub many : x.count ≤ block_places
  pub data_end : x.start + data_bytes q.power x.count ≤ length s
  pub from : x.ordinal ≤ ordinal
  pub below : ordinal < x.ordinal + x.count

-- of any column with this id section
abbrev pub HeldAs : List ℕ → Ask → ℕ → Std.Option (ℕ × Block) → Type 0
HeldAs s q ordinal (Some x) = HeldIn s q ordinal x.0 x.1
HeldAs s q ordinal None = (bytes : List ℕ) (c : Opened) → AskedOf c q → id_part bytes c ≡ s → pair_steps bytes c ordinal ≡ refused BROKEN 0
