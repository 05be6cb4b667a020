-- The ends of a byte string. Assumes nothing.
use Rattle.std.specs.Prelude.{◌≡◌, ◌-◌, ◌*◌, ◌≤◌}
use Rattle.format.specs.Kit.{List, ℕ, length}
use Rattle.format.specs.Bytes.{low_at}
use Rattle.packing.specs.declared.Ends.{Ends}

-- the first k bytes of s and its last k, which are all of them
pub record EndsOf (s : List ℕ) (e : Ends) : Type 0 where
  pub front : e.front ≡ low_at e.k s 0
  pub back : e.back ≡ low_at e.k s (length s - e.k)
  pub some : 1 ≤ e.k
  pub few : e.k ≤ 8
  pub inside : e.k ≤ length s
  pub all : length s ≤ 2 * e.k
