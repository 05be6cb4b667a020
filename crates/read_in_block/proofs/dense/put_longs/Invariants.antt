use Rattle.format.specs.Kit.{◌≡◌, List, ℕ, ◌+◌, ◌-◌, ◌*◌, ◌/◌, ◌≤◌, length, take}
use Rattle.format.specs.Ids.{rank_bytes}
use Rattle.format.specs.Stores.{Fill}
use Rattle.format.specs.ReadFrom.{id_after}
use Rattle.read_in_block.specs.Rows.{longs_from}
use Rattle.read_in_block.proofs.HeldBits.{Held}
use Rattle.read_in_block.proofs.dense.put_longs.Given as goal

-- after it. Assumes nothing.
-- what is left, for places i to end, and the place after the last id so far
pub record Left (p : ℕ) (s : List ℕ) (t b end : ℕ) (ids₀ : List ℕ) (from : ℕ) (whole : List ℕ) (u k bits : ℕ) (ids : List ℕ) (y i : ℕ) : Type 0 where
  pub left : List ℕ
  pub held : Held p s t b k bits left
  pub most : end - i ≤ length left
  pub fill : Fill ids₀ from whole ids i (take (end - i) left)
  pub after : id_after (b * 65536 + y) (take (end - i) left) ≡ u

abbrev pub invariant-loop-i : goal.invariant-loop-i
invariant-loop-i l =
    let whole : List ℕ = take (l.end - l.from) (longs_from l.s (l.t + rank_bytes l.p) l.b (1024 - l.r / 64) (l.r / 64) l.r) in
    (l.from ≤ l.i) × (l.i ≤ l.end) × (l.y ≤ 65536) × Left l.p l.s l.t l.b l.end l.initial.ids l.from whole (id_after (l.b * 65536 + l.r) whole) l.k l.bits l.ids l.y l.i

abbrev pub decreases-loop-i : goal.decreases-loop-i
decreases-loop-i l = (l.end - l.i) + (1024 - l.k)
