-- Document 02, [9]: when a reason and a place are right, "the first faulty block's start and one reason"; "For jump entries the place is the first wrong or cut
-- one, or their beginning if the count is wrong; for left-overs the first such byte." Assumes nothing.
use Rattle.std.specs.Prelude.{◌+◌, ◌*◌, ◌<◌, ◌≡◌, ◌∷◌, ◌++◌}
use Rattle.format.specs.Kit.{ℕ, suc, List, some, length, take, drop}
use Rattle.format.specs.Limits.{max_id}
use Rattle.format.specs.Bytes.{bytes_of}
use Rattle.format.specs.Ids.{Entry, runs, jumps}
use Rattle.format.specs.Pairs.{Asc, Below}
use Rattle.format.specs.Runs.{total_bytes, end_of}
use Rattle.format.specs.Orders.{Order, block_in, end_in, entry_in}
use Rattle.format.specs.Judge.{jump_wrong, left_over, first_failed, tests_at}

-- the blocks before a place are those of a list of n ids within the limit, of numbers below `next`
pub record Before (o : Order) (p : ℕ) (s : List ℕ) (at n next : ℕ) : Type 0 where
  pub ids : List ℕ
  pub ascending : Asc 0 ids
  pub range : Below (suc max_id) ids
  pub bytes : s ≡ bytes_of (block_in o p) (runs ids) ++ drop at s
  pub place : at ≡ total_bytes p (runs ids)
  pub count : n ≡ length ids
  pub last : next ≡ end_of 0 (runs ids)

-- and the end block stands there
pub record Closed (o : Order) (p : ℕ) (s : List ℕ) (at n next : ℕ) : Type 0 where
  pub before : Before o p s at n next
  pub ends : drop at s ≡ end_in o ++ drop (at + 6) s

-- of the entries from a place on, those before `to` are there, and the one at `to` is wrong or cut
pub record Missed (o : Order) (s : List ℕ) (es : List Entry) (at to : ℕ) : Type 0 where
  pub front : List Entry
  pub entry : Entry
  pub back : List Entry
  pub split : es ≡ front ++ (entry ∷ back)
  pub bytes : drop at s ≡ bytes_of (entry_in o) front ++ drop to s
  pub place : to ≡ at + 8 * length front
  pub wrong : take 8 (drop to s) ≡ entry_in o entry → ⊥

-- why a section is faulty with a reason at a place
pub data Why (o : Order) (p j : ℕ) (s : List ℕ) (why to : ℕ) : Type 0 where
  -- a block: those before it are sound, and its first test that fails has this reason, so that the tests before that one hold
  block : (n next : ℕ) → Before o p s to n next → first_failed (tests_at o p s to next) ≡ some why → Why o p j s why to
  -- another entry count than the list's: the place is the entries' beginning
  count : (at n next : ℕ) (c : Closed o p s at n next) → why ≡ jump_wrong → to ≡ at + 6 → (j ≡ length (jumps p c.before.ids) → ⊥)
      → Why o p j s why to
  -- the first entry that is wrong or cut
  entry : (at n next : ℕ) (c : Closed o p s at n next) → why ≡ jump_wrong → j ≡ length (jumps p c.before.ids)
      → Missed o s (jumps p c.before.ids) (at + 6) to → Why o p j s why to
  -- all is there, and more: the first byte after the entries
  left : (at n next : ℕ) (c : Closed o p s at n next) → why ≡ left_over → j ≡ length (jumps p c.before.ids)
      → drop (at + 6) s ≡ bytes_of (entry_in o) (jumps p c.before.ids) ++ drop to s → to ≡ at + 6 + 8 * j → to < length s → Why o p j s why to
