-- A run of the machine column's pairs, from place m of its buffer up to place k, in the lent lists from place i on. Lists afterwards have a '.
-- Assumes nothing.
use Rattle.std.specs.Prelude.{◌+◌, ◌-◌, ◌≤◌, ◌<◌, ◌≡◌}
use Rattle.format.specs.Kit.{ℕ, zero, suc, List, ℤ, length, get_or, set, sets, take, drop, replicate}

-- a pair in place i
pub record Put (i id : ℕ) (v : ℤ) (column : ℕ) (ids ids' : List ℕ) (vs vs' : List ℤ) (cs cs' : List ℕ) : Type 0 where
  pub in_ids : ids' ≡ set ids i id
  pub in_values : vs' ≡ set vs i v
  pub in_columns : cs' ≡ set cs i column

-- a buffer up to place `end`, and lists with as many places from i on as it has pairs from m on
pub record RunRoom (i m end : ℕ) (mi : List ℕ) (mv : List ℤ) (ids : List ℕ) (vs : List ℤ) (cs : List ℕ) : Type 0 where
  pub from : m ≤ end
  pub in_buffer : end ≤ length mi
  pub in_buffer_values : end ≤ length mv
  pub in_ids : i + (end - m) ≤ length ids
  pub in_values : i + (end - m) ≤ length vs
  pub in_columns : i + (end - m) ≤ length cs

-- the pairs are in the lists, and the last of them is below the id
pub record RunTo (i m end id k : ℕ) (mi : List ℕ) (mv : List ℤ) (ids ids' : List ℕ) (vs vs' : List ℤ) (cs cs' : List ℕ) : Type 0 where
  pub from : m ≤ k
  pub upto : k ≤ end
  pub below : m < k → get_or mi (k - 1) 0 < id
  pub in_ids : ids' ≡ sets ids i (take (k - m) (drop m mi))
  pub in_values : vs' ≡ sets vs i (take (k - m) (drop m mv))
  pub in_columns : cs' ≡ sets cs i (replicate (k - m) 0)

-- the target after n pairs from place a on
unfoldable pub run_target : ℕ → ℕ → List ℕ → ℕ → ℕ
run_target t zero mi a = t
run_target t (suc n) mi a = suc (get_or mi (a + n) 0)
