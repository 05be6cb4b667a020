use Rattle.format.specs.Kit.{◌≡◌, ℕ, ◌+◌, ◌-◌}
use Rattle.read_in_block.specs.Rows.{Rising}
use Rattle.read_in_block.proofs.sparse.rising.Given as goal

-- `read_in_block::sparse::rising` meets its contract. Invariant: entries that rise from `least` and entry k on rise from r and entry j on. Assumes nothing.
abbrev pub invariant-loop-k : goal.invariant-loop-k
invariant-loop-k l =
    ((n : ℕ) → Rising l.s l.t l.least l.k n → Rising l.s l.t l.r l.j (l.k - l.j + n)) × (l.k ≡ l.j → l.least ≡ l.r)
