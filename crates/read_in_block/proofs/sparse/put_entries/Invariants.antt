use Rattle.format.specs.Kit.{◌≡◌, ℕ, ◌+◌, ◌-◌, ◌*◌}
use Rattle.format.specs.Stores.{Fill}
use Rattle.format.specs.ReadFrom.{id_after}
use Rattle.read_in_block.specs.Rows.{entries_from}
use Rattle.read_in_block.proofs.sparse.put_entries.Given as goal

-- `read_in_block::sparse::put_entries` meets its contract. Invariant: what is left are the entries from j and as many as are stored on. Assumes nothing.
abbrev pub invariant-loop-i : goal.invariant-loop-i
invariant-loop-i l =
    let k : ℕ = l.j + (l.i - l.from) in
    Fill l.initial.ids l.from (entries_from l.s l.t l.b l.j (l.end - l.from)) l.ids l.i (entries_from l.s l.t l.b k (l.end - l.i))
    × (id_after (l.b * 65536 + l.y) (entries_from l.s l.t l.b k (l.end - l.i)) ≡ id_after (l.b * 65536 + l.r) (entries_from l.s l.t l.b l.j (l.end - l.from)))
