use Rattle.format.specs.Kit.{◌+◌, ◌-◌, ◌*◌}
use Rattle.format.specs.Stores.{Fill}
use Rattle.id_reader.specs.Placed.{word_bits}
use Rattle.id_reader.proofs.fill_words.Given as goal

-- `id_reader::fill_words` meets its contract: the ids that are left are the bits of n - i longs. Assumes nothing.
abbrev pub invariant-loop-i : goal.invariant-loop-i
invariant-loop-i l =
    Fill l.initial.ids l.at (word_bits l.n l.base l.s l.m) l.ids l.o (word_bits (l.n - l.i) (l.base + 64 * l.i) l.s (l.m + 8 * l.i))
