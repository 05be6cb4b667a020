use Rattle.format.specs.Kit.{◌≡◌, ◌+◌, ◌*◌, ◌≤◌, length}
use Rattle.format.specs.Bytes.{bytes_of}
use Rattle.format.specs.HeaderNumbers.{number}
use Rattle.writer.proofs.Numbers.{rest}
use Rattle.writer.proofs.header.numbers_len.Given as goal

-- `writer::header::numbers_len` meets its contract. The sum so far and the bytes of the numbers that are left are all the bytes.
-- Assumes nothing.
abbrev pub invariant-loop-n : goal.invariant-loop-n
invariant-loop-n l = (l.n-index ≤ length l.ns) × (l.sum ≤ 10 * l.n-index) × (l.sum + length (rest l.ns l.n-index) ≡ length (bytes_of number l.ns))
