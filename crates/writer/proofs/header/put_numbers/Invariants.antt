use Rattle.format.specs.Kit.{◌≡◌, ◌+◌, ◌≤◌, length, sets}
use Rattle.format.specs.Bytes.{bytes_of}
use Rattle.format.specs.HeaderNumbers.{number}
use Rattle.writer.proofs.Numbers.{rest}
use Rattle.writer.proofs.header.put_numbers.Given as goal

-- `writer::header::put_numbers` meets its contract. The numbers that are left, written from here on, give what all of them give.
-- Assumes nothing.
abbrev pub invariant-loop-n : goal.invariant-loop-n
invariant-loop-n l =
    (l.n-index ≤ length l.ns) × (length l.out ≡ length l.initial.out) × (l.i + length (rest l.ns l.n-index) ≡ length (bytes_of number l.ns))
    × (sets l.out l.i (rest l.ns l.n-index) ≡ sets l.initial.out 0 (bytes_of number l.ns))
