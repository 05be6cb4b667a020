-- `packing::swapped` meets its contract: a byte's quotient is that of the byte before it, over 256. Assumes nothing.
use Rattle.format.specs.Kit.{◌≡◌, ℕ, ◌/◌, arith}
use Rattle.packing.specs.Turned.{turned}
use Rattle.packing.proofs.swapped.Goals as goal

pub returns : goal.returns
unfolding turned
returns c =
    let x : ℕ = c.args.x in
    let q2 : x / 65536 ≡ x / 256 / 256 = omega arith in
    let q3 : x / 16777216 ≡ x / 65536 / 256 = omega arith in
    let q4 : x / 4294967296 ≡ x / 16777216 / 256 = omega arith in
    let q5 : x / 1099511627776 ≡ x / 4294967296 / 256 = omega arith in
    let q6 : x / 281474976710656 ≡ x / 1099511627776 / 256 = omega arith in
    let q7 : x / 72057594037927936 ≡ x / 281474976710656 / 256 = omega arith in
    rw (← q2, ← q3, ← q4, ← q5, ← q6, ← q7) (omega (arith, c.swap_bytes.ensures))
