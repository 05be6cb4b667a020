-- `block_writer::word_of` meets its contract. Assumes nothing.
use Rattle.format.specs.Kit.{pow_mono, pow-suc, suc, ◌%◌, ◌^◌, ◌≡◌, ℕ, length, subst, arith}
use Rattle.block_writer.specs.Part.{bits_from, Gone}
use Rattle.block_writer.proofs.Words.{done, at_end, past, more, low_bits}
use Rattle.block_writer.proofs.word_of.Goals as goal

pub returns-then-r-k : goal.returns-then-r-k
returns-then-r-k c =
    let inv = c.loop-m.invariant in
    done inv (past inv c.loop-m-test.true c.place_of-r.ensures.0 (λ e. omega (arith, c.if-r-k.true)))

pub overflow_add-bits : goal.overflow_add-bits
overflow_add-bits c =
    let p = c.place_of-r in
    let b = low_bits c.loop-m.invariant c.loop-m-test.true p.ensures.0 (omega arith) in
    omega (arith, pow_mono {i = suc (p.result % 64)} {j = 64} (omega arith), pow-suc 2 (p.result % 64))

pub loop-m-preserved : goal.loop-m-preserved
loop-m-preserved c =
    rw c.pow2-bits.ensures (more c.loop-m.invariant c.loop-m-test.true c.place_of-r.ensures.0 (omega arith))

pub returns : goal.returns
returns c =
    let a = c.args in
    let inv = c.loop-m.invariant in
    let e : c.loop-m.m ≡ length a.part.now = omega (arith, inv.inside) in
    subst (λ (n : ℕ). (c.loop-m.bits ≡ bits_from a.part.now a.from a.k % 2 ^ 64) × Gone a.part.now a.from a.k 1 n) e (done inv (at_end inv (omega arith)))
