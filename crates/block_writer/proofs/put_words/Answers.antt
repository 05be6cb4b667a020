-- `block_writer::put_words` meets its contract. Assumes nothing.
use Rattle.format.specs.Kit.{arith, ◌≡◌, subst, ℕ}
use Rattle.block_writer.specs.Part.{Gone}
use Rattle.block_writer.proofs.Lay.{all, one_more}
use Rattle.block_writer.proofs.put_words.Goals as goal

pub loop-t-preserved : goal.loop-t-preserved
loop-t-preserved c =
    let o = c.put_long in
    let w = c.word_of-w in
    one_more c.loop-t.invariant c.loop-t-test.true w.ensures.0 w.ensures.1 o.ensures o.auto.out
    c.ones_of-sum.ensures.2 c.ones_of-sum.ensures.1

pub returns : goal.returns
returns c =
    let a = c.args in
    let e : c.loop-t.t ≡ a.n = omega arith in (
      all c.loop-t.invariant (omega arith),
      rw (← e) c.loop-t.invariant.counted,
      omega arith,
      subst (λ (n : ℕ). Gone a.part.now a.from a.k n c.loop-t.m) e c.loop-t.invariant.gone,
    )
