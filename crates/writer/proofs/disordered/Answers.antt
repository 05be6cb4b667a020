-- `writer::disordered` meets its contract. Assumes nothing.
use Rattle.format.specs.Kit.{arith, ◌≡◌, sym, ap, ◌∙◌, ℕ, ◌+◌, ◌-◌, leb, get_or, drop, leb-false}
use Rattle.laws.proofs.Tests.{neither}
use Rattle.writer.proofs.Faults.{order_start, order_end, order_more}
use Rattle.format.specs.Writer.{not_above}
use Rattle.writer.proofs.disordered.Goals as goal

pub loop-i-init : goal.loop-i-init
loop-i-init c = (omega arith, λ _. order_start c.args.ids.now)

pub loop-i-preserved : goal.loop-i-preserved
loop-i-preserved c =
    let xs = c.args.ids.now in
    let i = c.loop-i.i in
    let e : i + 1 - 1 ≡ i = omega arith in (
      omega arith,
      λ q.
          let t = neither c.loop-i.bad (leb (get_or xs i 0) (get_or xs (i - 1) 0)) q in
          c.loop-i.invariant.1 t.0 ∙ order_more xs i (get_or xs (i - 1) 0) (omega arith) (leb-false _ _ t.1)
          ∙ ap (λ (k : ℕ). not_above (i + 1) (get_or xs k 0) (drop (i + 1) xs)) (sym e),
    )

pub returns : goal.returns
returns c =
    let xs = c.args.ids.now in
    λ q. c.loop-i.invariant.1 q ∙ order_end xs c.loop-i.i (get_or xs (c.loop-i.i - 1) 0) (omega arith)
