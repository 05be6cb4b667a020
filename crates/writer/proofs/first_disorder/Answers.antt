-- `writer::first_disorder` meets its contract. Assumes nothing.
use Rattle.format.specs.Kit.{arith, ◌≡◌, sym, ap, ◌∙◌, ℕ, ◌+◌, ◌-◌, get_or, drop}
use Rattle.writer.proofs.Faults.{order_start, order_end, order_more, order_here}
use Rattle.format.specs.Writer.{not_above}
use Rattle.writer.proofs.first_disorder.Goals as goal

pub loop-i-init : goal.loop-i-init
loop-i-init c = (omega arith, order_start c.args.ids.now)

pub returns-then-ids-i : goal.returns-then-ids-i
returns-then-ids-i c =
    let xs = c.args.ids.now in
    let i = c.loop-i.i in
    sym (c.loop-i.invariant.1 ∙ order_here xs i (get_or xs (i - 1) 0) (omega arith) (omega arith))

pub loop-i-preserved : goal.loop-i-preserved
loop-i-preserved c =
    let xs = c.args.ids.now in
    let i = c.loop-i.i in
    let e : i + 1 - 1 ≡ i = omega arith in
    let more = order_more xs i (get_or xs (i - 1) 0) (omega arith) (omega arith) in
    (omega arith, c.loop-i.invariant.1 ∙ more ∙ ap (λ (k : ℕ). not_above (i + 1) (get_or xs k 0) (drop (i + 1) xs)) (sym e))

pub returns : goal.returns
returns c =
    let xs = c.args.ids.now in
    let i = c.loop-i.i in
    sym (c.loop-i.invariant.1 ∙ order_end xs i (get_or xs (i - 1) 0) (omega arith))
