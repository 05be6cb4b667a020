-- `set_writer::put_span` meets its contract. Assumes nothing.
use Rattle.format.specs.Kit.{◌≡◌, refl, ap, ◌∙◌, ℕ, ◌+◌, ◌-◌, ◌*◌, arith, sets}
use Rattle.format.specs.Bytes.{low}
use Rattle.laws.proofs.Digits.{length_digits}
use Rattle.laws.proofs.Stores.{begun, part_more, filled}
use Rattle.set_writer.proofs.Spans.{span_first, span_none}
use Rattle.set_writer.proofs.put_span.Goals as goal

pub loop-i-init : goal.loop-i-init
loop-i-init c =
    let a = c.args in
    let e : a.n - 0 ≡ a.n = omega arith in
    let f : a.x + 0 ≡ a.x = omega arith in
    let g : a.at + 2 * 0 ≡ a.at = omega arith in
    (omega arith, rw (g, e, f) (begun _ _ _ _ refl))

pub loop-i-preserved : goal.loop-i-preserved
loop-i-preserved c =
    let a = c.args in
    let y = c.long.ensures in
    let o = c.put_short.ensures in
    let i : ℕ = c.loop-i.i in (
      omega arith,
      part_more _ _ _ _ _ _ c.loop-i.invariant.1 _ _ (low 2 (a.x + i)) _
          (span_first (a.n - i) (a.x + i) (a.n - (i + 1)) (a.x + (i + 1)) (omega arith) (omega arith))
          (o ∙ ap (λ (n : ℕ). sets c.loop-i.out (a.at + 2 * i) (low 2 n)) y) (omega (arith, length_digits 256 2 (a.x + i))),
    )

pub returns : goal.returns
returns c =
    let l = c.loop-i in
    let a = c.args in
    filled _ _ _ _ _ _ l.invariant.1 (span_none (a.n - l.i) (a.x + l.i) (omega arith))
