-- `scaled_check::Numbers::unmoved` meets its contract. Assumes nothing.
use Rattle.format.specs.Kit.{◌≡◌, sym, ap, ◌∙◌, ℕ, ◌+◌, ◌*◌, ◌/◌, ◌≤◌, zero-mul, add-mul, add-zero, arith, bit_and, and_mask, length}
use Rattle.format.specs.Values.{gcd}
use Rattle.answers.specs.Replies.{fields_of}
use Rattle.packing.proofs.Join.{window_inside}
use Rattle.packings.specs.Packings.{packing_of}
use Rattle.scaled_values.proofs.Facts.{rules_kept, few_bits}
use Rattle.scaled_check.proofs.Turns.{enough, kept}
use Rattle.scaled_check.proofs.Numbers.unmoved.Goals as goal
use Rattle.scaled_check.proofs.Numbers.unmoved.Goals.{After-part-x, In-loop-i}

-- the numbers asked are there, and 64 more
far : (c : In-loop-i) → c.loop-i.i + 64 ≤ c.args.self.now.n
far c = omega (arith, c.loop-i-test.true, c.requires.1)

-- a number's place, as a byte and the bits before it there
place : (b w i : ℕ) → b ≡ i * w → b / 8 * 8 + bit_and b 7 ≡ i * w
place b w i e = omega (arith, and_mask b 3)

-- what the window begins with
number : (c : After-part-x) → let a = c.args.self.now in
    c.part-x.result ≡ (packing_of a.order).fetch a.section.now a.fields.width c.loop-i.i
number c =
    let w : ℕ = c.args.self.now.fields.width in
    let i : ℕ = c.loop-i.i in
    let first = rw (zero-mul w, add-zero i) at (c.window.ensures w i 0 (place c.loop-i.bit w i c.loop-i.invariant.0)) in
    c.part-x.ensures ∙ first (omega (arith, c.requires.0))

pub overflow_mul-bit : goal.overflow_mul-bit
overflow_mul-bit c =
    record { fits = few_bits (rules_kept _ _ _ _ c.args.self.now.kept.rules) c.args.self.now.kept.few (omega (arith, c.requires.1)) }

pub overflow_add-bit : goal.overflow_add-bit
overflow_add-bit c =
    let w : ℕ = c.args.self.now.fields.width in
    let i : ℕ = c.loop-i.i in
    let few = few_bits {i = i + 1} (rules_kept _ _ _ _ c.args.self.now.kept.rules) c.args.self.now.kept.few (omega (arith, far (goal.at.overflow_add-bit c).In-loop-i)) in
    omega (arith, few, add-mul i 1 w, c.loop-i.invariant.0)

pub window-requires : goal.window-requires
window-requires c =
    let a = c.args.self.now in
    let w : ℕ = a.fields.width in
    let i : ℕ = c.loop-i.i in
    let b : ℕ = c.loop-i.bit in (
      window_inside i a.n w (b / 8) (bit_and b 7) (length a.section.now) a.kept.some (far (goal.at.window-requires c).In-loop-i)
          (enough a.section.now (rules_kept _ _ _ _ a.kept.rules)) (place b w i c.loop-i.invariant.0),
      omega (arith, and_mask b 3),
    )

pub loop-i-preserved : goal.loop-i-preserved
loop-i-preserved c =
    let a = c.args.self.now in
    let n = number (goal.at.loop-i-preserved c).After-part-x in (
      omega (arith, c.loop-i.invariant.0, add-mul c.loop-i.i 1 a.fields.width),
      λ y z.
          let b = c.past.ensures (omega (arith, c.joined-past.ensures.1, y)) in
          let d : gcd c.args.g c.part-x.result ≡ c.args.g = c.unlike.ensures (omega (arith, c.joined-off.ensures.1, z)) in
          kept a.order a.n (fields_of a.fields) a.section.now c.args.lo (c.args.lo + c.args.gap) c.args.g c.loop-i.i
          (omega (arith, far (goal.at.loop-i-preserved c).In-loop-i)) (omega (arith, b.0, n)) (omega (arith, b.1, n)) (ap (gcd c.args.g) (sym n) ∙ d)
          ∙ c.loop-i.invariant.1 (omega (arith, c.joined-past.ensures.0, y)) (omega (arith, c.joined-off.ensures.0, z)),
    )
