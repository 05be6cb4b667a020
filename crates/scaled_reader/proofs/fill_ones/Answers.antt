-- `scaled_reader::fill_ones` meets its contract. The loop's invariant holds since the window at number i's place begins with it, and the
use Rattle.format.specs.Kit.{◌≡◌, refl, sym, ap, subst, ◌∙◌, List, ◌∷◌, ℕ, ◌+◌, ◌*◌, ◌/◌, ◌^◌, ◌≤◌, ◌<◌}
use Rattle.format.specs.Kit.{zero-mul, add-zero, arith, bit_and, and_mask, ℤ, length, drop}
use Rattle.packing.proofs.Join.{window_inside}
use Rattle.format.specs.Stores.{Fill}
use Rattle.answers.specs.Replies.{fields_of}
use Rattle.scaled_values.specs.Held.{numbers_in, value_from, values_from}
use Rattle.scaled_values.proofs.Facts.{rules_kept, few_bits}
use Rattle.packings.specs.Packings.{packing_of, cut}
use Rattle.scaled_reader.proofs.Each.{Sum, values_more, sum_at}
use Rattle.laws.proofs.Stores.{begun, one_more}
use Rattle.scaled_reader.specs.Stored.{FilledTo}
use Rattle.scaled_reader.proofs.fill_ones.Goals as goal
use Rattle.scaled_reader.proofs.fill_ones.Goals.{After-window-x, In-loop-i, Start}

-- the section holds the n numbers
holds : (s : Start) → s.args.n * s.args.fields.width ≤ 8 * length s.args.section.now
holds s = let a = s.args in omega (arith, (rules_kept a.order a.n (fields_of a.fields) (length a.section.now) s.requires.1).bytes)

-- number i's place, as a byte and the bits before it there
place : (c : In-loop-i) → let l = c.loop-i in
    l.i * c.args.fields.width / 8 * 8 + bit_and (l.i * c.args.fields.width) 7 ≡ l.i * c.args.fields.width
place c = let bit : ℕ = c.loop-i.i * c.args.fields.width in omega (arith, and_mask bit 3)

-- it is one of the n, and 63 are left after it
far : (c : In-loop-i) → c.loop-i.i + 64 ≤ c.args.n
far c = omega (arith, c.loop-i-test.true, c.saturating_sub-end.ensures)

-- the window is within the section
inside : (c : In-loop-i) → c.loop-i.i * c.args.fields.width / 8 + 8 ≤ length c.args.section.now
inside c =
    let i : ℕ = c.loop-i.i in
    let bit : ℕ = i * c.args.fields.width in
    window_inside i c.args.n c.args.fields.width (bit / 8) (bit_and bit 7) (length c.args.section.now)
    (omega (arith, c.if-w-eq0.false)) (far c) (holds (goal.at.In-loop-i c).Start) (place c)

-- what it begins with
one : (c : After-window-x) → let a = c.args in
    Sum c.biased_of-low.result a.fields.divisor (cut a.order c.window-x.result 0 a.fields.width)
    (value_from (fields_of a.fields) ((packing_of a.order).fetch a.section.now a.fields.width c.loop-i.i))
one c =
    let l = c.loop-i in
    let a = c.args in
    let small : a.fields.smallest < 2 ^ 64 = (omega (arith, c.well_formed)) in
    let w : ℕ = a.fields.width in
    let first = rw (zero-mul w, add-zero l.i) at (c.window-x.ensures w l.i 0 (place (goal.at.After-window-x c).In-loop-i)) in
    rw (first (omega arith))
    (sum_at a.order (fields_of a.fields) w a.n a.section.now c.biased_of-low.result l.i small c.biased_of-low.ensures (omega (arith, far (goal.at.After-window-x c).In-loop-i)) c.requires.3)

pub loop-i-init : goal.loop-i-init
loop-i-init c = begun _ _ _ _ refl

pub put_part-requires : goal.put_part-requires
put_part-requires c =
    (omega arith, omega arith, omega (arith, c.loop-i.invariant.kept, c.requires.2, far (goal.at.put_part-requires c).In-loop-i), (one (goal.at.put_part-requires c).After-window-x).inside)

pub overflow_mul-bit : goal.overflow_mul-bit
overflow_mul-bit c = record {
  fits = few_bits (rules_kept _ _ _ _ c.requires.1) c.requires.0 (omega (arith, far (goal.at.overflow_mul-bit c).In-loop-i));
}

pub loop-i-preserved : goal.loop-i-preserved
loop-i-preserved c =
    let a = c.args in
    let f = fields_of a.fields in
    let w : ℕ = a.fields.width in
    let i : ℕ = c.loop-i.i in
    let more = values_from f (drop (i + 1) (numbers_in a.order w a.n a.section.now)) in
    subst (λ (x : List ℤ). Fill a.values.now 0 (values_from f (numbers_in a.order w a.n a.section.now)) x (i + 1) more)
    (sym c.put_part.ensures)
    (one_more _ _ _ _ _ _ c.loop-i.invariant _ _
    (values_more a.order f w a.n a.section.now i (omega (arith, far (goal.at.loop-i-preserved c).In-loop-i))
    ∙ ap {B = List ℤ} (λ (x : ℤ). x ∷ more) (sym (one (goal.at.loop-i-preserved c).After-window-x).value)))

pub window-x-requires : goal.window-x-requires
window-x-requires c =
    let bit : ℕ = c.loop-i.i * c.args.fields.width in
    (inside (goal.at.window-x-requires c).In-loop-i, omega (arith, and_mask bit 3))

pub shape_of-values : goal.shape_of-values
shape_of-values c = c.loop-i.invariant.kept

pub returns : goal.returns
returns c =
    let a = c.args in
    let e : c.loop-i.i ≡ c.saturating_sub-end.result = omega (arith, c.loop-i-test.false, c.loop-i.auto.i-end) in (
      omega (arith, c.saturating_sub-end.ensures),
      subst (λ (k : ℕ). FilledTo a.order a.n (fields_of a.fields) a.section.now a.values.now c.loop-i.values k) e c.loop-i.invariant,
    )
