-- `scaled_reader::fill_eights` meets its contract. The loop's invariant holds since the two windows of a turn hold the next eight numbers, and
use Rattle.format.specs.Kit.{◌≡◌, refl, ℕ, ◌+◌, ◌*◌, ◌/◌, ◌%◌, ◌≤◌, zero-mul, add-mul, arith, bit_and, and_mask, length}
use Rattle.format.specs.Codec.{Fields}
use Rattle.answers.specs.Replies.{fields_of}
use Rattle.packings.specs.declared.Order as Od
use Rattle.scaled_reader.specs.Stored.{Eights}
use Rattle.scaled_reader.proofs.Each.{Four, four_fit, eights_inside, eights_four, eight_more}
use Rattle.laws.proofs.Stores.{begun}
use Rattle.scaled_reader.proofs.fill_eights.Goals as goal
use Rattle.scaled_reader.proofs.fill_eights.Goals.{After-window-y, At-loop-i, In-loop-i}

-- the second window's place
second : (l : At-loop-i) → let w = l.args.w in
    (l.loop-i.at + 4 * w / 8) * 8 + bit_and (4 * w) 7 ≡ (l.loop-i.i + 4) * w
second l =
    let w : ℕ = l.args.w in
    let m : bit_and (4 * w) 7 ≡ 4 * w % 8 = and_mask (4 * w) 3 in
    omega (arith, m, l.loop-i.invariant.1, add-mul l.loop-i.i 4 w)

inside : (c : In-loop-i) → c.loop-i.at + 8 ≤ length c.args.section.now
inside c =
    eights_inside c.requires c.loop-i.i c.loop-i.at 0 (omega (arith, c.loop-i-test.true)) (omega (arith, c.loop-i.invariant.1))

inside_2 : (c : In-loop-i) → let a = c.args in c.loop-i.at + 4 * a.w / 8 + 8 ≤ length a.section.now
inside_2 c =
    let w : ℕ = c.args.w in
    eights_inside c.requires (c.loop-i.i + 4) (c.loop-i.at + 4 * w / 8) (bit_and (4 * w) 7) (omega (arith, c.loop-i-test.true)) (second (goal.at.In-loop-i c).At-loop-i)

-- what the windows hold, for any fields
abbrev Handed : At-loop-i → Fields → Type 0
Handed l f = let a = l.args in Eights Od.Order.High a.n f a.section.now (length a.values.now) a.w a.low a.divisor

four : (c : After-window-y) (f : Fields) → let a = c.args in
    Handed (goal.at.After-window-y c).At-loop-i f → Four Od.Order.High f f.width a.n a.section.now a.low c.loop-i.i c.window-x.result
four c f q =
    eights_four q c.loop-i.i c.window-x.result (omega (arith, c.loop-i-test.true))
    (λ k h. c.window-x.ensures c.args.w c.loop-i.i k (omega (arith, c.loop-i.invariant.1)) h)

four_2 : (c : After-window-y) (f : Fields) → let a = c.args in
    Handed (goal.at.After-window-y c).At-loop-i f → Four Od.Order.High f f.width a.n a.section.now a.low (c.loop-i.i + 4) c.window-y.result
four_2 c f q =
    eights_four q (c.loop-i.i + 4) c.window-y.result (omega (arith, c.loop-i-test.true))
    (λ k h. c.window-y.ensures c.args.w (c.loop-i.i + 4) k (second (goal.at.After-window-y c).At-loop-i) h)

-- the buffer keeps its length
long : (l : At-loop-i) → length l.loop-i.values ≡ length l.args.values.now
long l = (l.loop-i.invariant.2 (fields_of l.args.fields) l.requires).kept

pub put_four-requires : goal.put_four-requires
put_four-requires c =
    let p = c.requires in
    (p.some, p.narrow, omega (arith, long (goal.at.put_four-requires c).At-loop-i, p.enough, c.loop-i-test.true), four_fit (four (goal.at.put_four-requires c).After-window-y _ p) p.width_is p.step_is)

pub put_four-requires-in-loop-i : goal.put_four-requires-in-loop-i
put_four-requires-in-loop-i c =
    let p = c.requires in (
      p.some,
      p.narrow,
      omega (arith, c.put_four.auto.values, long (goal.at.put_four-requires-in-loop-i c).At-loop-i, p.enough, c.loop-i-test.true),
      four_fit (four_2 (goal.at.put_four-requires-in-loop-i c).After-window-y _ p) p.width_is p.step_is,
    )

pub loop-i-preserved : goal.loop-i-preserved
loop-i-preserved c = (
  omega (arith, c.loop-i-test.true),
  omega (arith, c.loop-i.invariant.1, add-mul c.loop-i.i 8 c.args.w),
  λ f q. eight_more q (c.loop-i.invariant.2 f q) (four (goal.at.loop-i-preserved c).After-window-y f q) (four_2 (goal.at.loop-i-preserved c).After-window-y f q) c.put_four.ensures c.put_four-in-loop-i.ensures,
)

pub overflow_mul-half : goal.overflow_mul-half
overflow_mul-half c = omega (arith, c.requires.narrow)

pub overflow_mul-skip : goal.overflow_mul-skip
overflow_mul-skip c = omega (arith, c.requires.narrow)

pub loop-i-init : goal.loop-i-init
loop-i-init c = (omega arith, omega (arith, zero-mul c.args.w), λ f q. begun _ _ _ _ refl)

pub overflow_sub-n : goal.overflow_sub-n
overflow_sub-n c = omega (arith, c.loop-i.invariant.0)

pub window-x-requires : goal.window-x-requires
window-x-requires c = (inside c, omega arith)

pub window-y-requires : goal.window-y-requires
window-y-requires c = (inside_2 (goal.at.window-y-requires c).In-loop-i, omega (arith, and_mask (4 * c.args.w) 3))

pub overflow_add-i : goal.overflow_add-i
overflow_add-i c = omega (arith, c.loop-i-test.true)

pub shape_of-values : goal.shape_of-values
shape_of-values c = long (goal.at.shape_of-values c).At-loop-i

pub returns : goal.returns
returns c = (c.loop-i.invariant.0, c.loop-i.invariant.2 _ c.requires)
