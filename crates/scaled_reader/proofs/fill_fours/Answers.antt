-- `scaled_reader::fill_fours` meets its contract. The loop's invariant holds since the four numbers of a window at number i's place are the
use Rattle.format.specs.Kit.{◌≡◌, refl, ℕ, ◌+◌, ◌*◌, ◌/◌, ◌^◌, ◌≤◌, ◌<◌, arith, bit_and, and_mask, length, rules}
use Rattle.packing.proofs.Join.{window_inside}
use Rattle.answers.specs.Replies.{fields_of}
use Rattle.scaled_values.proofs.Facts.{rules_kept, few_bits}
use Rattle.scaled_reader.proofs.Each.{Four, four_at, four_more}
use Rattle.laws.proofs.Stores.{begun}
use Rattle.scaled_reader.proofs.fill_fours.Goals as goal
use Rattle.scaled_reader.proofs.fill_fours.Goals.{After-window-x, In-loop-i, Start}

-- the section holds the n numbers
holds : (s : Start) → s.args.n * s.args.fields.width ≤ 8 * length s.args.section.now
holds s = let a = s.args in omega (arith, (rules_kept a.order a.n (fields_of a.fields) (length a.section.now) s.requires.0).bytes)

-- number i's place, as a byte and the bits before it there
place : (c : In-loop-i) → let bit = c.loop-i.i * c.args.fields.width in bit / 8 * 8 + bit_and bit 7 ≡ bit
place c = let bit : ℕ = c.loop-i.i * c.args.fields.width in omega (arith, and_mask bit 3)

-- the window is within the section
inside : (c : In-loop-i) → c.loop-i.i * c.args.fields.width / 8 + 8 ≤ length c.args.section.now
inside c =
    let bit : ℕ = c.loop-i.i * c.args.fields.width in
    window_inside c.loop-i.i c.args.n c.args.fields.width (bit / 8) (bit_and bit 7) (length c.args.section.now)
    (omega (arith, c.if-w-eq0.false)) (omega arith) (holds (goal.at.In-loop-i c).Start) (place c)

-- what it holds
four : (c : After-window-x) → let a = c.args in
    Four a.order (fields_of a.fields) a.fields.width a.n a.section.now c.biased_of-low.result c.loop-i.i c.window-x.result
four c =
    let l = c.loop-i in
    let a = c.args in
    let small : a.fields.smallest < 2 ^ 64 = (omega (arith, c.well_formed)) in
    let w : ℕ = a.fields.width in
    four_at a.order a.section.now w l.i c.window-x.result (λ k. c.window-x.ensures w l.i k (place (goal.at.After-window-x c).In-loop-i)) (fields_of a.fields) a.n
    c.biased_of-low.result small c.biased_of-low.ensures (omega arith) (omega arith) c.requires.2

pub loop-i-init : goal.loop-i-init
loop-i-init c = (search rules, begun _ _ _ _ refl)

pub overflow_mul-bit : goal.overflow_mul-bit
overflow_mul-bit c = record { fits = few_bits (rules_kept _ _ _ _ c.requires.0) c.requires.3 (omega arith) }

pub put_four-requires : goal.put_four-requires
put_four-requires c =
    (omega arith, omega arith, omega (arith, c.loop-i.invariant.1.kept, c.requires.1), (four (goal.at.put_four-requires c).After-window-x).fit)

pub loop-i-preserved : goal.loop-i-preserved
loop-i-preserved c = (
  omega arith,
  four_more c.loop-i.invariant.1 (four (goal.at.loop-i-preserved c).After-window-x) refl refl c.put_four.ensures,
)

pub window-x-requires : goal.window-x-requires
window-x-requires c =
    let bit : ℕ = c.loop-i.i * c.args.fields.width in
    (inside (goal.at.window-x-requires c).In-loop-i, omega (arith, and_mask bit 3))

pub shape_of-values : goal.shape_of-values
shape_of-values c = c.loop-i.invariant.1.kept

pub returns : goal.returns
returns c = (c.loop-i.invariant.0, c.loop-i.invariant.1)
