-- `scaled_reader::fill` meets its contract. The loop's invariant holds since number i stands at the place that is kept, and the place then
use Rattle.format.specs.Kit.{◌≡◌, refl, sym, ap, subst, ◌∙◌, List, ◌∷◌, ◌++◌, ℕ, ◌+◌, ◌*◌, ◌^◌, ◌<◌, ◌≤◌, arith, rules}
use Rattle.format.specs.Kit.{and_mask, ℤ, length, drop}
use mir.Syntax.{w64}
use mir.Val.{to_z, of_z}
use mir.Facts.{to_z-of_z}
use Rattle.format.specs.Pairs.{Each, Fits}
use Rattle.answers.specs.Replies.{fields_of}
use Rattle.laws.proofs.Stores.{begun, one_more, filled, sets_front}
use Rattle.packings.specs.Packings.{packing_of}
use Rattle.scaled_values.specs.Held.{numbers_in, value_from, values_from}
use Rattle.scaled_values.proofs.Facts.{Rules, rules_kept, few_bits}
use Rattle.scaled_values.proofs.Held.{all_held}
use Rattle.scaled_reader.proofs.Each.{Sum, values_more, values_end, length_values, sum_at}
use Rattle.scaled_reader.proofs.fill.Goals as goal
use Rattle.scaled_reader.proofs.fill.Goals.{After-next_of-x, In-loop-i, Start}

-- ---- what is asked
the_rules : (s : Start) → Rules s.args.order s.args.n (fields_of s.args.fields) (length s.args.section.now)
the_rules s = rules_kept _ _ _ _ s.requires.1

-- the section holds the n numbers
holds : (s : Start) → s.args.n * s.args.fields.width ≤ 8 * length s.args.section.now
holds s = omega (arith, (the_rules s).bytes)

-- and all their values fit
fit : (s : Start) → let a = s.args in
    Each Fits (values_from (fields_of a.fields) (numbers_in a.order a.fields.width a.n a.section.now))
fit s =
    let a = s.args in
    let h = all_held a.order a.n (fields_of a.fields) a.section.now s.requires.3.0 s.requires.3.1 in
    subst (Each Fits) (sym h.same) h.fit

pub loop-i-init : goal.loop-i-init
loop-i-init c = begun _ _ _ _ refl

-- ---- a turn
pub overflow_mul-bit : goal.overflow_mul-bit
overflow_mul-bit c = record { fits = few_bits (the_rules (goal.at.overflow_mul-bit c).Start) c.requires.0 (omega (arith, c.loop-i-test.true)) }

pub next_of-x-requires : goal.next_of-x-requires
next_of-x-requires c =
    let bit : ℕ = c.loop-i.i * c.args.fields.width in
    ((the_rules (goal.at.next_of-x-requires c).Start).allowed, c.loop-i-test.true, holds (goal.at.next_of-x-requires c).Start, omega (arith, and_mask bit 3), omega (arith, and_mask bit 3))

-- the sum of which the value of the number read is made
sum : (c : After-next_of-x) → let a = c.args in
    Sum c.biased_of-low.result a.fields.divisor c.next_of-x.result
    (value_from (fields_of a.fields) ((packing_of a.order).fetch a.section.now a.fields.width c.loop-i.i))
sum c =
    let b = c.biased_of-low in
    let a = c.args in
    let small : a.fields.smallest < 2 ^ 64 = (omega (arith, c.well_formed)) in
    rw c.next_of-x.ensures
    (sum_at a.order (fields_of a.fields) a.fields.width a.n a.section.now b.result c.loop-i.i small b.ensures
    c.loop-i-test.true (fit (goal.at.After-next_of-x c).Start))

room : (c : In-loop-i) → c.loop-i.i < length c.loop-i.values
room c =
    let f = c.fill_windows-done in
    omega (arith, c.loop-i-test.true, c.loop-i.invariant.kept, f.ensures.1.kept, c.requires.2)

pub offset_bounds-values-i : goal.offset_bounds-values-i
offset_bounds-values-i c = let r = room (goal.at.offset_bounds-values-i c).In-loop-i in search rules

pub loop-i-preserved : goal.loop-i-preserved
loop-i-preserved c =
    let a = c.args in
    let l = c.loop-i in
    let w : ℕ = a.fields.width in
    let more = values_from (fields_of a.fields) (drop (l.i + 1) (numbers_in a.order w a.n a.section.now)) in
    let e = to_z-of_z {w = w64} {z = c.value_from.result} (search rules) ∙ c.value_from.ensures ∙ (sum (goal.at.loop-i-preserved c).After-next_of-x).value in
    one_more _ _ _ _ _ _ l.invariant (to_z w64 (of_z w64 c.value_from.result)) _
    (values_more a.order (fields_of a.fields) w a.n a.section.now l.i c.loop-i-test.true
    ∙ ap {B = List ℤ} (λ (x : ℤ). x ∷ more) (sym e))

-- ---- all are there
pub shape_of-values : goal.shape_of-values
shape_of-values c = c.loop-i.invariant.kept ∙ c.fill_windows-done.ensures.1.kept

pub returns : goal.returns
returns c vs e =
    let l = c.loop-i in
    let a = c.args in
    let f = fields_of a.fields in
    let w : ℕ = a.fields.width in
    let all = values_from f (numbers_in a.order w a.n a.section.now) in
    let n : length all ≡ a.n = length_values a.order f w a.n a.section.now in
    filled _ _ _ _ _ _ l.invariant (values_end a.order f w a.n a.section.now l.i (omega (arith, c.loop-i-test.false, c.loop-i.auto.i-end, c.fill_windows-done.ensures.0)))
    ∙ c.fill_windows-done.ensures.1.same
    ∙ sets_front a.values.now all (omega (arith, c.requires.2)) ∙ ap (λ (k : ℕ). all ++ drop k a.values.now) n
    ∙ ap (λ (z : List ℤ). z ++ drop a.n a.values.now) (all_held a.order a.n f a.section.now vs e).same

pub fill_windows-done-requires : goal.fill_windows-done-requires
fill_windows-done-requires c = (c.requires.0, c.requires.1, c.requires.2, fit (goal.at.fill_windows-done-requires c).Start)

pub value_from-requires : goal.value_from-requires
value_from-requires c = (sum c).inside

pub bounds-values-i : goal.bounds-values-i
bounds-values-i c = room (goal.at.bounds-values-i c).In-loop-i
