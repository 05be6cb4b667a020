-- `scaled_reader::draw` meets its contract. Invariant: what is left are the values from ordinal o on, and number o stands at the place that
use Rattle.format.specs.Kit.{◌≡◌, sym, ap, ap₂, ◌∙◌, subst, Option, List, ◌∷◌, ℕ, suc, ◌+◌, ◌-◌, ◌*◌, ◌^◌, ◌≤◌, ◌<◌, arith, ℤ, set}
use Rattle.format.specs.Kit.{length}
use Rattle.format.specs.Kit.{and_mask}
use mir.Facts.{to_z-of_z}
use mir.Syntax.{w64}
use Rattle.format.specs.Stores.{Fill}
use Rattle.format.specs.Codec.{scaled, signed64}
use Rattle.format.specs.Values.{value_at}
use Rattle.laws.proofs.Stores.{one_more, filled, reached}
use Rattle.laws.proofs.Fits.{fits_size}
use Rattle.laws.proofs.Scaled.{scaled_lawful}
use Rattle.signed.specs.Sign.{unbiased}
use Rattle.packings.specs.Packings.{packing_of}
use Rattle.packings.proofs.Packings.{sound_of}
use Rattle.answers.specs.Replies.{fields_of, fetched_of}
use Rattle.scaled_values.proofs.Facts.{Rules, rules_kept, few_bits}
use Rattle.scaled_values.proofs.WholeSlot.{whole_value}
use Rattle.format.specs.Drawn.{drawn}
use Rattle.laws.proofs.Drawn.{drawn_some, drawn_none, drawn_zero}
use Rattle.scaled_reader.proofs.draw.Goals as goal
use Rattle.scaled_reader.proofs.draw.Goals.{After-value_above, In-loop-i, Start}

the_rules : (s : Start) → Rules s.args.order s.args.n (fields_of s.args.fields) (length s.args.section.now)
the_rules s = rules_kept _ _ _ _ s.requires.1

-- the section holds the n numbers
holds : (s : Start) → s.args.n * s.args.fields.width ≤ 8 * length s.args.section.now
holds s = omega (arith, (the_rules s).bytes)

-- its ordinal is one of the n
below : (c : In-loop-i) → c.args.x + (c.loop-i.i - c.args.from) < c.args.n
below c = omega (arith, c.loop-i-test.true, c.requires.2)

pub overflow_mul-bit : goal.overflow_mul-bit
overflow_mul-bit c = record { fits = few_bits (the_rules (goal.at.overflow_mul-bit c).Start) c.requires.0 (omega (arith, below (goal.at.overflow_mul-bit c).In-loop-i)) }

-- what is drawn is step 7
read : (c : After-value_above) → let a = c.args in
    fetched_of c.value_above.result ≡ (scaled (packing_of a.order)).value a.n (fields_of a.fields) a.section.now (a.x + (c.loop-i.i - a.from))
read c =
    let a = c.args in
    let small : a.fields.smallest < 2 ^ 64 = (omega (arith, c.well_formed)) in
    c.value_above.ensures
    ∙ ap₂ (λ (m k : ℕ). signed64 (value_at (unbiased m) a.fields.divisor k)) c.biased_of-low.ensures c.next_of-stored.ensures
    ∙ sym (whole_value a.order a.n (fields_of a.fields) a.section.now (a.x + (c.loop-i.i - a.from)) small)

pub returns-in_default : goal.returns-in_default
returns-in_default c =
    let l = c.loop-i in
    let e = drawn_none _ _ _ (sym (read (goal.at.returns-in_default c).After-value_above) ∙ ap fetched_of c.in_default.is) in
    (reached _ _ _ _ _ _ l.invariant e, filled _ _ _ _ _ _ l.invariant e)

pub loop-i-preserved : goal.loop-i-preserved
loop-i-preserved c =
    let l = c.loop-i in
    let a = c.args in
    let z = c.in-Some.value in
    let here : ℕ = a.x + (l.i - a.from) in
    let next : ℕ = a.x + (l.i + 1 - a.from) in
    let f : ℕ → Option ℤ = (scaled (packing_of a.order)).value a.n (fields_of a.fields) a.section.now in
    let o = sym (read (goal.at.loop-i-preserved c).After-value_above) ∙ ap fetched_of c.in-Some.is in
    let m = fits_size z ((scaled_lawful (packing_of a.order) (sound_of a.order)).fit a.n (fields_of a.fields) a.section.now here z o) in
    let k : a.end - l.i ≡ suc (a.end - (l.i + 1)) = omega (arith, c.loop-i-test.true) in
    let one : suc here ≡ next = omega (arith, l.auto.i) in
    let more = ap (λ (j : ℕ). drawn f j here) k ∙ drawn_some f (a.end - (l.i + 1)) here z o
    ∙ ap (λ (y : ℕ). z ∷ drawn f (a.end - (l.i + 1)) y) one in
    subst (λ (y : List ℤ). Fill a.values.now a.from (drawn f (a.end - a.from) a.x) y (l.i + 1) (drawn f (a.end - (l.i + 1)) next))
    (sym (ap (set l.values l.i) (to_z-of_z {w = w64} {z = z} (record { sfits = m }))))
    (one_more _ _ _ _ _ _ l.invariant z _ more)

pub returns : goal.returns
returns c =
    let l = c.loop-i in
    let a = c.args in
    let z : a.end - l.i ≡ 0 = omega (arith, c.loop-i-test.false) in
    let f : ℕ → Option ℤ = (scaled (packing_of a.order)).value a.n (fields_of a.fields) a.section.now in
    let e = drawn_zero f _ (a.x + (l.i - a.from)) z in
    let done : a.end ≡ l.i = omega (arith, c.loop-i-test.false, l.auto.i-end, c.requires.3) in
    (done ∙ reached _ _ _ _ _ _ l.invariant e, filled _ _ _ _ _ _ l.invariant e)

pub next_of-stored-requires : goal.next_of-stored-requires
next_of-stored-requires c =
    let o : ℕ = c.args.x + (c.loop-i.i - c.args.from) in
    let bit : ℕ = o * c.args.fields.width in
    ((the_rules (goal.at.next_of-stored-requires c).Start).allowed, below (goal.at.next_of-stored-requires c).In-loop-i, holds (goal.at.next_of-stored-requires c).Start, omega (arith, and_mask bit 3), omega (arith, and_mask bit 3))

pub value_above-requires : goal.value_above-requires
value_above-requires c = omega (arith, (the_rules (goal.at.value_above-requires c).Start).positive)

pub shape_of-values-in_default : goal.shape_of-values-in_default
shape_of-values-in_default c = c.loop-i.invariant.kept

pub bounds-values-i : goal.bounds-values-i
bounds-values-i c = omega (arith, c.loop-i.invariant.kept, c.loop-i-test.true, c.requires.4)

pub shape_of-values : goal.shape_of-values
shape_of-values c = c.loop-i.invariant.kept
