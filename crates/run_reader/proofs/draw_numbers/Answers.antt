-- `run_reader::draw_numbers` meets its contract. Invariant: what is left are the values from ordinal o on, and number o stands at the place that
use Rattle.format.specs.Kit.{◌≡◌, sym, ap, ap₂, ◌∙◌, subst, Option, List, ◌∷◌, ℕ, suc, ◌+◌, ◌-◌, ◌*◌, ◌%◌, ◌^◌, ◌≤◌, ◌<◌, arith, rules, ℤ, set}
use Rattle.format.specs.Kit.{length}
use Rattle.format.specs.Kit.{bit_and, and_mask, mul-le-mul_right}
use mir.Facts.{to_z-of_z}
use mir.Syntax.{w64}
use Rattle.format.specs.Stores.{Fill}
use Rattle.format.specs.Codec.{scaled, signed64}
use Rattle.format.specs.Values.{value_at}
use Rattle.laws.proofs.Bits.{within}
use Rattle.laws.proofs.Stores.{one_more, filled, reached}
use Rattle.laws.proofs.Fits.{fits_size}
use Rattle.laws.proofs.Scaled.{scaled_lawful}
use Rattle.signed.specs.Sign.{unbiased}
use Rattle.packing.proofs.Join.{place_next}
use Rattle.packings.specs.declared.Order as Od
use Rattle.packings.specs.Packings.{packing_of}
use Rattle.packings.proofs.Packings.{sound_of}
use Rattle.answers.specs.Replies.{fields_of, fetched_of}
use Rattle.scaled_values.proofs.Facts.{Rules, rules_kept}
use Rattle.scaled_values.proofs.WholeSlot.{whole_value}
use Rattle.format.specs.Drawn.{drawn}
use Rattle.laws.proofs.Drawn.{drawn_some, drawn_none, drawn_zero}
use Rattle.run_reader.proofs.draw_numbers.Goals as goal
use Rattle.run_reader.proofs.draw_numbers.Goals.{After-value_above, In-loop-i, Start}

the_rules : (s : Start) → Rules (Od.Order.High) s.args.n (fields_of s.args.fields) (length s.args.section.now)
the_rules s = rules_kept _ _ _ _ s.requires.1

-- the section holds the n numbers
holds : (s : Start) → s.args.n * s.args.fields.width ≤ 8 * length s.args.section.now
holds s = omega (arith, (the_rules s).bytes)

-- ordinal o is one of the n
below : (c : In-loop-i) → (c.args.x + (c.loop-i.i - c.args.from)) < c.args.n
below c = omega (arith, c.loop-i-test.true, c.loop-i.invariant.0, c.requires.2)

pub byte_of-at-requires : goal.byte_of-at-requires
byte_of-at-requires c =
    let h : c.args.x ≤ c.args.n = omega (arith, c.requires.2) in
    ((the_rules (goal.at.byte_of-at-requires c).Start).narrow, omega (arith, holds (goal.at.byte_of-at-requires c).Start, mul-le-mul_right c.args.fields.width h, c.well_formed))

-- what is drawn is step 7
read : (c : After-value_above) → let a = c.args in
    fetched_of c.value_above.result ≡ (scaled (packing_of Od.Order.High)).value a.n (fields_of a.fields) a.section.now (c.args.x + (c.loop-i.i - c.args.from))
read c =
    let a = c.args in
    let small : a.fields.smallest < 2 ^ 64 = (omega (arith, c.well_formed)) in
    c.value_above.ensures
    ∙ ap₂ (λ (m k : ℕ). signed64 (value_at (unbiased m) a.fields.divisor k)) c.biased_of-low.ensures c.next_of-stored.ensures
    ∙ sym (whole_value Od.Order.High a.n (fields_of a.fields) a.section.now (c.args.x + (c.loop-i.i - c.args.from)) small)

pub returns-in_default : goal.returns-in_default
returns-in_default c =
    let l = c.loop-i in
    let e = drawn_none _ _ _ (sym (read (goal.at.returns-in_default c).After-value_above) ∙ ap fetched_of c.in_default.is) in
    (reached _ _ _ _ _ _ l.invariant.2 e, filled _ _ _ _ _ _ l.invariant.2 e)

pub loop-i-preserved : goal.loop-i-preserved
loop-i-preserved c =
    let l = c.loop-i in
    let a = c.args in
    let w : ℕ = a.fields.width in
    let ord : ℕ = a.x + (l.i - a.from) in
    let z = c.in-Some.value in
    let f : ℕ → Option ℤ = (scaled (packing_of Od.Order.High)).value a.n (fields_of a.fields) a.section.now in
    let o = sym (read (goal.at.loop-i-preserved c).After-value_above) ∙ ap fetched_of c.in-Some.is in
    let m = fits_size z ((scaled_lawful (packing_of Od.Order.High) (sound_of Od.Order.High)).fit a.n (fields_of a.fields) a.section.now ord z o) in
    let k : a.end - l.i ≡ suc (a.end - (l.i + 1)) = omega (arith, c.loop-i-test.true) in
    let one : suc ord ≡ a.x + (l.i + 1 - a.from) = omega (arith, l.invariant.0) in
    let next : ord + 1 ≡ a.x + (l.i + 1 - a.from) = omega (arith, l.invariant.0) in
    let more = ap (λ (j : ℕ). drawn f j ord) k ∙ drawn_some f (a.end - (l.i + 1)) ord z o
    ∙ ap (λ (y : ℕ). z ∷ drawn f (a.end - (l.i + 1)) y) one in
    let g : bit_and (l.skip + w) 7 ≡ (l.skip + w) % 8 = and_mask (l.skip + w) 3 in (
      omega arith,
      omega (arith, c.loop-i-test.true),
      subst (λ (y : List ℤ). Fill a.values.now a.from (drawn f (a.end - a.from) a.x) y (l.i + 1) (drawn f (a.end - (l.i + 1)) (a.x + (l.i + 1 - a.from))))
          (sym (ap (set l.values l.i) (to_z-of_z {w = w64} {z = z} (record { sfits = m }))))
          (one_more _ _ _ _ _ _ l.invariant.2 z _ more),
      rw g (place_next ord w l.at l.skip l.invariant.3 ∙ ap (λ (j : ℕ). j * w) next),
      omega (arith, g),
    )

pub overflow_add-at : goal.overflow_add-at
overflow_add-at c =
    let l = c.loop-i in
    let e = within (c.args.x + (l.i - c.args.from)) c.args.fields.width c.args.n (below (goal.at.overflow_add-at c).In-loop-i) in
    let f = holds (goal.at.overflow_add-at c).Start in
    let h : l.at * 8 + l.skip + c.args.fields.width ≤ 8 * length c.args.section.now = omega (arith, l.invariant.3) in
    search rules

pub returns : goal.returns
returns c =
    let l = c.loop-i in
    let z : c.args.end - l.i ≡ 0 = omega (arith, c.loop-i-test.false, l.invariant.1) in
    let e = drawn_zero _ _ (c.args.x + (l.i - c.args.from)) z in
    (omega (arith, c.loop-i-test.false, l.invariant.1, reached _ _ _ _ _ _ l.invariant.2 e), filled _ _ _ _ _ _ l.invariant.2 e)

pub skip_of-skip-requires : goal.skip_of-skip-requires
skip_of-skip-requires c = (the_rules (goal.at.skip_of-skip-requires c).Start).narrow

pub next_of-stored-requires : goal.next_of-stored-requires
next_of-stored-requires c = let v = c.loop-i.invariant in
    ((the_rules (goal.at.next_of-stored-requires c).Start).allowed, below c, holds (goal.at.next_of-stored-requires c).Start, v.3, v.4)

pub overflow_add-next : goal.overflow_add-next
overflow_add-next c = omega (
  arith,
  c.loop-i.invariant.4,
  (the_rules
      (goal.at.overflow_add-next c).Start).narrow,
)

pub value_above-requires : goal.value_above-requires
value_above-requires c = omega (arith, (the_rules (goal.at.value_above-requires c).Start).positive)
