-- `table_values::draw` meets its contract. Invariant: what is left are the values from ordinal o on, and code o stands at the place that
use Rattle.format.specs.Kit.{◌≡◌, sym, ap, ◌∙◌, subst, Option, List, ◌∷◌, ℕ, suc, ◌+◌, ◌-◌, ◌*◌, ◌%◌, ◌≤◌, ◌<◌, arith, rules, ℤ, set}
use Rattle.format.specs.Kit.{length}
use Rattle.format.specs.Kit.{bit_and, and_mask, mul-le-mul_right, take, drop, length-drop}
use mir.Facts.{to_z-of_z}
use mir.Syntax.{w64}
use Rattle.format.specs.Stores.{Fill}
use Rattle.format.specs.Bits.{packed_bytes}
use Rattle.format.specs.Editions.{table, codec, high_first}
use Rattle.format.specs.Table.{table_value}
use Rattle.laws.proofs.Bits.{within}
use Rattle.laws.proofs.Stores.{one_more, filled, reached}
use Rattle.laws.proofs.Fits.{fits_size}
use Rattle.laws.proofs.Editions.{lawful}
use Rattle.laws.proofs.Table.{TableRules}
use Rattle.packing.proofs.Join.{place_next}
use Rattle.answers.specs.Replies.{fields_of, fetched_of}
use Rattle.table_values.specs.Codes.{code_value}
use Rattle.table_values.proofs.Facts.{rules_are, value_is, narrow, table_within, rest_is, high_width, high_fetch}
use Rattle.format.specs.Drawn.{drawn}
use Rattle.laws.proofs.Drawn.{drawn_some, drawn_none, drawn_zero}
use Rattle.table_values.proofs.draw.Goals as goal
use Rattle.table_values.proofs.draw.Goals.{After-value_of, In-loop-i, Start}

the_rules : (s : Start) → TableRules s.args.n (fields_of s.args.fields) (length s.args.section.now)
the_rules s = rules_are _ _ _ s.requires.1

thin : (s : Start) → s.args.fields.width ≤ 8
thin s = narrow s.args.section.now (the_rules s)

-- the codes after the table
abbrev codes : Start → List ℕ
codes s = let a = s.args in take (length a.section.now - 8 * a.fields.divisor) (drop (8 * a.fields.divisor) a.section.now)

holds : (s : Start) → s.args.n * s.args.fields.width ≤ 8 * length (codes s)
holds s =
    let a = s.args in
    let r = the_rules s in
    let e = ap (λ (k : ℕ). packed_bytes a.n k) r.width_is in
    let l = ap length (rest_is a.section.now (8 * a.fields.divisor)) in
    omega (arith, r.bytes, l, length-drop (8 * a.fields.divisor) a.section.now, e)

-- ordinal o is one of the n
below : (c : In-loop-i) → (c.args.x + (c.loop-i.i - c.args.from)) < c.args.n
below c = omega (arith, c.loop-i-test.true, c.loop-i.invariant.0, c.requires.2)

pub byte_of-at-requires : goal.byte_of-at-requires
byte_of-at-requires c =
    let h : c.args.x ≤ c.args.n = omega (arith, c.requires.2) in
    (omega (arith, thin (goal.at.byte_of-at-requires c).Start), omega (arith, holds (goal.at.byte_of-at-requires c).Start, mul-le-mul_right c.args.fields.width h, c.well_formed))

-- what is drawn is step 7
read : (c : After-value_of) → let a = c.args in
    fetched_of c.value_of.result ≡ (codec table).value a.n (fields_of a.fields) a.section.now (c.args.x + (c.loop-i.i - c.args.from))
unfolding table_value
read c =
    let a = c.args in
    let s : List ℕ = a.section.now in
    let t : ℕ = a.fields.divisor in
    c.value_of.ensures
    ∙ ap (code_value t s) (c.next_of-code.ensures ∙ ap (λ (y : List ℕ). high_first.fetch y a.fields.width (c.args.x + (c.loop-i.i - c.args.from))) (rest_is s (8 * t))
    ∙ high_fetch (drop (8 * t) s) a.fields.width (c.args.x + (c.loop-i.i - c.args.from)))
    ∙ sym (value_is a.n (fields_of a.fields) s (c.args.x + (c.loop-i.i - c.args.from)))

pub returns-in_default : goal.returns-in_default
returns-in_default c =
    let l = c.loop-i in
    let e = drawn_none _ _ _ (sym (read (goal.at.returns-in_default c).After-value_of) ∙ ap fetched_of c.in_default.is) in
    (reached _ _ _ _ _ _ l.invariant.2 e, filled _ _ _ _ _ _ l.invariant.2 e)

pub loop-i-preserved : goal.loop-i-preserved
loop-i-preserved c =
    let l = c.loop-i in
    let a = c.args in
    let w : ℕ = a.fields.width in
    let ord : ℕ = a.x + (l.i - a.from) in
    let z = c.in-Some.value in
    let f : ℕ → Option ℤ = (codec table).value a.n (fields_of a.fields) a.section.now in
    let o = sym (read (goal.at.loop-i-preserved c).After-value_of) ∙ ap fetched_of c.in-Some.is in
    let m = fits_size z ((lawful table).fit a.n (fields_of a.fields) a.section.now ord z o) in
    let k : a.end - l.i ≡ suc (a.end - (l.i + 1)) = omega (arith, c.loop-i-test.true) in
    let one : suc ord ≡ a.x + (l.i + 1 - a.from) = omega (arith, l.invariant.0) in
    let next : ord + 1 ≡ a.x + (l.i + 1 - a.from) = omega (arith, l.invariant.0) in
    let more = ap (λ (j : ℕ). drawn f j ord) k ∙ drawn_some f (a.end - (l.i + 1)) ord z o
    ∙ ap (λ (y : ℕ). z ∷ drawn f (a.end - (l.i + 1)) y) one in
    let g : bit_and (l.skip + w) 7 ≡ (l.skip + w) % 8 = and_mask (l.skip + w) 3 in (
      omega arith,
      omega (arith, c.loop-i-test.true),
      subst (λ (y : List ℤ). Fill a.values.now a.from (drawn f (a.end - a.from) a.x) y (l.i + 1) (drawn f (a.end - (l.i + 1)) (a.x + (l.i + 1 - a.from))))
          (sym (ap (set l.values l.i) (to_z-of_z {w = w64} {z = z} (record { sfits = m }))))
          (one_more _ _ _ _ _ _ l.invariant.2 z _ more),
      rw g (place_next ord w l.at l.skip l.invariant.3 ∙ ap (λ (j : ℕ). j * w) next),
      omega (arith, g),
    )

pub overflow_add-at : goal.overflow_add-at
overflow_add-at c =
    let l = c.loop-i in
    let e = within (c.args.x + (l.i - c.args.from)) c.args.fields.width c.args.n (below (goal.at.overflow_add-at c).In-loop-i) in
    let f = holds (goal.at.overflow_add-at c).Start in
    let h : l.at * 8 + l.skip + c.args.fields.width ≤ 8 * length (codes (goal.at.overflow_add-at c).Start) = omega (arith, l.invariant.3) in
    search rules

pub returns : goal.returns
returns c =
    let l = c.loop-i in
    let z : c.args.end - l.i ≡ 0 = omega (arith, c.loop-i-test.false, l.invariant.1) in
    let e = drawn_zero _ _ (c.args.x + (l.i - c.args.from)) z in
    (omega (arith, c.loop-i-test.false, l.invariant.1, reached _ _ _ _ _ _ l.invariant.2 e), filled _ _ _ _ _ _ l.invariant.2 e)

pub overflow_mul-start : goal.overflow_mul-start
overflow_mul-start c = omega (arith, table_within c.args.section.now (the_rules (goal.at.overflow_mul-start c).Start))

pub slice_bounds-codes-count : goal.slice_bounds-codes-count
slice_bounds-codes-count c = omega (arith, table_within c.args.section.now (the_rules (goal.at.slice_bounds-codes-count c).Start))

pub slice_bounds-codes-start : goal.slice_bounds-codes-start
slice_bounds-codes-start c = omega (arith, table_within c.args.section.now (the_rules (goal.at.slice_bounds-codes-start c).Start))

pub skip_of-skip-requires : goal.skip_of-skip-requires
skip_of-skip-requires c = omega (arith, thin (goal.at.skip_of-skip-requires c).Start)

pub next_of-code-requires : goal.next_of-code-requires
next_of-code-requires c = let v = c.loop-i.invariant in (
  high_width _ (omega (arith, thin (goal.at.next_of-code-requires c).Start)),
  below c,
  holds
      (goal.at.next_of-code-requires c).Start,
  v.3,
  v.4,
)

pub value_of-requires : goal.value_of-requires
value_of-requires c = table_within c.args.section.now
    (the_rules (goal.at.value_of-requires c).Start)

pub overflow_add-next : goal.overflow_add-next
overflow_add-next c = omega (
  arith,
  c.loop-i.invariant.4,
  thin
      (goal.at.overflow_add-next c).Start,
)
