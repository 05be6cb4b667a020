-- `table_values::fill` meets its contract. The loop's invariant: of the values that are all there, those from i on are still to be stored, and
use Rattle.format.specs.Kit.{◌≡◌, refl, sym, ap, ◌∙◌, List, ◌∷◌, ◌++◌, some, ℕ, ◌+◌, ◌-◌, ◌*◌, ◌%◌, ◌<◌, ◌≤◌, add-one, arith, ℤ, pos, length, get_or, drop}
use Rattle.format.specs.Kit.{drop-cons, drop_of_length-le, length-drop, bit_and, and_mask, rules}
use mir.Syntax.{w64}
use mir.Val.{to_z, of_z}
use mir.Facts.{to_z-of_z}
use Rattle.format.specs.Bytes.{low_at, untwos}
use Rattle.format.specs.Bits.{fetched, packed_bytes}
use Rattle.format.specs.Table.{table_value}
use Rattle.format.specs.Check.{all_values}
use Rattle.answers.specs.Replies.{fields_of}
use Rattle.laws.proofs.Bits.{within}
use Rattle.laws.proofs.Stores.{one_more, filled, sets_front}
use Rattle.laws.proofs.RoundTrip.{all_length, all_at}
use Rattle.laws.proofs.Table.{TableRules}
use Rattle.packing.proofs.Join.{place_next}
use Rattle.table_values.proofs.Facts.{rules_are, values_are, narrow, table_within, rest_is, high_width, high_fetch, there_code}
use Rattle.table_values.proofs.fill.Goals as goal
use Rattle.table_values.proofs.fill.Goals.{After-next_of-code, At-loop-i, In-loop-i, Start}

-- ---- what is asked
the_rules : (s : Start) → TableRules s.args.n (fields_of s.args.fields) (length s.args.section.now)
the_rules s = rules_are _ _ _ s.requires.0

-- the values that are all there
there : (c : At-loop-i) → let a = c.args in
    all_values a.n (table_value a.fields.divisor c.size-w.result a.section.now) ≡ some c.requires.2.0
there c =
    let a = c.args in
    values_are a.n (fields_of a.fields) a.section.now c.size-w.result c.size-w.ensures ∙ c.requires.2.1

thin : (c : At-loop-i) → c.size-w.result ≤ 8
thin c = omega (arith, c.size-w.ensures, narrow c.args.section.now (the_rules (goal.at.At-loop-i c).Start))

-- the codes after the table
held : (c : At-loop-i) → let a = c.args in
    a.n * c.size-w.result ≤ 8 * (length a.section.now - 8 * a.fields.divisor)
held c =
    let a = c.args in
    let r = the_rules (goal.at.At-loop-i c).Start in
    let e = ap (λ (k : ℕ). packed_bytes a.n k) r.width_is in
    let w = ap (λ (k : ℕ). a.n * k) c.size-w.ensures in
    omega (arith, r.bytes)

-- ---- a turn
pub next_of-code-requires : goal.next_of-code-requires
next_of-code-requires c =
    let a = c.args in
    let rest = ap length (rest_is a.section.now (8 * a.fields.divisor)) ∙ length-drop (8 * a.fields.divisor) a.section.now in (
      high_width _ (omega (arith, thin (goal.at.next_of-code-requires c).At-loop-i)),
      c.loop-i-test.true,
      omega (arith, rest, held (goal.at.next_of-code-requires c).At-loop-i),
      c.loop-i.invariant.2,
      c.loop-i.invariant.3,
    )

-- code i, and what stands at it in the table
code : (c : After-next_of-code) → let a = c.args in
    c.next_of-code.result ≡ fetched (drop (8 * a.fields.divisor) a.section.now) c.size-w.result c.loop-i.i
code c =
    let a = c.args in
    c.next_of-code.ensures ∙ high_fetch _ _ _
    ∙ ap (λ (s : List ℕ). fetched s c.size-w.result c.loop-i.i) (rest_is a.section.now (8 * a.fields.divisor))

inside : (c : After-next_of-code) → c.next_of-code.result < c.args.fields.divisor
inside c =
    let v = all_at _ _ _ (there (goal.at.After-next_of-code c).At-loop-i) c.loop-i.i c.loop-i-test.true in
    omega (arith, code c, (there_code _ _ _ _ _ v).0)

pub overflow_add-at : goal.overflow_add-at
overflow_add-at c =
    let e = within c.loop-i.i c.size-w.result c.args.n c.loop-i-test.true in
    let h : c.loop-i.at * 8 + c.loop-i.skip + c.size-w.result ≤ 8 * length c.args.section.now = omega (arith, c.loop-i.invariant.2, held (goal.at.overflow_add-at c).At-loop-i) in
    search rules

pub loop-i-preserved : goal.loop-i-preserved
loop-i-preserved c =
    let a = c.args in
    let w : ℕ = c.size-w.result in
    let i : ℕ = c.loop-i.i in
    let more : i < a.n = c.loop-i-test.true in
    let v : ℤ = c.entry-v.result in
    let m : bit_and (c.loop-i.skip + w) 7 ≡ (c.loop-i.skip + w) % 8 = and_mask (c.loop-i.skip + w) 3 in (
      omega (arith, more),
      (λ t e vs g.
          let at_i = there_code t w a.section.now i (get_or vs i (pos 0)) (all_at _ _ vs g i more) in
          let x : c.size.result ≡ fetched (drop (8 * t) a.section.now) w i =
          c.size.ensures ∙ code (goal.at.loop-i-preserved c).After-next_of-code ∙ ap (λ (b : ℕ). fetched (drop b a.section.now) w i) e in
          let is : v ≡ get_or vs i (pos 0) = c.entry-v.ensures ∙ ap (λ (b : ℕ). untwos (low_at 8 a.section.now (8 * b))) x ∙ at_i.1 in
          let same : to_z w64 (of_z w64 v) ≡ v = to_z-of_z {w = w64} {z = v} (search rules) in
          let here : i < length vs = omega (arith, all_length _ _ vs g, more) in
          one_more _ _ _ _ _ _ (c.loop-i.invariant.1 t e vs g) (to_z w64 (of_z w64 v)) (drop (i + 1) vs)
          (rw add-one (drop-cons vs i (pos 0) here) ∙ ap {B = List ℤ} (λ (z : ℤ). z ∷ drop (i + 1) vs) (sym (same ∙ is)))),
      rw m (place_next i w c.loop-i.at c.loop-i.skip c.loop-i.invariant.2),
      omega (arith, m),
    )

pub returns : goal.returns
returns c vs e =
    let a = c.args in
    let g = values_are a.n (fields_of a.fields) a.section.now c.size-w.result c.size-w.ensures ∙ e in
    let n : length vs ≡ a.n = all_length _ _ vs g in
    let all : length vs ≤ c.loop-i.i = omega (arith, n, c.loop-i-test.false) in
    filled _ _ _ _ _ _ (c.loop-i.invariant.1 _ refl vs g) (drop_of_length-le vs all)
    ∙ sets_front a.values.now vs (omega (arith, n, c.requires.1)) ∙ ap (λ (k : ℕ). vs ++ drop k a.values.now) n

pub overflow_mul-start : goal.overflow_mul-start
overflow_mul-start c = omega (arith, (the_rules (goal.at.overflow_mul-start c).Start).most)

pub slice_bounds-next_of-count : goal.slice_bounds-next_of-count
slice_bounds-next_of-count c = omega (arith, table_within c.args.section.now (the_rules (goal.at.slice_bounds-next_of-count c).Start))

pub slice_bounds-next_of-start : goal.slice_bounds-next_of-start
slice_bounds-next_of-start c = omega (arith, table_within c.args.section.now (the_rules (goal.at.slice_bounds-next_of-start c).Start))

pub entry-v-requires : goal.entry-v-requires
entry-v-requires c = omega (arith, c.size.ensures, inside (goal.at.entry-v-requires c).After-next_of-code, table_within c.args.section.now (the_rules (goal.at.entry-v-requires c).Start))

pub overflow_add-next : goal.overflow_add-next
overflow_add-next c = omega (arith, c.loop-i.invariant.3, thin (goal.at.overflow_add-next c).At-loop-i)
