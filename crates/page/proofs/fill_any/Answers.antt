-- `page::fill_any` meets its contract. Assumes nothing.
use Rattle.format.specs.Kit.{◌≡◌, sym, ◌∙◌, subst, ℕ, ◌+◌, ◌%◌, ◌^◌, ◌≤◌, ◌<◌, arith, length, get_or, eqb-true}
use Rattle.format.specs.Refusals.{done}
use Rattle.laws.proofs.Tests.{both_true}
use Rattle.column.specs.Opened.{column_of}
use Rattle.page.specs.Openings.{look_by}
use Rattle.page.specs.Marks.{BlockIs}
use Rattle.page.specs.Parts.{three, Filled}
use Rattle.page.proofs.Parts.{fills_none, fills_on}
use Rattle.page.proofs.Slots.{Known, none_known, renewed}
use Rattle.page.proofs.fill_any.Goals as goal
use Rattle.page.proofs.fill_any.Goals.{then-not-shared, else-not-shared, In-loop-i, Joined-not-shared, Start}

small : (s : Start) → s.args.counted < 2 ^ 64
small s = omega arith

pub loop-i-init : goal.loop-i-init
loop-i-init c =
    (fills_none _ _ _ _ _ (small (goal.at.loop-i-init c).Start), none_known _ _, omega arith)

-- the slots after the id's block was met, or was there
known : (c : Joined-not-shared) →
    let a = c.args in
    Known a.bytes.now (column_of a.column) c.if-not-shared.numbers c.if-not-shared.steps
    × (get_or c.if-not-shared.numbers (c.number_of-number.result % 16) 0 ≡ c.number_of-number.result) × (c.if-not-shared.anew ≤ c.loop-i.i + 1)
known c =
    let a = c.args in
    let v = c.loop-i.invariant in
    let b : ℕ = c.number_of-number.result in
    let s : b % 16 < 16 = omega arith in
    elim c.if-not-shared.branch [
      | then-not-shared w ↦
          let m = subst (λ (x : ℕ). BlockIs a.bytes.now (column_of a.column) x w.met_in-met.result) (sym c.number_of-number.ensures.0) w.met_in-met.ensures in
          let r = renewed _ _ v.1 (b % 16) b w.met_in-met.result s m in
          rw (w.numbers-is, w.steps-is, w.anew-is) (r.0, r.1, omega (arith, v.2))
      | else-not-shared w ↦
          let e = both_true _ _ (sym c.shared.ensures ∙ w.if-not-shared.false) in
          rw (w.numbers-is, w.steps-is, w.anew-is) (v.1, eqb-true _ _ e.0, omega (arith, v.2))
    ]

-- there is room for the id
room : (c : In-loop-i) → let l = c.loop-i in (l.i < length l.ordinals) × (l.i < length l.values) × (l.i < length l.kinds)
room c =
    let k = c.loop-i.invariant.0.within.kept in
    let r = c.requires.3 in (
      omega (arith, r.ordinals_long, k.in_ordinals),
      omega (arith, r.values_long, k.in_values),
      omega (arith, r.kinds_long, k.in_kinds),
    )

pub loop-i-preserved : goal.loop-i-preserved
loop-i-preserved c =
    let k = known (goal.at.loop-i-preserved c).Joined-not-shared in
    let v = c.loop-i.invariant in (
      fills_on v.0 (omega arith) (room (goal.at.loop-i-preserved c).In-loop-i) c.held_in-held.ensures c.put.ensures c.wrapping_add_u64-words.ensures.value,
      k.0,
      k.2,
    )

pub returns : goal.returns
returns c =
    let l = c.loop-i in
    let a = c.args in
    let z : l.i ≡ a.e = omega arith in
    subst (λ (x : ℕ). Filled (look_by a.bytes.now (done (column_of a.column))) a.ids.now a.from x (three a.ordinals.now a.values.now a.kinds.now)
    (three l.ordinals l.values l.kinds) a.counted l.words) z l.invariant.0
