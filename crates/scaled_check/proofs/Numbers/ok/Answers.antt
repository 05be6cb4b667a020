-- `scaled_check::Numbers::ok` meets its contract. Assumes nothing.
use Rattle.format.specs.Kit.{◌≡◌, sym, ap, ◌∙◌, Bool, ◌&&◌, ◌+◌, ◌-◌, ◌^◌, ℕ, zero-le, arith, pow_mono, pow_pos, length}
use Rattle.format.specs.Values.{fits64}
use Rattle.answers.specs.Replies.{fields_of}
use Rattle.scaled_values.specs.Held.{numbers_in, value_from}
use Rattle.scaled_values.proofs.Facts.{Rules, rules_kept}
use Rattle.scaled_check.specs.ValuesOk.{numbers_ok}
use Rattle.scaled_check.specs.Numbered.{Known, ranged}
use Rattle.scaled_check.proofs.Turns.{most_is, ended, stops}
use Rattle.scaled_check.proofs.Numbers.ok.Goals as goal
use Rattle.scaled_check.proofs.Numbers.ok.Goals.{After-fits-sure, After-pow2-half, After-widened-next, Start}

-- ---- before the loop
the_rules : (st : Start) → let a = st.args.self.now in Rules a.order a.n (fields_of a.fields) (length a.section.now)
the_rules st = rules_kept _ _ _ _ st.args.self.now.kept.rules

-- the greatest number of the width
greatest : (p : After-pow2-half) → p.pow2-half.result - 1 + p.pow2-half.result ≡ 2 ^ p.args.self.now.fields.width - 1
greatest p = most_is p.args.self.now.fields.width p.pow2-half.result p.args.self.now.kept.some p.pow2-half.ensures

known : (t : After-fits-sure) → let a = t.args.self.now in
    Known a.order (fields_of a.fields) t.fits-sure.result t.pow2-top.result
known t =
    record {
      small = omega (arith, t.type_inv.self);
      sure_is = t.fits-sure.ensures ∙ ap (λ (x : ℕ). fits64 (value_from (fields_of t.args.self.now.fields) x)) (greatest (goal.at.After-fits-sure t).After-pow2-half);
      top_is = t.pow2-top.ensures ∙ ap (λ (k : ℕ). 2 ^ k) t.narrower.ensures.0;
    }

pub pow2-half-requires : goal.pow2-half-requires
pow2-half-requires c = omega (arith, c.args.self.now.kept.some, (the_rules (goal.at.pow2-half-requires c).Start).narrow)

pub overflow_add-most : goal.overflow_add-most
overflow_add-most c =
    omega (arith, greatest c, pow_mono {i = c.args.self.now.fields.width} {j = 64} (the_rules (goal.at.overflow_add-most c).Start).narrow)

pub pow2-top-requires : goal.pow2-top-requires
pow2-top-requires c = omega (arith, c.narrower.ensures.1, (the_rules (goal.at.pow2-top-requires c).Start).narrow)

pub fits-sure-requires : goal.fits-sure-requires
fits-sure-requires c = (the_rules (goal.at.fits-sure-requires c).Start).positive

pub loop-i-init : goal.loop-i-init
loop-i-init c =
    let a = c.args.self.now in (
      zero-le,
      pow_pos a.fields.width,
      ap (λ (k : ℕ). numbers_ok a.order (fields_of a.fields) k 0 0 (numbers_in a.order a.fields.width a.n a.section.now))
          (greatest (goal.at.loop-i-init c).After-pow2-half),
    )

-- ---- a turn
pub widened-next-requires : goal.widened-next-requires
widened-next-requires c =
    let e = c.part_end-end.ensures in
    (known (goal.at.widened-next-requires c).After-fits-sure, omega (arith, e.0), e.1, c.loop-i.invariant.1)

-- with the numbers taken one by one
after : (c : After-widened-next) → let a = c.args.self.now in
    ranged a.order a.n (fields_of a.fields) a.section.now c.part_end-end.result c.widened-next.result
    ≡ numbers_ok a.order (fields_of a.fields) (2 ^ a.fields.width - 1) 0 0 (numbers_in a.order a.fields.width a.n a.section.now)
after c = c.widened-next.ensures.1 ∙ c.loop-i.invariant.2

pub returns-then-settled : goal.returns-then-settled
returns-then-settled c =
    sym (stops (known (goal.at.returns-then-settled c).After-fits-sure) _ _ _ _ _ c.part_end-end.result (the_rules (goal.at.returns-then-settled c).Start) c.widened-next.ensures.0
    c.settled.ensures c.if-settled.true) ∙ after (goal.at.returns-then-settled c).After-widened-next

pub loop-i-preserved : goal.loop-i-preserved
loop-i-preserved c =
    let e = c.steady_end-i.ensures in
    (e.1, c.widened-next.ensures.0, e.2 ∙ after (goal.at.loop-i-preserved c).After-widened-next)

-- ---- none is left
pub fits-requires : goal.fits-requires
fits-requires c = (the_rules (goal.at.fits-requires c).Start).positive

pub returns-else-exact : goal.returns-else-exact
returns-else-exact c =
    let a = c.args.self.now in
    c.if-exact.false
    ∙ ended (known (goal.at.returns-else-exact c).After-fits-sure) _ _ _ _ _ c.loop-i.i c.loop-i-test.false c.exact.ensures
    (ap (λ (b : Bool). b && fits64 (value_from (fields_of a.fields) c.loop-i.range.hi)) (sym c.if-exact.false))
    ∙ c.loop-i.invariant.2

pub returns-then-exact : goal.returns-then-exact
returns-then-exact c =
    let a = c.args.self.now in
    ended (known (goal.at.returns-then-exact c).After-fits-sure) _ _ _ _ _ c.loop-i.i c.loop-i-test.false c.exact.ensures
    (c.fits.ensures
    ∙ ap (λ (b : Bool). b && fits64 (value_from (fields_of a.fields) c.loop-i.range.hi)) (sym c.if-exact.true))
    ∙ c.loop-i.invariant.2
