-- `plans::mark_by` meets its contract. The loop's invariant: the values from i on are still to be looked for and marked. Assumes nothing.
use Rattle.format.specs.Kit.{◌≡◌, sym, ap, ◌∙◌, subst, true, ℕ, ◌^◌, ◌<◌, arith, ℤ, pos, mag, length-replicate, get_or}
use Rattle.format.specs.Table.{code_in}
use Rattle.laws.proofs.Cases.{false_true}
use Rattle.signed.specs.Sign.{biased, unbiased}
use Rattle.signed.proofs.Signs.{read_back, unbiased_biased}
use Rattle.tables.specs.Holds.{Stands}
use Rattle.plans.proofs.Checked.{marking_none, marking_stop, marking_more, marking_end}
use Rattle.plans.proofs.mark_by.Goals as goal
use Rattle.plans.proofs.mark_by.Goals.{After-biased-b, After-has}
use Rattle.plans.proofs.mark_by.Given.{Over}

-- the value of a turn
value : (g : Over) (c : After-biased-b g) → get_or c.args.values.now c.loop-x.x-index (pos 0) ≡ unbiased c.biased-b.result
value g c =
    let v : ℤ = get_or c.args.values.now c.loop-x.x-index (pos 0) in
    let f : mag v < 2 ^ 63 = c.biased-arg-1.given in
    sym (ap unbiased (c.biased-b.ensures ∙ ap biased (read_back v f)) ∙ unbiased_biased v f)

pub place_of-k-requires : goal.place_of-k-requires
place_of-k-requires g c =
    (omega (arith, c.loop-x.invariant.1, c.requires.2), omega (arith, c.loop-x.invariant.1, c.requires.3), c.requires.0)

pub returns-then-not-has : goal.returns-then-not-has
returns-then-not-has g c =
    let us = c.args.table.now in
    let v : ℤ = unbiased c.biased-b.result in
    let has = c.has in
    let no_place : Stands us (code_in us v) v → ⊥ =
    λ x. has.ensures.1 c.if-not-has.true (subst (λ (k : ℕ). Stands us k v) (sym c.place_of-k.ensures.0) x) in (
      marking_stop c.loop-x.invariant.0 v c.loop-x-test.true (value g (goal.at.returns-then-not-has g c).After-biased-b) c.requires.0 no_place,
      λ e. false_true e,
    )

-- the value stands at its place
stands : (g : Over) (c : After-has g) → c.has.result ≡ true → let us = c.args.table.now in
    Stands us (code_in us (unbiased c.biased-b.result)) (unbiased c.biased-b.result)
stands g c e =
    let us = c.args.table.now in
    subst (λ (k : ℕ). Stands us k (unbiased c.biased-b.result)) c.place_of-k.ensures.0 (c.has.ensures.0 e)

pub loop-x-preserved : goal.loop-x-preserved
loop-x-preserved g c = (
  rw c.place_of-k.ensures.0
      (marking_more c.loop-x.invariant.0 (unbiased c.biased-b.result) c.loop-x-test.true (value g (goal.at.loop-x-preserved g c).After-biased-b)
      (stands g (goal.at.loop-x-preserved g c).After-has c.if-not-has.false)),
  c.place_of-k.auto.guesses ∙ c.loop-x.invariant.1,
)

pub bounds-marks-k : goal.bounds-marks-k
bounds-marks-k g c =
    omega (arith, (c.has.ensures.0 c.if-not-has.false).0, c.loop-x.invariant.0.size, c.requires.1)

pub returns : goal.returns
returns g c = let e = marking_end c.loop-x.invariant.0 c.loop-x-test.false in (e.0, λ t. e.1)

pub loop-x-init : goal.loop-x-init
loop-x-init g c = (marking_none _ _ _, length-replicate {A = ℕ} _ 0)
