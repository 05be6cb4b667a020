-- `tables::place` meets its contract. The loop's invariant: entries before lo are below the value, those from hi on are not.
use Rattle.format.specs.Kit.{◌≡◌, sym, ap, ap₂, ◌∙◌, subst, ◌+◌, ◌-◌, ◌/◌, ◌^◌, ◌<◌, arith, ltb, ℤ, pos, mag, lt_z, get_or, rules}
use Rattle.signed.specs.Sign.{biased, unbiased}
use Rattle.signed.proofs.Signs.{read_back, biased_unbiased, unbiased_size}
use Rattle.tables.proofs.Placed.{biased_lt, Split, split_turn, split_end}
use Rattle.tables.proofs.place.Goals as goal
use Rattle.tables.proofs.place.Goals.{After-biased}

-- the test on the middle entry is the order of the signed numbers
tested : (c : After-biased) → let a = c.args in
    lt_z (get_or a.table.now (c.loop-lo.lo + (c.loop-lo.hi - c.loop-lo.lo) / 2) (pos 0)) (unbiased a.b) ≡ ltb c.biased.result a.b
tested c =
    let a = c.args in
    let x : ℤ = get_or a.table.now (c.loop-lo.lo + (c.loop-lo.hi - c.loop-lo.lo) / 2) (pos 0) in
    let f : mag x < 2 ^ 63 = c.biased-arg-1.given in
    let small : a.b < 2 ^ 64 = search rules in
    biased_lt x (unbiased a.b) f (unbiased_size a.b small)
    ∙ ap₂ ltb (sym (c.biased.ensures ∙ ap biased (read_back x f))) (biased_unbiased a.b)

pub loop-lo-preserved : goal.loop-lo-preserved
loop-lo-preserved c =
    rw (c.chosen-lo.ensures, c.chosen-hi.ensures)
    (split_turn _ _ c.loop-lo.lo c.loop-lo.hi (c.loop-lo.lo + (c.loop-lo.hi - c.loop-lo.lo) / 2) c.requires c.loop-lo.invariant (omega arith)
    (omega (arith, c.loop-lo-test.true)) _ (tested (goal.at.loop-lo-preserved c).After-biased))

pub returns : goal.returns
returns c =
    let l = c.loop-lo in
    let meet : l.hi ≡ l.lo = omega (arith, c.loop-lo-test.false, l.invariant.order) in
    (sym (split_end _ _ l.lo (subst (Split _ _ l.lo) meet l.invariant)), omega (arith, l.invariant.inside, l.invariant.order))
