-- `demands::fits::each_fits` meets its contract. The loop's invariant: if the values from a turn's place on fit, all do. Assumes nothing.
use Rattle.format.specs.Kit.{◌≡◌, sym, subst, [], ◌∷◌, ◌+◌, ◌<◌, ◌≤◌, ◌^◌, add-one, pos, ℤ, mag, length, get_or, drop, drop-cons}
use Rattle.format.specs.Kit.{drop_of_length-le}
use Rattle.format.specs.Pairs.{Each, Fits}
use Rattle.laws.proofs.Fits.{size_fits}
use Rattle.demands.proofs.fits.each_fits.Goals as goal

pub loop-v-preserved : goal.loop-v-preserved
loop-v-preserved c =
    let vs = c.args.values.now in
    let i = c.loop-v.v-index in
    let v : ℤ = get_or vs i (pos 0) in
    let f : mag v < 2 ^ 63 = c.look_at-arg-1.given in
    let d : drop i vs ≡ v ∷ drop (i + 1) vs = rw (add-one i) (drop-cons vs i (pos 0) c.loop-v-test.true) in
    λ r. c.loop-v.invariant (subst (Each Fits) (sym d) (size_fits v f, r))

pub returns : goal.returns
returns c =
    let past : length c.args.values.now ≤ c.loop-v.v-index = c.loop-v-test.false in
    let d : drop c.loop-v.v-index c.args.values.now ≡ [] = rw drop_of_length-le in
    c.loop-v.invariant (subst (Each Fits) (sym d) tt)
