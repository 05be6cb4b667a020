-- `demands::fits::each_fits` meets its contract. The loop's invariant: if the values from a turn's place on fit, all do. Assumes nothing.
use Rattle.format.specs.Kit.{drop}
use Rattle.format.specs.Pairs.{Each, Fits}
use Rattle.demands.proofs.fits.each_fits.Given as goal

abbrev pub invariant-loop-v : goal.invariant-loop-v
invariant-loop-v l = Each Fits (drop l.v-index l.values) → Each Fits l.values
