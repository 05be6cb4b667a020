-- The tests of each edition take just what some values are written as. Assumes nothing.
use Rattle.format.specs.Editions.{Edition, plain, lucene, runs, table, codec}
use Rattle.laws.proofs.Halves.{Tested}
use Rattle.packings.specs.declared.Order as Od
use Rattle.scaled_check.proofs.Accepted.{scaled_tested}
use Rattle.run_check.proofs.Accepted.{runs_tested}
use Rattle.table_check.proofs.Accepted.{table_tested}
use Rattle.values.specs.Edition.{tests}

pub tested : (ed : Edition) → Tested (codec ed) (tests ed)
unfolding codec tests
tested plain = scaled_tested Od.Order.High
tested lucene = scaled_tested Od.Order.Low
tested runs = runs_tested
tested table = table_tested
