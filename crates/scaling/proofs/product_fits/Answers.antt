-- `scaling::product_fits` meets its contract. Assumes nothing.
use Rattle.scaling.proofs.Guess.{leb_over}
use Rattle.scaling.proofs.product_fits.Goals as goal

pub returns : goal.returns
returns c =
    leb_over c.args.stored c.args.divisor c.args.room c.requires

pub overflow_mul-result : goal.overflow_mul-result
overflow_mul-result c = record { fits = c.product_small.ensures c.if-product_small.true }
