-- `packings::width_for` meets its contract. Assumes nothing.
use Rattle.format.specs.Kit.{sym, ap, ◌∙◌}
use Rattle.format.specs.Editions.{high_first, low_first}
use Rattle.packings.specs.Packings.{listed_from}
use Rattle.packings.proofs.Widths.{width_from}
use Rattle.packings.proofs.width_for.Goals as goal

pub returns-in-High : goal.returns-in-High
unfolding high_first
returns-in-High c = rw c.in-High.is c.bit_length.ensures.0

pub returns-in-Low : goal.returns-in-Low
unfolding low_first
returns-in-Low c =
    rw c.in-Low.is
    (c.listed_from.ensures ∙ ap listed_from c.bit_length-in-Low.ensures.0 ∙ sym (width_from c.args.q c.ranges.q.fits))
