-- `id_reader::without_lowest` meets its contract. Assumes nothing.
use Rattle.id_reader.proofs.Set.{lowest_gone}
use Rattle.id_reader.proofs.without_lowest.Goals as goal

pub returns : goal.returns
returns c = lowest_gone 64 c.args.word c.requires c.ranges.word.fits
