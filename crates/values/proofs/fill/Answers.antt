-- `values::fill` meets its contract. Assumes nothing.
use Rattle.values.specs.Edition.{edition_of}
use Rattle.values.proofs.Layouts.{codec_is}
use Rattle.values.proofs.fill.Goals as goal

pub fill-requires : goal.fill-requires
fill-requires c = rw (codec_is (edition_of c.args.edition) c.layout_of.ensures c.in-Whole.is) at c.requires

pub returns-in-Whole : goal.returns-in-Whole
returns-in-Whole c = rw (codec_is (edition_of c.args.edition) c.layout_of.ensures c.in-Whole.is) c.fill.ensures
