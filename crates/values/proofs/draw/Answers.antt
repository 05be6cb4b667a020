-- `values::draw` meets its contract. Assumes nothing.
use Rattle.values.specs.Edition.{edition_of}
use Rattle.values.proofs.Layouts.{codec_is}
use Rattle.values.proofs.draw.Goals as goal

pub draw-requires : goal.draw-requires
draw-requires c = rw (codec_is (edition_of c.args.edition) c.layout_of.ensures c.in-Whole.is) at c.requires

pub returns-in-Whole : goal.returns-in-Whole
returns-in-Whole c = rw (codec_is (edition_of c.args.edition) c.layout_of.ensures c.in-Whole.is) c.draw.ensures
