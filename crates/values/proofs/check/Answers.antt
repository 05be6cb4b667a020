-- `values::check` meets its contract. Assumes nothing.
use Rattle.values.specs.Edition.{edition_of}
use Rattle.values.proofs.Layouts.{codec_is, tests_are}
use Rattle.values.proofs.check.Goals as goal

pub values_ok-requires : goal.values_ok-requires
values_ok-requires c = rw (codec_is (edition_of c.args.edition) c.layout_of.ensures c.in-Whole.is) at c.requires

pub returns-in-Whole : goal.returns-in-Whole
returns-in-Whole c = rw (tests_are (edition_of c.args.edition) c.layout_of.ensures c.in-Whole.is) c.values_ok.ensures

pub returns-in-Runs : goal.returns-in-Runs
returns-in-Runs c = rw (tests_are (edition_of c.args.edition) c.layout_of.ensures c.in-Runs.is) c.values_ok-in-Runs.ensures

pub returns-in-Table : goal.returns-in-Table
returns-in-Table c = rw (tests_are (edition_of c.args.edition) c.layout_of.ensures c.in-Table.is) c.values_ok-in-Table.ensures
