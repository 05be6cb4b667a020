-- `column::number_of` meets its contract. Assumes nothing.
use Rattle.format.specs.Editions.{number_of}
use Rattle.column.proofs.number_of.Goals as goal

pub returns-in-Plain : goal.returns-in-Plain
unfolding number_of
returns-in-Plain c = rw c.in-Plain.is

pub returns-in-Lucene : goal.returns-in-Lucene
unfolding number_of
returns-in-Lucene c = rw c.in-Lucene.is

pub returns-in-Runs : goal.returns-in-Runs
unfolding number_of
returns-in-Runs c = rw c.in-Runs.is

pub returns-in-Table : goal.returns-in-Table
unfolding number_of
returns-in-Table c = rw c.in-Table.is
