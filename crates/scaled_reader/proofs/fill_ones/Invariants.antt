use Rattle.format.specs.Kit.{drop}
use Rattle.format.specs.Stores.{Fill}
use Rattle.answers.specs.Replies.{fields_of}
use Rattle.scaled_values.specs.Held.{numbers_in, values_from}
use Rattle.scaled_reader.proofs.fill_ones.Given as goal

-- `scaled_reader::fill_ones` meets its contract. The loop's invariant holds since the window at number i's place begins with it. Assumes nothing.
abbrev pub invariant-loop-i : goal.invariant-loop-i
invariant-loop-i l =
    Fill l.initial.values 0 (values_from (fields_of l.fields) (numbers_in l.order l.fields.width l.n l.section)) l.values l.i
    (values_from (fields_of l.fields) (drop l.i (numbers_in l.order l.fields.width l.n l.section)))
