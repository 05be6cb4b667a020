use Rattle.format.specs.Kit.{drop}
use Rattle.answers.specs.Replies.{fields_of}
use Rattle.format.specs.Stores.{Fill}
use Rattle.scaled_values.specs.Held.{numbers_in, values_from}
use Rattle.scaled_reader.proofs.fill.Given as goal

-- `scaled_reader::fill` meets its contract. The loop's invariant: the values of the numbers passed are stored. Assumes nothing.
abbrev pub invariant-loop-i : goal.invariant-loop-i
invariant-loop-i l =
    Fill l.initial.values l.done (values_from (fields_of l.fields) (drop l.done (numbers_in l.order l.fields.width l.n l.section))) l.values l.i
    (values_from (fields_of l.fields) (drop l.i (numbers_in l.order l.fields.width l.n l.section)))
