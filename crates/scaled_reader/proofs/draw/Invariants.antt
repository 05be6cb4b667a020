use Rattle.format.specs.Kit.{◌+◌, ◌-◌}
use Rattle.format.specs.Stores.{Fill}
use Rattle.format.specs.Codec.{scaled}
use Rattle.packings.specs.Packings.{packing_of}
use Rattle.answers.specs.Replies.{fields_of}
use Rattle.format.specs.Drawn.{drawn}
use Rattle.scaled_reader.proofs.draw.Given as goal

-- `scaled_reader::draw` meets its contract. Invariant: what is left are the values from the place's ordinal on. Assumes nothing.
abbrev pub invariant-loop-i : goal.invariant-loop-i
invariant-loop-i l =
    Fill l.initial.values l.from (drawn ((scaled (packing_of l.order)).value l.n (fields_of l.fields) l.section) (l.end - l.from) l.x) l.values l.i
    (drawn ((scaled (packing_of l.order)).value l.n (fields_of l.fields) l.section) (l.end - l.i) (l.x + (l.i - l.from)))
