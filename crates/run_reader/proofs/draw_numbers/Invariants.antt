use Rattle.format.specs.Kit.{◌≡◌, ◌+◌, ◌-◌, ◌*◌, ◌≤◌, ◌<◌}
use Rattle.format.specs.Stores.{Fill}
use Rattle.format.specs.Codec.{scaled}
use Rattle.packings.specs.declared.Order as Od
use Rattle.packings.specs.Packings.{packing_of}
use Rattle.answers.specs.Replies.{fields_of}
use Rattle.format.specs.Drawn.{drawn}
use Rattle.run_reader.proofs.draw_numbers.Given as goal

-- `run_reader::draw_numbers` meets its contract. Invariant: what is left are the values from ordinal o on, and number o stands at the place that
-- is kept. Assumes nothing.
abbrev pub invariant-loop-i : goal.invariant-loop-i
invariant-loop-i l =
    (l.from ≤ l.i) × (l.i ≤ l.end)
    × Fill l.initial.values l.from (drawn ((scaled (packing_of Od.Order.High)).value l.n (fields_of l.fields) l.section) (l.end - l.from) l.x) l.values l.i
    (drawn ((scaled (packing_of Od.Order.High)).value l.n (fields_of l.fields) l.section) (l.end - l.i) (l.x + (l.i - l.from)))
    × (l.at * 8 + l.skip ≡ (l.x + (l.i - l.from)) * l.fields.width) × (l.skip < 8)
