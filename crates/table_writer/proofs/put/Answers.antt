-- `table_writer::put` meets its contract: the codes go into the part that follows the table. Assumes nothing.
use Rattle.format.specs.Kit.{ap, ◌∙◌, ◌*◌, ◌≤◌, arith, length, length-drop}
use Rattle.laws.proofs.Table.{length_section}
use Rattle.table_writer.proofs.Written.{section_made}
use Rattle.table_values.proofs.Facts.{rest_is}
use Rattle.table_writer.proofs.put.Goals as goal
use Rattle.table_writer.proofs.put.Goals.{After-slice_known-2-1, Start}

-- the section fits, and so does the table
fits : (s : Start) → 8 * length s.args.table.now ≤ length s.args.out.now
fits s = omega (arith, length_section s.args.table.now s.args.values.now, s.requires.4)

within : (c : After-slice_known-2-1) → 8 * length c.args.table.now ≤ length
    c.put_entries.new.out
within c = omega (arith, fits (goal.at.After-slice_known-2-1 c).Start, c.put_entries.auto.out)

pub put_codes-requires : goal.put_codes-requires
put_codes-requires c =
    let mid = c.put_entries.new.out in
    let at = 8 * length c.args.table.now in
    let rest = ap length (rest_is mid at) ∙ length-drop at mid in
    let total = length_section c.args.table.now c.args.values.now in
    (c.requires.0, c.requires.1, c.requires.2, c.requires.3, omega (arith, rest, total, c.put_entries.auto.out, c.requires.4))

pub returns : goal.returns
returns c =
    section_made c.args.table.now c.args.values.now c.args.out.now c.put_entries.new.out c.put_codes.new.out c.requires.4
    c.put_entries.ensures c.put_codes.ensures

pub put_entries-requires : goal.put_entries-requires
put_entries-requires c = fits (goal.at.put_entries-requires c).Start

pub slice_bounds-put_codes-start : goal.slice_bounds-put_codes-start
slice_bounds-put_codes-start c = omega (arith, within c)

pub slice_bounds-put_codes-count : goal.slice_bounds-put_codes-count
slice_bounds-put_codes-count c = within c
