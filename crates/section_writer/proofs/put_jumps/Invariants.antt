use Rattle.section_writer.proofs.Loops.{Jumped}
use Rattle.section_writer.proofs.put_jumps.Given as goal

-- `section_writer::put_jumps` meets its contract. The loop's invariant (`Jumped`) holds since each turn puts the entries of the blocks up to
-- that of the next run, all with the ids and bytes before it. Assumes nothing.
abbrev pub invariant-loop-run : goal.invariant-loop-run
invariant-loop-run l = Jumped l.ids l.p l.initial.out l.at l.run-iterator.rest.now l.ordinal l.next l.start l.pos l.out
