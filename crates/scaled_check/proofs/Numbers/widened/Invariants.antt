use Rattle.answers.specs.Replies.{fields_of}
use Rattle.scaled_check.specs.Numbered.{ranged}
use Rattle.scaled_check.proofs.Turns.{Turn}
use Rattle.scaled_check.proofs.Numbers.widened.Given as goal

-- `scaled_check::Numbers::widened` meets its contract. The loop's invariant holds since a turn makes of the range so far, with number i, what the
-- definition makes of it. Assumes nothing.
abbrev pub invariant-loop-i : goal.invariant-loop-i
invariant-loop-i l =
    Turn l.self.order l.self.n (fields_of l.self.fields) l.self.section.now
    (ranged l.self.order l.self.n (fields_of l.self.fields) l.self.section.now l.from l.initial.range) l.range l.m l.i
