use Rattle.format.specs.Kit.{◌≡◌, ◌+◌, ◌*◌, ◌^◌, ◌<◌}
use Rattle.answers.specs.Replies.{fields_of}
use Rattle.scaled_check.specs.Numbered.{ok_from}
use Rattle.scaled_check.proofs.Numbers.unmoved.Given as goal

-- `scaled_check::Numbers::unmoved` meets its contract. The loop's invariant: while nothing was past an end or off a multiple, the numbers passed
-- change nothing. Assumes nothing.
abbrev pub invariant-loop-i : goal.invariant-loop-i
invariant-loop-i l =
    (l.bit ≡ l.i * l.self.fields.width)
    × (l.past < 2 ^ 63 → l.off ≡ 0
    → ok_from l.self.order l.self.n (fields_of l.self.fields) l.self.section.now l.i l.lo (l.lo + l.gap) l.g
    ≡ ok_from l.self.order l.self.n (fields_of l.self.fields) l.self.section.now l.from l.lo (l.lo + l.gap) l.g)
