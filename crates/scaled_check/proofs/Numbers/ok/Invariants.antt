use Rattle.format.specs.Kit.{◌≡◌, ◌-◌, ◌^◌, ◌≤◌, ◌<◌}
use Rattle.answers.specs.Replies.{fields_of}
use Rattle.scaled_values.specs.Held.{numbers_in}
use Rattle.scaled_check.specs.ValuesOk.{numbers_ok}
use Rattle.scaled_check.specs.Numbered.{ranged}
use Rattle.scaled_check.proofs.Numbers.ok.Given as goal

-- `scaled_check::Numbers::ok` meets its contract. The loop's invariant: the numbers from i on make of the range what all make of the first.
-- Assumes nothing.
abbrev pub invariant-loop-i : goal.invariant-loop-i
invariant-loop-i l =
    (l.i ≤ l.self.n) × (l.range.hi < 2 ^ l.self.fields.width)
    × (ranged l.self.order l.self.n (fields_of l.self.fields) l.self.section.now l.i l.range
    ≡ numbers_ok l.self.order (fields_of l.self.fields) (2 ^ l.self.fields.width - 1) 0 0
    (numbers_in l.self.order l.self.fields.width l.self.n l.self.section.now))

abbrev pub decreases-loop-i : goal.decreases-loop-i
decreases-loop-i l = l.self.n - l.i
