-- `lookup::ask_of` meets its contract. Assumes nothing.
use Rattle.format.specs.Kit.{arith}
use Rattle.column.specs.Opened.{column_of}
use Rattle.laws.proofs.Rules.{head_facts}
use Rattle.lookup.proofs.ask_of.Goals as goal

pub overflow_mul-entries : goal.overflow_mul-entries
overflow_mul-entries c =
    let h = head_facts (column_of c.args.column).head c.requires in
    omega arith

pub overflow_sub-entries : goal.overflow_sub-entries
overflow_sub-entries c =
    let h = head_facts (column_of c.args.column).head c.requires in
    omega arith

pub returns : goal.returns
returns c =
    let h = head_facts (column_of c.args.column).head c.requires in (
      record { entries = omega arith; jumps = omega arith; power = omega arith; count = omega arith; block = omega arith; place = omega arith },
      record { entries = omega arith; power = rw c.size-power.ensures h.power; count = h.count; place = omega arith },
    )
