-- `section_writer::jump_count` meets its contract. Assumes nothing.
use Rattle.format.specs.Kit.{arith, sym, ap, ◌∙◌, length}
use Rattle.section_writer.specs.Good.{Good}
use Rattle.section_writer.proofs.Whole.{good, jumps_two, length_other}
use Rattle.section_writer.proofs.jump_count.Goals as goal
use Rattle.section_writer.proofs.jump_count.Goals.{Start}

runs_good : (s : Start) → Good s.args.ids.now
runs_good s = good s.requires.0 s.requires.1

pub returns-then-n-eq2 : goal.returns-then-n-eq2
returns-then-n-eq2 c =
    let e = c.entries-n.ensures.0 in
    ((λ p. sym (ap length (jumps_two p (runs_good (goal.at.returns-then-n-eq2 c).Start) (sym e ∙ c.if-n-eq2.true)))), omega arith)

pub returns : goal.returns
returns c =
    let e = c.entries-n.ensures in
    ((λ p. e.0 ∙ sym (length_other p (runs_good (goal.at.returns c).Start) (λ q. c.if-n-eq2.false (e.0 ∙ q)))), e.1)

pub entries-n-requires : goal.entries-n-requires
entries-n-requires c = runs_good (goal.at.entries-n-requires c).Start
