-- `section_writer::put_section` meets its contract. Assumes nothing.
use Rattle.format.specs.Kit.{◌≡◌, ap, ◌+◌, ◌*◌, arith, length}
use Rattle.format.specs.Ids.{runs, jumps_from, jumps, id_section}
use Rattle.format.specs.Runs.{total_bytes}
use Rattle.laws.proofs.Section.{length_id_section}
use Rattle.section_writer.specs.Good.{Good}
use Rattle.section_writer.proofs.Whole.{good, section_two, section_other, jumps_other}
use Rattle.section_writer.proofs.put_section.Goals as goal
use Rattle.section_writer.proofs.put_section.Goals.{Start}

runs_good : (s : Start) → Good s.args.ids.now
runs_good s = good s.requires.0 s.requires.1

long : (s : Start)
    → (let a = s.args in length (id_section a.p a.ids.now) ≡ total_bytes a.p (runs a.ids.now) + (6 + 8 * length (jumps a.p a.ids.now)))
long s = length_id_section s.args.p s.args.ids.now (omega (arith, s.requires.2.most))

pub put_end-requires : goal.put_end-requires
put_end-requires c =
    omega (arith, long (goal.at.put_end-requires c).Start, c.requires.3, c.put_blocks-end.ensures.1, c.put_blocks-end.auto.out)

pub overflow_add-end : goal.overflow_add-end
overflow_add-end c =
    omega (arith, long (goal.at.overflow_add-end c).Start, c.requires.3, c.put_blocks-end.ensures.1)

pub put_jumps-requires : goal.put_jumps-requires
put_jumps-requires c =
    let e = c.entries-n in
    let g = runs_good (goal.at.put_jumps-requires c).Start in
    let o : length (jumps c.args.p c.args.ids.now) ≡ length (jumps_from c.args.p 0 0 0 (runs c.args.ids.now)) =
    ap length (jumps_other c.args.p g (λ q. omega (arith, c.if-n-ne2.true, e.ensures.0))) in
    let kept = c.put_end.auto.out in
    (g, c.requires.2, omega (arith, long (goal.at.put_jumps-requires c).Start, c.requires.3, c.put_blocks-end.ensures.1, c.put_blocks-end.auto.out, kept))

pub returns-then-n-ne2 : goal.returns-then-n-ne2
returns-then-n-ne2 c =
    let o = section_other c.args.p (runs_good (goal.at.returns-then-n-ne2 c).Start) c.args.out.now c.args.at (omega (arith, c.requires.2.most))
    (λ q. omega (arith, c.if-n-ne2.true, c.entries-n.ensures.0)) in
    rw (c.put_jumps.ensures, c.put_end.ensures, c.put_blocks-end.ensures.0, c.put_blocks-end.ensures.1) o

pub returns-else-n-ne2 : goal.returns-else-n-ne2
returns-else-n-ne2 c =
    let o = section_two c.args.p (runs_good (goal.at.returns-else-n-ne2 c).Start) c.args.out.now c.args.at (omega (arith, c.requires.2.most))
    (omega (arith, c.if-n-ne2.false, c.entries-n.ensures.0)) in
    rw (c.put_end.ensures, c.put_blocks-end.ensures.0, c.put_blocks-end.ensures.1) o

pub put_blocks-end-requires : goal.put_blocks-end-requires
put_blocks-end-requires c = (runs_good (goal.at.put_blocks-end-requires c).Start, c.requires.2, omega (arith, long (goal.at.put_blocks-end-requires c).Start, c.requires.3))

pub entries-n-requires : goal.entries-n-requires
entries-n-requires c = runs_good (goal.at.entries-n-requires c).Start
