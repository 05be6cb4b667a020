-- `set_writer::put_head` meets its contract. Assumes nothing.
use Rattle.format.specs.Kit.{ap, ℕ, arith, length}
use Rattle.format.specs.HeaderNumbers.{number}
use Rattle.set_writer.proofs.Blocks.{head_put, head_long}
use Rattle.set_writer.proofs.put_head.Goals as goal

pub put_number-a-requires : goal.put_number-a-requires
put_number-a-requires c = omega (arith, c.requires, head_long c.args.h)

pub put_number-b-requires : goal.put_number-b-requires
put_number-b-requires c =
    let p = c.put_number-a in
    omega (arith, c.requires, head_long c.args.h, p.ensures.0, p.auto.out, ap (λ (x : ℕ). length (number x)) c.number.ensures)

pub put_number-requires : goal.put_number-requires
put_number-requires c =
    omega (
      arith,
      c.requires,
      head_long c.args.h,
      c.put_number-a.ensures.0,
      c.put_number-a.auto.out,
      c.put_number-b.ensures.0,
      c.put_number-b.auto.out,
      ap (λ (x : ℕ). length (number x)) c.number.ensures,
      ap (λ (x : ℕ). length (number x)) c.long.ensures,
    )

pub returns : goal.returns
returns c =
    let long = c.long.ensures in
    let kind = c.number.ensures in
    let h = head_put c.args.h c.args.out.now c.args.at c.put_number-a.result c.put_number-b.result c.put_number-a.ensures.0
    (rw kind at c.put_number-b.ensures.0) in (
      rw (c.put_number.ensures.1, c.put_number-b.ensures.1, c.put_number-a.ensures.1, long, kind) h,
      omega (
        arith,
        head_long c.args.h,
        c.put_number-a.ensures.0,
        c.put_number-b.ensures.0,
        c.put_number.ensures.0,
        ap (λ (x : ℕ). length (number x)) kind,
        ap (λ (x : ℕ). length (number x)) long,
      ),
    )
