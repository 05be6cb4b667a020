-- `column::read_numbers` meets its contract: the numbers read so far, before those still to read. Assumes nothing.
use Rattle.format.specs.Kit.{rules, sym, ap, ◌∙◌, arith, length, length-set}
use Rattle.format.specs.HeaderNumbers.{numbers_at}
use Rattle.answers.proofs.PassedOn.{passed_on}
use Rattle.column.specs.Opened.{numbers_of}
use Rattle.column.proofs.HeaderNumbers.{onto_none, reading_end, reading_stopped, reading_more}
use Rattle.column.proofs.read_numbers.Goals as goal

pub loop-slot-init : goal.loop-slot-init
loop-slot-init c = (search rules, onto_none (numbers_at 8 c.args.bytes.now c.args.at))

pub returns-in_err-number : goal.returns-in_err-number
returns-in_err-number c =
    let l = c.loop-slot in
    ap (numbers_of _) (passed_on c.from_residual.result _ c.from_residual.ensures.1)
    ∙ sym (reading_stopped c.args.bytes.now l.out l.i l.slot-index _ (omega arith) (sym c.in_err-number.ensures)) ∙ l.invariant.1

pub loop-slot-preserved : goal.loop-slot-preserved
loop-slot-preserved c =
    let l = c.loop-slot in
    let more = reading_more c.args.bytes.now l.out l.i l.slot-index _ _ (omega arith) l.invariant.0 (sym c.in_ok-number.ensures) in
    (length-set l.out l.slot-index _ ∙ l.invariant.0, sym more ∙ l.invariant.1)

pub returns : goal.returns
returns c =
    let l = c.loop-slot in
    let s = c.args.bytes.now in
    sym (reading_end s l.out l.i l.slot-index l.invariant.0 (omega arith) (omega arith)) ∙ l.invariant.1
