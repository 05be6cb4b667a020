-- `column::number_at` meets its contract. Assumes nothing.
use Rattle.format.specs.Kit.{sym, ap, ◌∙◌, length}
use Rattle.std.specs.Prelude.{Err}
use Rattle.header_numbers.specs.declared.NumberFault.{NumberFault}
use Rattle.column.specs.Opened.{numbered_of}
use Rattle.column.proofs.HeaderNumbers.{told_as, was_told}
use Rattle.column.proofs.number_at.Goals as goal

pub returns-in-Ok : goal.returns-in-Ok
returns-in-Ok c = was_told c.args.bytes.now c.args.at _ c.in-Ok.ensures

pub returns-in-Err-Short : goal.returns-in-Err-Short
returns-in-Err-Short c =
    let s = c.args.bytes.now in
    ap (λ (f : NumberFault). numbered_of (told_as (length s) (Err f))) (sym c.in-Err-Short.field-0-is)
    ∙ was_told s c.args.at _ c.in-Err-Short.ensures

pub returns-in-Err-Bad : goal.returns-in-Err-Bad
returns-in-Err-Bad c =
    let s = c.args.bytes.now in
    ap (λ (f : NumberFault). numbered_of (told_as (length s) (Err f))) (sym c.in-Err-Bad.field-0-is)
    ∙ was_told s c.args.at _ c.in-Err-Bad.ensures
