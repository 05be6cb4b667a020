-- `reader::read` meets its contract. Assumes nothing.
use Rattle.format.specs.Kit.{refl, sym, length}
use Rattle.answers.proofs.PassedOn.{passed_on}
use Rattle.std.specs.Prelude.{Err}
use Rattle.reader.proofs.Answers.{refused_so, not_opened}
use Rattle.reader.proofs.read.Goals as goal

pub returns-in_err-open : goal.returns-in_err-open
returns-in_err-open c =
    let a = c.args in
    let t =
    refused_so _ (Err c.in_err-open.field-0.0) _ _ a.ids.now a.values.now
    (not_opened a.bytes.now (length a.ids.now) (length a.values.now) _ _ (sym c.in_err-open.ensures))
    refl in
    rw (passed_on c.from_residual.result _ c.from_residual.ensures.1) (record { reply = t.reply; in_ids = t.in_ids; in_values = t.in_values })

pub read_opened-requires : goal.read_opened-requires
read_opened-requires c = sym c.in_ok-open.ensures

pub returns : goal.returns
returns c =
    let t = c.read_opened.ensures in
    record { reply = t.reply; in_ids = t.in_ids; in_values = t.in_values }
