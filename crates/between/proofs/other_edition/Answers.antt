-- `between::other_edition` meets its contract. Assumes nothing.
use Rattle.format.specs.Kit.{sym}
use Rattle.between.proofs.Asked.{same_unread, other_read}
use Rattle.between.proofs.other_edition.Goals as goal

pub returns-in-Ok : goal.returns-in-Ok
returns-in-Ok c = other_read c.args.bytes.now (sym c.in-Ok.ensures)

pub returns-in-Err : goal.returns-in-Err
returns-in-Err c = same_unread c.args.bytes.now (sym c.in-Err.ensures)
