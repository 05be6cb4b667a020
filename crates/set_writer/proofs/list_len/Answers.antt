-- `set_writer::list_len` meets its contract. Assumes nothing.
use Rattle.format.specs.Kit.{ap}
use Rattle.set_blocks.specs.Kinds.{kind_number}
use Rattle.set_writer.proofs.Blocks.{len_bitmap, len_listed, len_missing}
use Rattle.set_writer.proofs.list_len.Goals as goal

pub returns-in-Listed : goal.returns-in-Listed
returns-in-Listed c = let a = c.args in len_listed (kind_number a.kind) a.n (ap kind_number c.in-Listed.is)

pub returns-in-Missing : goal.returns-in-Missing
returns-in-Missing c = let a = c.args in len_missing (kind_number a.kind) a.n (ap kind_number c.in-Missing.is)

pub returns-in-Bitmap : goal.returns-in-Bitmap
returns-in-Bitmap c = let a = c.args in len_bitmap (kind_number a.kind) a.n (ap kind_number c.in-Bitmap.is)
