-- `set_blocks::data_bytes` meets its contract. Assumes nothing.
use Rattle.format.specs.Kit.{◌≡◌, ap, arith, sym}
use Rattle.set_format.proofs.ByKind.{bytes_bitmap, bytes_list}
use Rattle.set_blocks.specs.Kinds.{kind_number}
use Rattle.set_blocks.proofs.data_bytes.Goals as goal

pub returns-in-Listed : goal.returns-in-Listed
returns-in-Listed c =
    let k : kind_number c.args.kind ≡ 0 = ap kind_number c.in-Listed.is in
    (sym (bytes_list (kind_number c.args.kind) c.args.c (omega arith)), omega arith)

pub returns-in-Missing : goal.returns-in-Missing
returns-in-Missing c =
    let k : kind_number c.args.kind ≡ 1 = ap kind_number c.in-Missing.is in
    (sym (bytes_list (kind_number c.args.kind) c.args.c (omega arith)), omega arith)

pub returns-in-Bitmap : goal.returns-in-Bitmap
returns-in-Bitmap c = (sym (bytes_bitmap (kind_number c.args.kind) c.args.c (ap kind_number c.in-Bitmap.is)), omega arith)
