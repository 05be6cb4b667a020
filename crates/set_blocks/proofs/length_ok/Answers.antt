-- `set_blocks::length_ok` meets its contract. Assumes nothing.
use Rattle.format.specs.Kit.{◌∙◌, ap, arith, le-leb, lt-leb, sym}
use Rattle.set_format.proofs.ByKind.{length_bitmap, length_listed, length_missing}
use Rattle.set_blocks.specs.Kinds.{kind_number}
use Rattle.set_blocks.proofs.length_ok.Goals as goal

pub returns-then-c-ge1 : goal.returns-then-c-ge1
returns-then-c-ge1 c =
    let a = c.args in
    sym (length_listed (kind_number a.kind) a.c (ap kind_number c.in-Listed.is) ∙ rw (le-leb 1 a.c c.if-c-ge1.true))

pub returns-else-c-ge1 : goal.returns-else-c-ge1
returns-else-c-ge1 c =
    let a = c.args in
    sym (length_listed (kind_number a.kind) a.c (ap kind_number c.in-Listed.is) ∙ rw (lt-leb 1 a.c (omega arith)))

pub returns-in-Missing : goal.returns-in-Missing
returns-in-Missing c = let a = c.args in sym (length_missing (kind_number a.kind) a.c (ap kind_number c.in-Missing.is))

pub returns-in-Bitmap : goal.returns-in-Bitmap
returns-in-Bitmap c = let a = c.args in sym (length_bitmap (kind_number a.kind) a.c (ap kind_number c.in-Bitmap.is))
