-- `set_blocks::kind_of` meets its contract. Assumes nothing.
use Rattle.format.specs.Kit.{arith, sym}
use Rattle.set_format.proofs.Data.{kind_bitmap, kind_listed, kind_missing}
use Rattle.set_blocks.proofs.kind_of.Goals as goal

pub returns-then-c-le-MAX_LISTED : goal.returns-then-c-le-MAX_LISTED
returns-then-c-le-MAX_LISTED c = sym (kind_listed c.args.c c.if-c-le-MAX_LISTED.true)

pub returns-then-c-gt-MAX_BITMAP : goal.returns-then-c-gt-MAX_BITMAP
returns-then-c-gt-MAX_BITMAP c = sym (kind_missing c.args.c (omega arith) (omega arith))

pub returns : goal.returns
returns c = sym (kind_bitmap c.args.c (omega arith) (omega arith))
