-- The number that each kind of block has on disk (document 02, [14]). Assumes nothing.
use Rattle.format.specs.Kit.{ℕ}
use Rattle.set_blocks.specs.declared.SetKind as Sk

abbrev pub kind_number : Sk.SetKind → ℕ
kind_number Sk.SetKind.Listed = 0
kind_number Sk.SetKind.Missing = 1
kind_number Sk.SetKind.Bitmap = 2
