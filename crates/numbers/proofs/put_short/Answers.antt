-- `numbers::put_short` meets its contract. Assumes nothing.
use Rattle.format.specs.Kit.{ap, ◌∙◌, ◌+◌, ◌-◌, arith, take, put_mid}
use Rattle.format.specs.Bytes.{low}
use Rattle.laws.proofs.Digits.{length_digits}
use Rattle.laws.proofs.Stores.{part_put}
use Rattle.numbers.proofs.Shorts.{low_bytes}
use Rattle.numbers.proofs.put_short.Goals as goal

pub returns : goal.returns
returns c =
    let a = c.args in
    ap (put_mid a.at (a.at + 2 - a.at) a.out.now) (c.copy_from_slice.ensures.after ∙ ap (take 2) c.to_le_bytes.ensures ∙ low_bytes 2 a.x)
    ∙ part_put a.out.now (low 2 a.x) a.at (a.at + 2) (omega (arith, length_digits 256 2 a.x)) c.requires
