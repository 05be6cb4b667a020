-- `numbers::put_rank` meets its contract. Assumes nothing.
use Rattle.format.specs.Kit.{ap, ◌∙◌, List, ℕ, ◌+◌, ◌-◌, arith, take, drop, put_mid, length-reverse}
use Rattle.format.specs.Bytes.{low, high}
use Rattle.laws.proofs.Digits.{length_digits}
use Rattle.laws.proofs.Stores.{part_put}
use Rattle.numbers.proofs.Shorts.{high_two}
use Rattle.numbers.proofs.put_rank.Goals as goal

pub returns : goal.returns
returns c =
    let a = c.args in
    ap (put_mid a.at (a.at + 2 - a.at) a.out.now) (c.copy_from_slice.ensures.after ∙ ap (λ (bs : List ℕ). take 2 (drop 6 bs)) c.to_be_bytes.ensures ∙ high_two a.x)
    ∙ part_put a.out.now (high 2 a.x) a.at (a.at + 2) (omega (arith, length-reverse (low 2 a.x), length_digits 256 2 a.x)) c.requires
