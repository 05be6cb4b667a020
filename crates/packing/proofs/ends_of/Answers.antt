-- `packing::ends_of` meets its contract. Assumes nothing.
use Rattle.format.specs.Kit.{sym, ◌∙◌, List, ℕ, ◌-◌, arith, length}
use Rattle.numbers.proofs.Shorts.{low_byte}
use Rattle.packing.proofs.ends_of.Goals as goal

pub returns-then-w-le8 : goal.returns-then-w-le8
returns-then-w-le8 c =
    let s : List ℕ = c.args.s.now in
    record {
      front = c.from.ensures ∙ sym (low_byte s 0 (omega arith));
      back = c.from-then-w-le8.ensures ∙ sym (low_byte s (length s - 1) (omega arith));
      some = omega arith;
      few = omega arith;
      inside = omega arith;
      all = omega arith;
    }
