-- `id_reader::fill_word` meets its contract: a turn takes the lowest set bit away. Assumes nothing.
use Rattle.format.specs.Kit.{◌≡◌, ap, ◌∙◌, [], ◌∷◌, ◌+◌, ◌≤◌, arith, count_trailing_zeros, length}
use Rattle.format.specs.IdsRead.{set_bits}
use Rattle.laws.proofs.Stores.{one_more, room, filled, reached}
use Rattle.laws.proofs.SetBits.{set_zero}
use Rattle.id_reader.proofs.Set.{Lowest, lowest}
use Rattle.id_reader.proofs.fill_word.Goals as goal
use Rattle.id_reader.proofs.fill_word.Goals.{In-loop-left}

bit : (c : In-loop-left) → Lowest 64 c.args.first c.loop-left.left (count_trailing_zeros 64 c.loop-left.left)
bit c = lowest 64 c.args.first c.loop-left.left (omega arith) c.loop-left.invariant.0

has_room : (c : In-loop-left) → c.loop-left.o + 1 ≤ length c.loop-left.ids
has_room c = room _ _ _ _ _ _ c.loop-left.invariant.1 (_ ∷ []) _ (bit c).bits c.requires.1

pub loop-left-preserved : goal.loop-left-preserved
loop-left-preserved c =
    let e = c.without_lowest-left.ensures in
    let l = c.loop-left in
    (omega (arith, e), one_more _ _ _ _ _ _ l.invariant.1 _ _ (rw e (bit (goal.at.loop-left-preserved c).In-loop-left).bits))

pub returns : goal.returns
returns c =
    let l = c.loop-left in
    let f = c.args.first in
    let e : set_bits 64 f l.left ≡ [] = ap (set_bits 64 f) (omega arith) ∙ set_zero 64 f in
    (filled _ _ _ _ _ _ l.invariant.1 e, reached _ _ _ _ _ _ l.invariant.1 e)

pub bounds-ids-o : goal.bounds-ids-o
bounds-ids-o c = omega (arith, has_room (goal.at.bounds-ids-o c).In-loop-left)
