-- `id_reader::fill_all` meets its contract: the ids that are left are n - i in a row. Assumes nothing.
use Rattle.format.specs.Kit.{◌≡◌, refl, [], ◌∷◌, ◌+◌, ◌-◌, ◌≤◌, arith, length}
use Rattle.format.specs.Bytes.{count_from}
use Rattle.laws.proofs.Stores.{part_more, room, filled}
use Rattle.id_reader.proofs.Words.{count_more, count_end}
use Rattle.id_reader.proofs.fill_all.Goals as goal
use Rattle.id_reader.proofs.fill_all.Goals.{In-loop-i}

-- the id ahead, and those after it
next : (c : In-loop-i) → let l = c.loop-i in let a = c.args in
    count_from (a.n - l.i) (a.base + l.i) ≡ (a.base + l.i) ∷ count_from (a.n - (l.i + 1)) (a.base + (l.i + 1))
next c =
    let l = c.loop-i in
    let a = c.args in
    let e : a.base + l.i + 1 ≡ a.base + (l.i + 1) = omega arith in
    rw e at (count_more a.n l.i (a.base + l.i) (omega arith))

has_room : (c : In-loop-i) → c.args.at + c.loop-i.i + 1 ≤ length c.loop-i.ids
has_room c = room _ _ _ _ _ _ c.loop-i.invariant (_ ∷ []) _ (next c) c.requires.1

pub loop-i-preserved : goal.loop-i-preserved
loop-i-preserved c = part_more _ _ _ _ _ _ c.loop-i.invariant _ _ (_ ∷ []) _ (next (goal.at.loop-i-preserved c).In-loop-i) refl (omega arith)

pub bounds-ids-at : goal.bounds-ids-at
bounds-ids-at c = omega (arith, has_room (goal.at.bounds-ids-at c).In-loop-i)

pub returns : goal.returns
returns c = filled _ _ _ _ _ _ c.loop-i.invariant (count_end _ _ (omega arith))
