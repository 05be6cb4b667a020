-- `id_reader::fill_sparse` meets its contract: the ids that are left are those of c - i shorts. Assumes nothing.
use Rattle.format.specs.Kit.{refl, [], ◌∷◌, ◌+◌, ◌≤◌, arith, length}
use Rattle.laws.proofs.Stores.{part_more, room, filled}
use Rattle.id_reader.proofs.Words.{shorts_more, shorts_end}
use Rattle.id_reader.proofs.fill_sparse.Goals as goal
use Rattle.id_reader.proofs.fill_sparse.Goals.{In-loop-i}

has_room : (c : In-loop-i) → c.args.at + c.loop-i.i + 1 ≤ length c.loop-i.ids
has_room c =
    let l = c.loop-i in
    let a = c.args in
    room _ _ _ _ _ _ l.invariant (_ ∷ []) _ (shorts_more a.base a.c l.i a.s.now a.t (omega arith)) c.requires.2

pub loop-i-preserved : goal.loop-i-preserved
loop-i-preserved c =
    let l = c.loop-i in
    let a = c.args in
    let e = shorts_more a.base a.c l.i a.s.now a.t (omega arith) in
    part_more _ _ _ _ _ _ l.invariant _ _ (c.id_of.result ∷ []) _ (rw (c.id_of.ensures, c.short_at.ensures.0) e) refl (omega arith)

pub bounds-ids-at : goal.bounds-ids-at
bounds-ids-at c = omega (arith, has_room (goal.at.bounds-ids-at c).In-loop-i)

pub returns : goal.returns
returns c = filled _ _ _ _ _ _ c.loop-i.invariant (shorts_end _ _ _ (omega arith))
