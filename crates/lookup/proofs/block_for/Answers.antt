-- `lookup::block_for` meets its contract: after each step of the code, what is left of `format`'s steps. Assumes nothing.
use Rattle.lookup.specs.Steps.{with_place, Reached}
use Rattle.lookup.proofs.Parts.{not_chosen, no_room_there, chosen}
use Rattle.lookup.proofs.block_for.Goals as goal
use Rattle.lookup.proofs.block_for.Goals.{In-At}

reached : (c : In-At)
    → let a = c.args in
    Reached a.s.now a.q.entries a.q.block c.entry_at.result c.in-At.block
reached c = (rw c.in-At.is at c.step_at-met.ensures).1

pub returns-in_default : goal.returns-in_default
returns-in_default c r =
    let a = c.args in
    not_chosen a.s.now (with_place a.q r) _ c.entry_at.ensures c.step_at-met.result c.in_default.not-At c.step_at-met.ensures

pub returns-in_default-room_for : goal.returns-in_default-room_for
returns-in_default-room_for c r =
    let a = c.args in
    no_room_there a.s.now (with_place a.q r) _ c.entry_at.ensures c.in-At.block
    (rw c.in-At.is at c.step_at-met.ensures).0 (reached (goal.at.returns-in_default-room_for c).In-At) (rw c.in_default-room_for.is at c.room_for.ensures)

pub returns : goal.returns
returns c r =
    let a = c.args in
    chosen a.s.now (with_place a.q r) _ c.entry_at.ensures c.in-At.block
    (rw c.in-At.is at c.step_at-met.ensures).0 (reached (goal.at.returns c).In-At) c.in-Some.block
    (rw c.in-Some.is at c.room_for.ensures)
