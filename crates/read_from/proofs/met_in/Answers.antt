-- `read_from::met_in` meets its contract. Assumes nothing.
use Rattle.format.specs.Kit.{◌≡◌, arith}
use Rattle.format.specs.Refusals.{Outcome}
use Rattle.format.specs.LookUp.{Look}
use Rattle.lookup.specs.Steps.{at_block, Reached}
use Rattle.read_from.proofs.OneBlock.{not_there, no_room_there, block_there}
use Rattle.read_from.proofs.met_in.Goals as goal
use Rattle.read_from.proofs.met_in.Goals.{In-At}

reached_at : (c : In-At) → Reached c.args.s.now c.args.q.entries c.args.b c.entry_at.result c.in-At.block
reached_at c = (rw c.in-At.is at c.step_at-met.ensures).1

on_at : (c : In-At) → let a = c.args in
    (next : Outcome Look) → at_block a.s.now a.q.entries a.q.jumps a.b c.entry_at.result.start next ≡ next
on_at c = (rw c.in-At.is at c.step_at-met.ensures).0

pub returns-in_default : goal.returns-in_default
returns-in_default c =
    let a = c.args in
    let e = c.entry_at in
    not_there a.s.now a.q a.b e.result e.ensures c.step_at-met.result c.in_default.not-At c.step_at-met.ensures

pub room_for-requires : goal.room_for-requires
room_for-requires c = let r = reached_at c in (c.requires.0.power, omega arith, omega arith, r.many)

pub returns-in_default-room_for : goal.returns-in_default-room_for
returns-in_default-room_for c =
    let a = c.args in
    let e = c.entry_at in
    no_room_there a.s.now a.q a.b e.result e.ensures c.in-At.block (on_at (goal.at.returns-in_default-room_for c).In-At) (reached_at (goal.at.returns-in_default-room_for c).In-At)
    (rw c.in_default-room_for.is at c.room_for.ensures)

pub returns : goal.returns
returns c =
    let a = c.args in
    let e = c.entry_at in
    block_there a.s.now a.q a.b e.result e.ensures c.in-At.block (on_at (goal.at.returns c).In-At) (reached_at (goal.at.returns c).In-At) c.in-Some.block
    (rw c.in-Some.is at c.room_for.ensures) c.requires.0 c.requires.1
