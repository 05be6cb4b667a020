-- `next::in_block` meets its contract. After each step of the code: what is left of the ids of the block. Assumes nothing.
use Rattle.format.specs.Kit.{◌≡◌, refl, sym, ap, ◌∙◌, List, ℕ, ◌+◌, ◌-◌, ◌*◌, ◌≤◌, ◌<◌, arith}
use Rattle.format.specs.Refusals.{Outcome}
use Rattle.format.specs.Opening.{Opened, id_part}
use Rattle.format.specs.LookUp.{Look}
use Rattle.format.specs.Next.{Candidate, in_turn}
use Rattle.lookup.specs.Steps.{at_block, Reached, Roomy}
use Rattle.lookup.proofs.Parts.{stopped}
use Rattle.next_in_block.specs.First.{first_of}
use Rattle.next.specs.Blocks.{AskedOf}
use Rattle.next.proofs.OneBlock.{placed, block_refused, block_passed, block_no_room, block_placed, place_there, place_broken}
use Rattle.next.proofs.in_block.Goals as goal
use Rattle.next.proofs.in_block.Goals.{After-first_in-first, In-At, In-At-first, In-Some}

reached_at : (c : In-At) → Reached c.args.s.now c.args.q.entries c.args.b c.entry_at.result c.in-At.block
reached_at c = (rw c.in-At.is at c.step_at-met.ensures).1

on_at : (c : In-At) → let a = c.args in
    (next : Outcome Look) → at_block a.s.now a.q.entries a.q.jumps a.b c.entry_at.result.start next ≡ next
on_at c = (rw c.in-At.is at c.step_at-met.ensures).0

enough : (c : In-Some) → let q = c.args.q in
    Roomy q.entries q.power q.count c.in-At.block c.in-Some.block
enough c = rw c.in-Some.is at c.room_for.ensures

-- step 7 is left
place_left : (c : After-first_in-first) (bytes : List ℕ) (col : Opened)
    → let a = c.args in
    AskedOf col a.q → id_part bytes col ≡ a.s.now → (more : Outcome Candidate)
    → placed bytes col a.b c.in-Some.block.ordinal (first_of c.first_in-first.result) more
    ≡ in_turn (65536 - a.r) bytes col (a.b * 65536 + a.r) more
place_left c bytes col x h more =
    let e = c.entry_at in
    let m = c.in-Some.block in
    ap (λ y. placed bytes col c.args.b m.ordinal y more) c.first_in-first.ensures.0
    ∙ block_placed bytes col c.args.s.now c.args.q c.args.b e.result x h e.ensures c.args.r c.requires.2 more
    c.in-At.block (on_at (goal.at.After-first_in-first c).In-At) (reached_at (goal.at.After-first_in-first c).In-At) m (enough (goal.at.After-first_in-first c).In-Some)

-- a place of the block, and an ordinal below n, so no sum wraps
place_in : (c : In-At-first)
    → let b = c.in-Some.block in
    let q = c.args.q in
    (c.in-At-first.place < 65536) × (c.in-At-first.inner + 1 ≤ b.count) × (b.ordinal + b.count ≤ q.count)
place_in c =
    let g = enough (goal.at.In-At-first c).In-Some in
    let i = rw c.in-At-first.is at c.first_in-first.ensures.1 in
    (i.0, omega (arith, i.1), rw g.same g.last)

pub returns-in-Absent : goal.returns-in-Absent
returns-in-Absent c =
    let g = (rw c.in-Absent.is at c.step_at-met.ensures).0 in
    let a = c.args in
    let e = c.entry_at in
    record {
      left = λ bytes col x h more.
          block_passed bytes col a.s.now a.q a.b e.result x h e.ensures a.r (omega arith) more g;
      listed = tt;
    }

pub returns-in_default-met : goal.returns-in_default-met
returns-in_default-met c =
    let st = c.step_at-met in
    let a = c.args in
    let e = c.entry_at in
    let g = stopped _ _ _ _ _ st.result c.in_default.not-At c.in_default-met.not-Absent st.ensures in
    record {
      left = λ bytes col x h more.
          block_refused bytes col a.s.now a.q a.b e.result x h e.ensures a.r (omega arith) more g;
      listed = tt;
    }

pub returns-in_default-room_for : goal.returns-in_default-room_for
returns-in_default-room_for c =
    let a = c.args in
    let e = c.entry_at in
    let t = rw c.in_default-room_for.is at c.room_for.ensures in
    record {
      left = λ bytes col x h more.
          block_no_room bytes col a.s.now a.q a.b e.result x h e.ensures a.r (omega arith) more c.in-At.block
          (on_at (goal.at.returns-in_default-room_for c).In-At) (reached_at (goal.at.returns-in_default-room_for c).In-At) t;
      listed = tt;
    }

pub returns-in-Nothing : goal.returns-in-Nothing
returns-in-Nothing c =
    let o = c.in-Some.block.ordinal in
    let b = c.args.b in
    record {
      left = λ bytes col x h more.
          ap (λ p. placed bytes col b o (first_of p) more) (sym c.in-Nothing.is) ∙ place_left (goal.at.returns-in-Nothing c).After-first_in-first bytes col x h more;
      listed = tt;
    }

pub returns-in_default-first-2 : goal.returns-in_default-first-2
returns-in_default-first-2 c =
    record {
      left = λ bytes col x h more.
          place_broken bytes col _ _ c.first_in-first.result c.in_default-first.not-At c.in_default-first-2.not-Nothing more
          ∙ place_left (goal.at.returns-in_default-first-2 c).After-first_in-first bytes col x h more;
      listed = tt;
    }

pub returns : goal.returns
returns c =
    let o = c.in-Some.block.ordinal in
    let b = c.args.b in
    record {
      left = λ bytes col x h more.
          place_there bytes col b o c.in-At-first.place c.in-At-first.inner _ _ c.id_of.ensures refl more
          ∙ ap (λ p. placed bytes col b o (first_of p) more) (sym c.in-At-first.is) ∙ place_left (goal.at.returns c).After-first_in-first bytes col x h more;
      listed = (
        omega (arith, place_in (goal.at.returns c).In-At-first),
        omega (arith, c.id_of.ensures, (place_in (goal.at.returns c).In-At-first).0, c.requires.1),
      );
    }
