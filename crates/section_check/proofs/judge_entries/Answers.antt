-- `section_check::judge_entries` meets its contract. The loop's invariant: the runs ahead stand at the loop's place, and the entries that are
use Rattle.format.specs.Kit.{◌≡◌, refl, ap, ◌∙◌, ℕ, ◌+◌, ◌<◌, get_or, arith}
use Rattle.format.specs.Orders.{fixed_at}
use Rattle.format.specs.Judge.{jumps_in}
use Rattle.answers.specs.Replies.{order_of}
use Rattle.format.specs.Ids.{data_bytes, block_bytes}
use Rattle.laws.proofs.Sizes.{block_total}
use Rattle.section_check.specs.Reasons.{stand_is}
use Rattle.section_check.proofs.Trail.{Here, trail_here, last_right, last_wrong, Past, past}
use Rattle.section_check.proofs.judge_entries.Goals as goal
use Rattle.section_check.proofs.judge_entries.Goals.{After-data_bytes, Start, After-short_in-c, In-loop-at}

-- the block ahead, of number k and x ids
ahead : (c : In-loop-at) (k x : ℕ)
    → let a = c.args in
    let l = c.loop-at in
    let ord = order_of a.order in
    k ≡ fixed_at ord 2 a.s.now l.at → x ≡ fixed_at ord 2 a.s.now (l.at + 2) + 1
    → Here ord a.p a.s.now a.end.at (jumps_in ord a.p a.s.now) l.at l.o l.i k x
ahead c k x = trail_here _ _ c.requires.0 _ _ _ _ _ _ c.loop-at.invariant (omega arith) k x

-- the same by the code's own numbers
read : (c : After-short_in-c)
    → let a = c.args in
    let l = c.loop-at in
    let ord = order_of a.order in
    Here ord a.p a.s.now a.end.at (jumps_in ord a.p a.s.now) l.at l.o l.i
    c.size-k.result (c.short_in-c.result + 1)
read c =
    ahead (goal.at.After-short_in-c c).In-loop-at _ _ (c.size-k.ensures ∙ c.short_in.ensures.0)
    (ap (λ (y : ℕ). y + 1) c.short_in-c.ensures.0)

-- where the next block stands
next_at : (c : After-data_bytes)
    → let l = c.loop-at in
    let p = c.args.p in
    l.at + 4 + c.data_bytes.result ≡ l.at + block_bytes p (c.short_in-c.result + 1)
next_at c =
    let p = c.args.p in
    let x = c.short_in-c.result + 1 in
    omega (arith, c.data_bytes.ensures.0, ap (data_bytes p) c.size.ensures, block_total p x)

-- what the blocks left
blocks : (c : Start) → ((i : ℕ) → get_or c.args.s.now i 0 < 256)
    → let a = c.args in Past (order_of a.order) a.p a.s.now (stand_is a.end)
blocks c u = past _ _ c.requires.0 _ u _ c.requires.1

pub repeated-r-requires : goal.repeated-r-requires
repeated-r-requires c =
    let t = c.loop-at.invariant in
    let h = read (goal.at.repeated-r-requires c).After-short_in-c in
    (omega arith, omega arith, omega arith, omega arith)

pub returns-then-r-n : goal.returns-then-r-n
returns-then-r-n c = (read (goal.at.returns-then-r-n c).After-short_in-c).stop _ _ _ refl c.long.ensures c.if-r-n.true c.repeated-r.ensures.1

pub loop-at-preserved : goal.loop-at-preserved
loop-at-preserved c =
    (read (goal.at.loop-at-preserved c).After-short_in-c).on _ _ _ _ refl c.long.ensures (omega arith) (next_at c) c.repeated-r.ensures.1

pub returns-then-not-entry_is : goal.returns-then-not-entry_is
returns-then-not-entry_is c =
    let t = c.loop-at.invariant in
    last_wrong _ _ c.requires.0 _ _ _ _ _ _ t (omega arith) _ c.long-2.ensures
    c.entry_is.ensures c.if-not-entry_is.true

pub returns : goal.returns
returns c =
    let t = c.loop-at.invariant in
    last_right _ _ c.requires.0 _ _ _ _ _ _ t (omega arith) _ c.long-2.ensures
    c.entry_is.ensures c.if-not-entry_is.false

pub overflow_add-base : goal.overflow_add-base
overflow_add-base c = omega (arith, (blocks (goal.at.overflow_add-base c).Start (λ i. (c.type_inv.s i).fits)).fits)

pub loop-at-init : goal.loop-at-init
loop-at-init c = (blocks (goal.at.loop-at-init c).Start (λ i. (c.type_inv.s i).fits)).begin

pub short_in-requires : goal.short_in-requires
short_in-requires c = omega (arith, (ahead c _ _ refl refl).head)

pub short_in-c-requires : goal.short_in-c-requires
short_in-c-requires c = omega (arith, (ahead (goal.at.short_in-c-requires c).In-loop-at _ _ refl refl).head)

pub overflow_sub-n : goal.overflow_sub-n
overflow_sub-n c = omega (arith, (read c).after)
