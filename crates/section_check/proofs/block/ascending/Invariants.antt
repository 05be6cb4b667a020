use Rattle.format.specs.Kit.{◌≡◌, ◌&&◌, ◌+◌, ◌-◌, ◌*◌, drop}
use Rattle.format.specs.Orders.{fixed_at, numbers_in}
use Rattle.format.specs.Pairs.{asc_from}
use Rattle.answers.specs.Replies.{order_of}
use Rattle.section_check.proofs.block.ascending.Given as goal

-- `section_check::block::ascending` meets its contract. Assumes nothing.
abbrev pub invariant-loop-i : goal.invariant-loop-i
invariant-loop-i l =
    let ord = order_of l.order in
    asc_from 0 (numbers_in ord 2 l.c (drop l.t l.s))
    ≡ (l.right && asc_from (fixed_at ord 2 l.s (l.t + 2 * (l.i - 1)) + 1) (numbers_in ord 2 (l.c - l.i) (drop (l.t + 2 * l.i) l.s)))
