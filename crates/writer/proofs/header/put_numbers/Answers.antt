-- `writer::header::put_numbers` meets its contract. The numbers that are left, written from here on, give what all of them give.
use Rattle.format.specs.Kit.{◌≡◌, refl, sym, ap, ◌∙◌, List, ℕ, ◌+◌, arith, length, get_or, sets, length-sets}
use Rattle.format.specs.HeaderNumbers.{number}
use Rattle.writer.proofs.Numbers.{rest, rest_none, rest_length, rest_written}
use Rattle.writer.proofs.header.put_numbers.Goals as goal
use Rattle.writer.proofs.header.put_numbers.Goals.{In-loop-n}

-- in the loop: a number more
longer : (c : In-loop-n) →
    let ns : List ℕ = c.args.ns.now in
    let k : ℕ = c.loop-n.n-index in
    length (rest ns k) ≡ length (number (get_or ns k 0)) + length (rest ns (k + 1))
longer c = rest_length c.args.ns.now c.loop-n.n-index c.loop-n-test.true

pub loop-n-init : goal.loop-n-init
loop-n-init c = (omega arith, refl, omega arith, refl)

pub put_number-i-requires : goal.put_number-i-requires
put_number-i-requires c = omega (arith, longer (goal.at.put_number-i-requires c).In-loop-n)

pub loop-n-preserved : goal.loop-n-preserved
loop-n-preserved c =
    let l = c.loop-n in
    let put = c.put_number-i.ensures in (
      omega arith,
      ap length put.1 ∙ simp length-sets l.invariant.1,
      omega (arith, longer (goal.at.loop-n-preserved c).In-loop-n),
      rest_written c.args.ns.now l.out _ l.i _ l.n-index c.loop-n-test.true put.1 put.0 ∙ l.invariant.3,
    )

pub shape_of-out : goal.shape_of-out
shape_of-out c = c.loop-n.invariant.1

pub returns : goal.returns
returns c =
    let l = c.loop-n in
    let none = rest_none c.args.ns.now l.n-index c.loop-n-test.false in
    (omega (arith, ap length none), sym (ap (sets l.out l.i) none) ∙ l.invariant.3)
