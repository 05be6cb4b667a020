-- `header_numbers::put_number` meets its contract. What is left to write, written from here on, gives what the whole number gives.
use Rattle.format.specs.Kit.{◌≡◌, sym, ap, ◌∙◌, List, ℕ, suc, ◌+◌, ◌≤◌, ◌<◌, ◌/◌, ◌%◌, ◌^◌, add-one, arith, length, length-set, set, sets}
use Rattle.format.specs.HeaderNumbers.{number}
use Rattle.header_numbers.proofs.Written.{number_last, number_more}
use Rattle.header_numbers.proofs.put_number.Goals as goal
use Rattle.header_numbers.proofs.put_number.Goals.{In-loop-x}

-- a byte more, or the last
put-more : (out : List ℕ) (i x : ℕ) → 128 ≤ x → x < 2 ^ 64 → sets out i (number x) ≡ sets (set out i (x % 128 + 128)) (i + 1) (number (x / 128))
put-more out i x h k = rw (number_more x h k, add-one i)

put_last : (out : List ℕ) (i x : ℕ) → x < 128 → sets out i (number x) ≡ set out i x
put_last out i x h = rw (number_last x h)

longer : (c : In-loop-x) → length (number c.loop-x.x) ≡ suc (length (number (c.loop-x.x / 128)))
longer c = ap length (number_more c.loop-x.x c.loop-x-test.true (omega arith))

shortest : (x : ℕ) → x < 128 → length (number x) ≡ 1
shortest x h = ap length (number_last x h)

pub loop-x-preserved : goal.loop-x-preserved
loop-x-preserved c =
    let l = c.loop-x in
    let more = put-more l.out l.i l.x c.loop-x-test.true (omega arith) in
    (length-set l.out l.i _ ∙ l.invariant.0, omega arith, omega (arith, longer c), sym more ∙ l.invariant.3)

pub returns : goal.returns
returns c =
    let l = c.loop-x in
    (omega (arith, shortest l.x c.loop-x-test.false), sym (put_last l.out l.i l.x c.loop-x-test.false) ∙ l.invariant.3)

pub bounds-out-i : goal.bounds-out-i
bounds-out-i c = omega (arith, longer c)

pub bounds-out-i-2 : goal.bounds-out-i-2
bounds-out-i-2 c = omega (arith, shortest c.loop-x.x c.loop-x-test.false)
