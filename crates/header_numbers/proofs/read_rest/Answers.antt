-- `header_numbers::read_rest` meets its contract. The invariant: what the bytes from here on make of the sum so far is what the function
use Rattle.format.specs.Kit.{◌≡◌, sym, ◌∙◌, false, ◌+◌, ◌-◌, ◌*◌, ◌^◌, ◌≤◌, ◌<◌, mul-le-mul_left, arith}
use Rattle.header_numbers.specs.Read.{decides_at}
use Rattle.header_numbers.proofs.Steps.{scaled_step, scaled_le, room_more, at_end, decided, ended, room, not_tenth, went_on}
use Rattle.header_numbers.proofs.read_rest.Goals as goal
use Rattle.header_numbers.proofs.read_rest.Goals.{Else-b-lt128, Else-decides, Then-b-lt128}

-- the byte does not decide
goes_on : (c : Else-decides) → decides_at (c.loop-i.i - c.args.first) c.from-b.result ≡ false
goes_on c = sym c.decides.ensures ∙ c.if-decides.false

pub returns-then-decides : goal.returns-then-decides
returns-then-decides c =
    sym (decided c.args.s.now c.loop-i.i c.from-b.ensures c.loop-i-test.true
    (c.loop-i.i - c.args.first) c.loop-i.scale c.loop-i.sum c.loop-i.invariant.0 (sym c.decides.ensures ∙ c.if-decides.true))
    ∙ c.loop-i.invariant.3

-- the number ends here
ends : (c : Then-b-lt128) →
    c.loop-i.sum + c.loop-i.scale * c.from-b.result < 2 ^ 64
ends c =
    room c.args.s.now c.loop-i.i c.from-b.ensures c.loop-i-test.true
    (c.loop-i.i - c.args.first) c.loop-i.scale c.loop-i.sum c.loop-i.invariant.0 (goes_on (goal.at.Then-b-lt128 c).Else-decides) c.loop-i.invariant.1 c.loop-i.invariant.2 c.if-b-lt128.true

pub returns-then-b-lt128 : goal.returns-then-b-lt128
returns-then-b-lt128 c =
    sym (ended c.args.s.now c.loop-i.i c.from-b.ensures c.loop-i-test.true
    (c.loop-i.i - c.args.first) c.loop-i.scale c.loop-i.sum c.loop-i.invariant.0 (goes_on (goal.at.returns-then-b-lt128 c).Else-decides) c.if-b-lt128.true)
    ∙ c.loop-i.invariant.3

-- it goes on
few : (c : Else-b-lt128) → (c.loop-i.i - c.args.first) < 9
few c =
    not_tenth c.args.s.now c.loop-i.i c.from-b.ensures c.loop-i-test.true
    (c.loop-i.i - c.args.first) c.loop-i.scale c.loop-i.sum c.loop-i.invariant.0 (goes_on (goal.at.Else-b-lt128 c).Else-decides) c.if-b-lt128.false

more : (c : Else-b-lt128) →
    c.loop-i.sum + c.loop-i.scale * (c.from-b.result - 128) < 2 ^ 63
more c =
    let l = c.loop-i in
    room_more (l.i - c.args.first) l.scale (few c) l.invariant.2 l.sum _ l.invariant.1 (omega (arith, c.from-b.ensures))

pub loop-i-preserved : goal.loop-i-preserved
loop-i-preserved c =
    let q : c.loop-i.i + 1 - c.args.first ≡ c.loop-i.i - c.args.first + 1 = omega arith in
    let d : c.from-b.result - 128 ≤ 127 = omega (arith, c.from-b.ensures) in (
      omega (arith, few c),
      omega (arith, c.loop-i.invariant.1, mul-le-mul_left c.loop-i.scale d),
      rw q (scaled_step (c.loop-i.i - c.args.first) c.loop-i.scale (few c) c.loop-i.invariant.2),
      rw q (sym (went_on c.args.s.now c.loop-i.i c.from-b.ensures c.loop-i-test.true
          (c.loop-i.i - c.args.first) c.loop-i.scale c.loop-i.sum c.loop-i.invariant.0 (goes_on (goal.at.loop-i-preserved c).Else-decides) c.if-b-lt128.false)
          ∙ c.loop-i.invariant.3),
    )

pub returns : goal.returns
returns c =
    sym (at_end c.args.s.now c.loop-i.i (9 - (c.loop-i.i - c.args.first)) c.loop-i.scale c.loop-i.sum c.loop-i-test.false) ∙ c.loop-i.invariant.3

pub overflow_mul-result : goal.overflow_mul-result
overflow_mul-result c = omega (arith, ends c)

pub overflow_add-result : goal.overflow_add-result
overflow_add-result c = omega (arith, ends c)

pub overflow_mul-sum : goal.overflow_mul-sum
overflow_mul-sum c = omega (arith, more c)

pub overflow_add-sum : goal.overflow_add-sum
overflow_add-sum c = omega (arith, more c)

pub overflow_mul-scale : goal.overflow_mul-scale
overflow_mul-scale c = let l = c.loop-i in omega (arith, scaled_le (l.i - c.args.first) l.scale (few c) l.invariant.2)
