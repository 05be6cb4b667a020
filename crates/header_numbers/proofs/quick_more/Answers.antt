-- `header_numbers::quick_more` meets its contract: byte after byte, what is read so far and the bytes from there on make the number. Assumes nothing.
use Rattle.format.specs.Kit.{◌≡◌, refl, ◌∙◌, ℕ, ◌+◌, ◌-◌, ◌*◌, arith, drop}
use Rattle.format.specs.HeaderNumbers.{read_groups, read_number}
use Rattle.header_numbers.specs.Read.{number_of, number_on}
use Rattle.header_numbers.proofs.Fast.{quick_is}
use Rattle.header_numbers.proofs.Steps.{small_first, more_first, last, one_more}
use Rattle.header_numbers.proofs.quick_more.Goals as goal
use Rattle.header_numbers.proofs.quick_more.Goals.{Else-b0-lt128, Else-b1-lt128, Else-b2-lt128, Else-b3-lt128, Start}

-- the bytes before place i gave `sum`, and at most `left` bytes follow before the tenth
abbrev So-far : Start → ℕ → ℕ → ℕ → ℕ → Type 0
So-far c left scale sum i =
    number_of c.args.at (read_number (drop c.args.at c.args.s.now)) ≡ number_on scale sum i (read_groups left (drop i c.args.s.now))

abbrev sum1 : Else-b0-lt128 → ℕ
sum1 c = c.from-b0.result - 128

one_byte : (c : Else-b0-lt128) → (So-far (goal.at.Else-b0-lt128 c).Start 8 128 (sum1 c) (c.args.at + 1))
one_byte c =
    let a = c.args in
    more_first a.s.now a.at c.from-b0.ensures (omega arith) (omega (arith, c.if-b0-lt128.false))

abbrev sum2 : Else-b1-lt128 → ℕ
sum2 c = sum1 (goal.at.Else-b1-lt128 c).Else-b0-lt128 + 128 * (c.from-b1.result - 128)

two_bytes : (c : Else-b1-lt128)
    → (So-far (goal.at.Else-b1-lt128 c).Start 7 16384 (sum2 c) (c.args.at + 1 + 1))
two_bytes c =
    let a = c.args in
    one_byte (goal.at.Else-b1-lt128 c).Else-b0-lt128
    ∙ one_more a.s.now (a.at + 1) c.from-b1.ensures (omega arith) 8 128 (sum1 (goal.at.Else-b1-lt128 c).Else-b0-lt128) (λ z. omega arith) (omega (arith, c.if-b1-lt128.false))

abbrev sum3 : Else-b2-lt128 → ℕ
sum3 c = sum2 (goal.at.Else-b2-lt128 c).Else-b1-lt128 + 16384 * (c.from-b2.result - 128)

three_bytes : (c : Else-b2-lt128)
    → (So-far (goal.at.Else-b2-lt128 c).Start 6 2097152 (sum3 c) (c.args.at + 1 + 1 + 1))
three_bytes c =
    let a = c.args in
    two_bytes (goal.at.Else-b2-lt128 c).Else-b1-lt128
    ∙ one_more a.s.now (a.at + 1 + 1) c.from-b2.ensures (omega arith) 7 16384 (sum2 (goal.at.Else-b2-lt128 c).Else-b1-lt128) (λ z. omega arith) (omega (arith, c.if-b2-lt128.false))

abbrev sum4 : Else-b3-lt128 → ℕ
sum4 c = sum3 (goal.at.Else-b3-lt128 c).Else-b2-lt128 + 2097152 * (c.from-b3.result - 128)

four_bytes : (c : Else-b3-lt128)
    → (So-far (goal.at.Else-b3-lt128 c).Start 5 268435456 (sum4 c) (c.args.at + 1 + 1 + 1 + 1))
four_bytes c =
    let a = c.args in
    three_bytes (goal.at.Else-b3-lt128 c).Else-b2-lt128
    ∙ one_more a.s.now (a.at + 1 + 1 + 1) c.from-b3.ensures (omega arith) 6 2097152 (sum3 (goal.at.Else-b3-lt128 c).Else-b2-lt128) (λ z. omega arith) (omega (arith, c.if-b3-lt128.false))

pub returns-then-b0-lt128 : goal.returns-then-b0-lt128
returns-then-b0-lt128 c =
    let a = c.args in
    quick_is 1 (small_first a.s.now a.at c.from-b0.ensures (omega arith) c.if-b0-lt128.true) (omega arith) refl refl refl

pub returns-then-b1-lt128 : goal.returns-then-b1-lt128
returns-then-b1-lt128 c =
    let a = c.args in
    quick_is 2
    (one_byte (goal.at.returns-then-b1-lt128 c).Else-b0-lt128 ∙ last a.s.now (a.at + 1) c.from-b1.ensures (omega arith) 8 128 (sum1 (goal.at.returns-then-b1-lt128 c).Else-b0-lt128) (λ z. omega arith) c.if-b1-lt128.true c.if-b1-eq0.false)
    (omega arith) refl refl (omega arith)

pub returns-then-b2-lt128 : goal.returns-then-b2-lt128
returns-then-b2-lt128 c =
    let a = c.args in
    quick_is 3
    (two_bytes (goal.at.returns-then-b2-lt128 c).Else-b1-lt128
    ∙ last a.s.now (a.at + 1 + 1) c.from-b2.ensures (omega arith) 7 16384 (sum2 (goal.at.returns-then-b2-lt128 c).Else-b1-lt128) (λ z. omega arith) c.if-b2-lt128.true c.if-b2-eq0.false)
    (omega arith) refl refl (omega arith)

pub returns-then-b3-lt128 : goal.returns-then-b3-lt128
returns-then-b3-lt128 c =
    let a = c.args in
    quick_is 4
    (three_bytes (goal.at.returns-then-b3-lt128 c).Else-b2-lt128
    ∙ last a.s.now (a.at + 1 + 1 + 1) c.from-b3.ensures (omega arith) 6 2097152 (sum3 (goal.at.returns-then-b3-lt128 c).Else-b2-lt128) (λ z. omega arith) c.if-b3-lt128.true c.if-b3-eq0.false)
    (omega arith) refl refl (omega arith)

pub returns-then-b4-lt128 : goal.returns-then-b4-lt128
returns-then-b4-lt128 c =
    let a = c.args in
    quick_is 5
    (four_bytes (goal.at.returns-then-b4-lt128 c).Else-b3-lt128
    ∙ last a.s.now (a.at + 1 + 1 + 1 + 1) c.from-b4.ensures (omega arith) 5 268435456 (sum4 (goal.at.returns-then-b4-lt128 c).Else-b3-lt128) (λ z. omega arith)
    c.if-b4-lt128.true c.if-b4-eq0.false)
    (omega arith) refl refl (omega arith)
