-- `in_block::dense` meets its contract. Assumes nothing.
use Rattle.format.specs.Kit.{◌≡◌, refl, sym, ap, ap₂, ◌∙◌, ℕ, ◌+◌, ◌-◌, ◌/◌, ◌%◌, ◌^◌, ◌<◌, arith}
use Rattle.format.specs.LookUp.{inside, stride_long}
use Rattle.in_block.proofs.Bitmap.{long_of, inner_at, bit_found, inner_found, dense_clear, dense_set, dense_broken}
use Rattle.in_block.proofs.dense.Goals as goal
use Rattle.in_block.proofs.dense.Goals.{After-bit_of, After-ones_under, Else-bit_of-eq0}

-- what the bit, the inner place and the words are
bit_is : (c : After-bit_of)
    → let a = c.args in c.bit_of.result ≡ long_of a.p a.s.now a.t a.r / 2 ^ (a.r % 64) % 2
bit_is c =
    let a = c.args in
    bit_found a.p a.s.now a.t a.r c.rank_bytes.ensures.0 c.long_at-long.ensures c.bit_of.ensures

inner_is : (c : After-ones_under)
    → let a = c.args in
    c.stride_rank.result + c.ones_from.result + c.ones_under.result ≡ inner_at a.p a.s.now a.t a.r
inner_is c =
    let a = c.args in
    inner_found a.p a.s.now a.t a.r c.rank_bytes.ensures.0 c.long_at-long.ensures c.stride_long-f.ensures.0
    c.stride_rank.ensures.0 c.ones_from.ensures.0 c.ones_under.ensures.0

bit_set : (c : Else-bit_of-eq0)
    → let a = c.args in long_of a.p a.s.now a.t a.r / 2 ^ (a.r % 64) % 2 ≡ 0 → ⊥
bit_set c z = c.if-bit_of-eq0.false (bit_is (goal.at.Else-bit_of-eq0 c).After-bit_of ∙ z)

pub returns-then-i-long : goal.returns-then-i-long
returns-then-i-long c =
    let a = c.args in
    let i = inner_is (goal.at.returns-then-i-long c).After-ones_under in
    let h : c.stride_rank.result + c.ones_from.result + c.ones_under.result < a.count =
    rw (← c.long.ensures) c.if-i-long.true in
    let w : c.long-then-i-long.result ≡ a.r / 64 - stride_long a.p a.r + 1 =
    c.long-then-i-long.ensures ∙ ap (λ (l : ℕ). a.r / 64 - l + 1) c.stride_long-f.ensures.0 in
    let e = dense_set a.p a.s.now a.t a.count a.r (bit_set (goal.at.returns-then-i-long c).Else-bit_of-eq0) (rw (← i) h) in
    (ap₂ (λ (x y : ℕ). inside x y) i w ∙ sym e, h, refl)

pub returns-else-i-long : goal.returns-else-i-long
returns-else-i-long c =
    let i = inner_is (goal.at.returns-else-i-long c).After-ones_under in
    (sym (dense_broken _ _ _ _ _ (bit_set (goal.at.returns-else-i-long c).Else-bit_of-eq0) (omega arith)), tt, refl)

pub returns-then-bit_of-eq0 : goal.returns-then-bit_of-eq0
returns-then-bit_of-eq0 c = (sym (dense_clear _ _ _ _ _ (sym (bit_is (goal.at.returns-then-bit_of-eq0 c).After-bit_of) ∙ c.if-bit_of-eq0.true)), tt, refl)
