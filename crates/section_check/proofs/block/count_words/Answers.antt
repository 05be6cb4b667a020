-- `section_check::block::count_words` meets its contract. The loop's invariant: the sum is the ones of the strides passed, and what was found
use Rattle.format.specs.Kit.{◌≡◌, refl, sym, ap, ap₂, ◌∙◌, ℕ, ◌+◌, ◌-◌, ◌*◌, ◌^◌, ◌≤◌, zero-mul, add-zero, arith}
use Rattle.format.specs.Ids.{rank_bytes}
use Rattle.format.specs.LookUp.{ones_from}
use Rattle.laws.proofs.Sizes.{ranks_none, stride_fits, stride_next}
use Rattle.laws.proofs.Ones.{ones_none, ones_grow, ones_moved}
use Rattle.section_check.proofs.BlockTests.{ranks_free, ranks_begin, ranks_turn, ranks_last, strides_all}
use Rattle.section_check.proofs.block.count_words.Goals as goal
use Rattle.section_check.proofs.block.count_words.Goals.{In-loop-j}

pub returns-then-p-eq0 : goal.returns-then-p-eq0
returns-then-p-eq0 c =
    let a = c.args in
    let e : a.t ≡ a.t + rank_bytes a.p = sym (add-zero a.t) ∙ ap (λ (x : ℕ). a.t + x) (sym (ranks_none a.p c.if-p-eq0.true)) in
    (c.ones_from-ones.ensures.0 ∙ ap (λ (x : ℕ). ones_from a.s.now x 1024 0) e, sym (ranks_free a.p a.s.now a.t _ c.if-p-eq0.true))

pub loop-j-init : goal.loop-j-init
loop-j-init c =
    let a = c.args in
    let e = c.rank_bytes-b.ensures.0 in (
      sym (ranks_begin _ a.p a.s.now a.t e),
      sym (ones_none a.s.now _ 0),
      sym (zero-mul (2 ^ (a.p - 6))),
      omega arith,
    )

-- the stride ahead is in the block
fits : (c : In-loop-j)
    → let w = 2 ^ (c.args.p - 6) in c.loop-j.j * w + w ≤ 1024
fits c =
    stride_fits c.args.p c.loop-j.j c.requires.0 c.if-p-eq0.false (omega arith)

pub stride_ones-sum-requires : goal.stride_ones-sum-requires
stride_ones-sum-requires c =
    let f = fits (goal.at.stride_ones-sum-requires c).In-loop-j in
    (c.requires.0.least c.if-p-eq0.false, c.requires.0.most, omega (arith, c.requires.1))

pub loop-j-preserved : goal.loop-j-preserved
loop-j-preserved c =
    let a = c.args in
    let i = c.loop-j.invariant in (
      ranks_turn _ a.p a.s.now a.t _ c.loop-j.j c.loop-j.right (omega arith) refl c.rank_at.ensures.0 (ones_moved a.s.now _ _ _ _ i.1 i.2) ∙ i.0,
      ap₂ ◌+◌ i.1 c.stride_ones-sum.ensures.0 ∙ sym (ones_grow a.s.now _ c.loop-j.first _)
          ∙ ap (λ (x : ℕ). ones_from a.s.now (a.t + c.rank_bytes-b.result) (c.loop-j.first + x) 0) (sym c.stride-w.ensures.0),
      ap₂ ◌+◌ i.2 c.stride-w.ensures.0 ∙ stride_next c.loop-j.j (2 ^ (a.p - 6)),
      omega arith,
    )

pub returns : goal.returns
returns c =
    let a = c.args in
    let i = c.loop-j.invariant in
    let all : c.loop-j.first ≡ 1024 =
    i.2 ∙ strides_all a.p c.loop-j.j c.requires.0 c.if-p-eq0.false (omega arith) in (
      i.1 ∙ ap₂ (λ (x y : ℕ). ones_from a.s.now x y 0) (ap (λ (x : ℕ). a.t + x) c.rank_bytes-b.ensures.0) all,
      sym (ranks_last _ a.p a.s.now a.t _ c.loop-j.j c.loop-j.right (omega arith)) ∙ i.0,
    )
