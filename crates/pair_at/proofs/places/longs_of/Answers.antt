-- `pair_at::places::longs_of` meets its contract. Assumes nothing.
use Rattle.format.specs.Kit.{◌≡◌, refl, ap, ◌∙◌, ℕ, ◌*◌, ◌-◌, ◌^◌, arith, eq-eqb, ne_eqb, one-mul}
use Rattle.laws.proofs.Dense.{stride_bits}
use Rattle.pair_at.proofs.places.longs_of.Goals as goal

pub returns-then-p-eq0 : goal.returns-then-p-eq0
returns-then-p-eq0 c = rw (eq-eqb _ 0 c.if-p-eq0.true) refl

pub stride-requires : goal.stride-requires
stride-requires c = (omega (arith, c.requires.least c.if-p-eq0.false), c.requires.most)

pub returns : goal.returns
returns c =
    let p : ℕ = c.args.p in
    let k : ℕ = 2 ^ (p - 6) in
    let w : 64 * (1 * k) ≡ 1 * 2 ^ p = stride_bits p 1 (omega (arith, c.requires.least c.if-p-eq0.false)) in
    rw (ne_eqb p 0 c.if-p-eq0.false) (ap (λ (x : ℕ). 64 * x) c.stride.ensures.0 ∙ omega (arith, w, one-mul k, one-mul (2 ^ p)))
