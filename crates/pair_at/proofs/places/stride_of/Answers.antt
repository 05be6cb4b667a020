-- `pair_at::places::stride_of` meets its contract. Assumes nothing.
use Rattle.format.specs.Kit.{◌≡◌, sym, ap, ◌∙◌, ℕ, ◌+◌, ◌-◌, ◌*◌, ◌%◌, ◌^◌, ◌≤◌, ◌<◌, arith, length, eq-eqb, ne_eqb, zero-mul, mod-eq_of_lt, pow_pos}
use Rattle.format.specs.Bytes.{high_at}
use Rattle.laws.proofs.Sizes.{ranks_some}
use Rattle.format.specs.Ids.{rank_bytes}
use Rattle.format.specs.PairAt.{last_up_to}
use Rattle.laws.proofs.PlaceWith.{stride_end}
use Rattle.pair_at.proofs.places.stride_of.Goals as goal

pub returns-then-p-eq0 : goal.returns-then-p-eq0
returns-then-p-eq0 c =
    let p : ℕ = c.args.p in
    rw (eq-eqb p 0 c.if-p-eq0.true) (sym (zero-mul (2 ^ p)), omega arith)

pub last_up_to-requires : goal.last_up_to-requires
last_up_to-requires c =
    let e : c.strides.result * 2 ≤ rank_bytes c.args.p = omega (arith, c.strides.ensures.0, (ranks_some c.args.p c.requires.0.most c.if-p-eq0.false).0) in
    let h : c.args.t + 2 * c.strides.result ≤ length c.args.s.now = omega (arith, e, c.requires.1) in
    record { reads = λ j l. omega (arith, h); few = omega (arith, c.strides.ensures.1) }

pub returns : goal.returns
returns c =
    let a = c.args in
    let p : ℕ = a.p in
    let q : ℕ = c.last_up_to.result in
    let many : c.strides.result ≡ 2 ^ (16 - p) = c.strides.ensures.0 in
    let is : q ≡ last_up_to (λ j. high_at 2 a.s.now (a.t + 2 * j)) a.i (2 ^ (16 - p)) =
    c.last_up_to.ensures.is_last (λ j. high_at 2 a.s.now (a.t + 2 * j)) (λ j r h x. x) ∙ ap (last_up_to (λ j. high_at 2 a.s.now (a.t + 2 * j)) a.i) many in
    let few : q < 2 ^ (16 - p) = omega (arith, c.last_up_to.ensures.within (omega (arith, many, pow_pos (16 - p))), many) in
    let end = stride_end p q (omega (arith, c.requires.0.most)) few in
    let whole : q * 2 ^ p % 18446744073709551616 ≡ q * 2 ^ p = mod-eq_of_lt (omega (arith, end)) in
    rw (ne_eqb p 0 c.if-p-eq0.false, whole) (ap (λ (x : ℕ). x * 2 ^ p) is, end)
