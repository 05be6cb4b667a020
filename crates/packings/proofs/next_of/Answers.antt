-- `packings::next_of` meets its contract. Assumes nothing.
use Rattle.format.specs.Kit.{◌≡◌, sym, ap, ◌∙◌, List, ℕ, ◌+◌, ◌-◌, ◌*◌, ◌/◌, ◌≤◌, arith, length, take, drop}
use Rattle.laws.proofs.Bits.{within}
use Rattle.packing.proofs.Join.{window_inside}
use Rattle.packings.specs.Packings.{packing_of}
use Rattle.packings.proofs.Packings.{sound_of, reached, fetch_none}
use Rattle.packings.proofs.next_of.Goals as goal
use Rattle.packings.proofs.next_of.Goals.{Start}

narrow : (s : Start) → s.args.w ≤ 64
narrow s = (sound_of s.args.order).narrow s.args.w s.requires.0

-- the bytes that the number's bits touch are there
ends : (s : Start) → s.args.at * 8 + s.args.skip + s.args.w ≤ 8 * length s.args.s.now
ends s = let a = s.args in omega (arith, s.requires.3, within a.i a.w a.n s.requires.1, s.requires.2)

pub returns-then-w-eq0 : goal.returns-then-w-eq0
returns-then-w-eq0 c =
    let a = c.args in
    sym (ap (λ (w : ℕ). (packing_of a.order).fetch a.s.now w a.i) c.if-w-eq0.true ∙ fetch_none a.order a.s.now a.i)

pub near-requires : goal.near-requires
near-requires c =
    let a = c.args in
    let inside =
    window_inside a.i a.n a.w a.at a.skip (length a.s.now) (omega arith) (omega (arith, c.if-n-i-ge64.true)) c.requires.2 c.requires.3 in
    (omega arith, omega arith, inside)

pub returns-then-skip-w-le64 : goal.returns-then-skip-w-le64
returns-then-skip-w-le64 c = c.near.ensures c.args.i c.requires.3

pub number_in-requires : goal.number_in-requires
number_in-requires c =
    let a = c.args in
    (c.requires.4, omega arith, narrow (goal.at.number_in-requires c).Start, reached a.order a.w a.i a.at a.skip c.requires.0 c.requires.3 c.requires.4, omega (arith, narrow (goal.at.number_in-requires c).Start))

pub returns : goal.returns
returns c =
    let a = c.args in
    let s : List ℕ = a.s.now in
    let n : ℕ = a.at + (a.skip + a.w + 7) / 8 - a.at in
    let own : length (take n (drop a.at s)) ≡ n = omega arith in
    c.number_in.ensures s a.at a.i (ap (λ (m : ℕ). take m (drop a.at s)) (sym own)) (omega (arith, own, ends (goal.at.returns c).Start))
    (λ k. (c.type_inv.s k).fits) c.requires.3

pub overflow_add-skip : goal.overflow_add-skip
overflow_add-skip c = omega (arith, narrow (goal.at.overflow_add-skip c).Start)

pub overflow_add-end : goal.overflow_add-end
overflow_add-end c = omega (arith, narrow (goal.at.overflow_add-end c).Start)

pub overflow_add-end-2 : goal.overflow_add-end-2
overflow_add-end-2 c = omega (arith, narrow (goal.at.overflow_add-end-2 c).Start)

pub overflow_add-end-3 : goal.overflow_add-end-3
overflow_add-end-3 c = omega (arith, ends (goal.at.overflow_add-end-3 c).Start)

pub slice_bounds-number_in-end : goal.slice_bounds-number_in-end
slice_bounds-number_in-end c = omega (arith, ends (goal.at.slice_bounds-number_in-end c).Start)
