-- `run_check::run_ok` meets its contract. Assumes nothing.
use Rattle.format.specs.Kit.{◌≡◌, sym, ap, ap₂, ◌∙◌, ℕ, List, ◌+◌, ◌-◌, ◌*◌, ◌≤◌, arith, length, take, drop, length-drop, length-take-le, mul-le-mul}
use Rattle.format.specs.Limits.{max_width}
use Rattle.format.specs.Bits.{packed_bytes, unpacked}
use Rattle.format.specs.Values.{gcd_from}
use Rattle.scaling.specs.Numbers.{least_from, most_from}
use Rattle.run_values.specs.Summaries.{summary_is}
use Rattle.packings.specs.declared.Order as Od
use Rattle.packings.specs.Packings.{spare_ok}
use Rattle.run_check.specs.RunsOk.{part_at, range_ok, largest, run_ok}
use Rattle.run_check.proofs.Ran.{not_start, too_wide, no_room, bad_spare, by_range}
use Rattle.run_check.proofs.run_ok.Goals as goal
use Rattle.run_check.proofs.run_ok.Goals.{After-range_ok, After-spare_ok, Else-rest-at}

pub returns-then-x-at : goal.returns-then-x-at
returns-then-x-at c =
    let a = c.args in
    not_start a.g a.rest.now a.at a.n (summary_is a.x) c.if-x-at.true

pub returns-then-x-gt-MAX_WIDTH : goal.returns-then-x-gt-MAX_WIDTH
returns-then-x-gt-MAX_WIDTH c =
    let a = c.args in
    too_wide a.g a.rest.now a.at a.n (summary_is a.x) c.if-x-at.false c.if-x-gt-MAX_WIDTH.true

pub returns-then-rest-at : goal.returns-then-rest-at
returns-then-rest-at c =
    let a = c.args in
    no_room a.g a.rest.now a.at a.n (summary_is a.x) c.if-x-at.false c.if-x-gt-MAX_WIDTH.false
    (omega (arith, c.if-rest-at.true, c.packed_bytes-bytes.ensures.0, c.requires.0))

-- the run is within the bytes
record Inside (c : Else-rest-at) : Type 0 where
  starts : c.args.x.start ≡ c.args.at
  narrow : c.args.x.width ≤ max_width
  within : let a = c.args in a.at + packed_bytes a.n a.x.width ≤ length a.rest.now
  part_is : let a = c.args in
      take (a.at + c.packed_bytes-bytes.result - a.at) (drop a.at a.rest.now) ≡ part_at a.rest.now a.at a.n a.x.width
  part_long : let a = c.args in
      length (part_at a.rest.now a.at a.n a.x.width) ≡ packed_bytes a.n a.x.width
  few : let a = c.args in a.n * a.x.width ≤ 16384 * 64

inside : (c : Else-rest-at) → Inside c
inside c =
    let a = c.args in
    let b : a.at + c.packed_bytes-bytes.result - a.at ≡ packed_bytes a.n a.x.width = omega (arith, c.packed_bytes-bytes.ensures.0) in
    let w : a.at + packed_bytes a.n a.x.width ≤ length a.rest.now = omega (arith, c.if-rest-at.false, c.packed_bytes-bytes.ensures.0, c.requires.0) in
    record {
      starts = c.if-x-at.false;
      narrow = c.if-x-gt-MAX_WIDTH.false;
      within = w;
      part_is = ap (λ (k : ℕ). take k (drop a.at a.rest.now)) b;
      part_long = length-take-le (packed_bytes a.n a.x.width) (drop a.at a.rest.now) (omega (arith, length-drop a.at a.rest.now));
      few = mul-le-mul {n₁ = a.n} {m₁ = a.x.width} {n₂ = 16384} {m₂ = 64} c.requires.3 c.if-x-gt-MAX_WIDTH.false;
    }

spare_is : (c : After-spare_ok) → let a = c.args in
    c.spare_ok.result ≡ spare_ok Od.Order.High (part_at a.rest.now a.at a.n a.x.width) (8 * packed_bytes a.n a.x.width - a.n * a.x.width)
spare_is c =
    let a = c.args in
    c.spare_ok.ensures
    ∙ ap₂ (λ (l : List ℕ) (k : ℕ). spare_ok Od.Order.High l (8 * k - a.n * a.x.width)) (inside (goal.at.After-spare_ok c).Else-rest-at).part_is c.packed_bytes-bytes.ensures.0

pub returns-then-not-spare_ok : goal.returns-then-not-spare_ok
returns-then-not-spare_ok c =
    let i = inside (goal.at.returns-then-not-spare_ok c).Else-rest-at in
    let a = c.args in
    bad_spare a.g a.rest.now a.at a.n (summary_is a.x) i.starts i.narrow i.within
    (sym (spare_is (goal.at.returns-then-not-spare_ok c).After-spare_ok) ∙ c.if-not-spare_ok.true)

-- the range decides
decided : (c : After-range_ok) → let a = c.args in
    c.range_ok.result ≡ run_ok a.g a.rest.now a.at a.n (summary_is a.x)
decided c =
    let i = inside (goal.at.After-range_ok c).Else-rest-at in
    let a = c.args in
    c.range_ok.ensures
    ∙ ap₂ (range_ok a.g (summary_is a.x))
    (c.range_of-range.ensures.0 ∙ ap (λ (l : List ℕ). least_from largest (unpacked a.x.width a.n l)) i.part_is)
    (c.range_of-range.ensures.1 ∙ ap (λ (l : List ℕ). most_from 0 (unpacked a.x.width a.n l)) i.part_is)
    ∙ sym
    (by_range a.g a.rest.now a.at a.n (summary_is a.x) i.starts i.narrow i.within
    (sym (spare_is (goal.at.After-range_ok c).After-spare_ok) ∙ c.if-not-spare_ok.false))

pub returns : goal.returns
returns c =
    let a = c.args in (
      sym (decided (goal.at.returns c).After-range_ok) ∙ c.if-not-range_ok.false,
      c.range_of-range.ensures.2 ∙ ap (λ (l : List ℕ). gcd_from a.d (unpacked a.x.width a.n l)) (inside (goal.at.returns c).Else-rest-at).part_is,
    )

pub returns-then-not-range_ok : goal.returns-then-not-range_ok
returns-then-not-range_ok c = sym (decided (goal.at.returns-then-not-range_ok c).After-range_ok) ∙ c.if-not-range_ok.true
