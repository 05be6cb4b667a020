-- `lookup::locate` meets its contract: steps 5 and 6 in the block that the id is to be found in, and what is left then. Assumes nothing.
use Rattle.format.specs.Kit.{◌≡◌, sym, ap, ◌∙◌, List, ℕ, ◌+◌, ◌<◌, ◌≤◌, arith}
use Rattle.format.specs.Opening.{Opened, id_part}
use Rattle.format.specs.LookUp.{answer, halved, steps, step_probes}
use Rattle.in_block.specs.Place.{place_of, probes_of}
use Rattle.lookup.specs.Steps.{Asked, Chosen}
use Rattle.lookup.proofs.Parts.{broken_for, no_place, at_place, at_no_place}
use Rattle.lookup.proofs.locate.Goals as goal
use Rattle.lookup.proofs.locate.Goals.{After-inner_of-place, After-wide32, In-At, In-At-place}

-- the block in which the id is to be found
there : (c : In-At) → let a = c.args in Chosen a.s.now a.q c.in-At.block
there c = rw c.in-At.is at (c.block_for-met.ensures c.args.q.place)

-- step 7 is left
placed : (c : After-inner_of-place) (bytes : List ℕ) (col : Opened) (id : ℕ)
    → let a = c.args in
    Asked col id a.q → id_part bytes col ≡ a.s.now
    → steps halved bytes col id ≡ answer bytes col c.in-At.block.ordinal (place_of c.inner_of-place.result)
placed c bytes col id x h =
    (there (goal.at.After-inner_of-place c).In-At).steps_left bytes col id x h ∙ ap (answer bytes col c.in-At.block.ordinal) (sym c.inner_of-place.ensures.0)

-- and the probes
probed_in : (c : After-inner_of-place) (bytes : List ℕ) (col : Opened) (id : ℕ)
    → let a = c.args in
    Asked col id a.q → id_part bytes col ≡ a.s.now → probes_of c.inner_of-place.result ≡ step_probes bytes col id
probed_in c bytes col id x h = c.inner_of-place.ensures.2 ∙ sym ((there (goal.at.After-inner_of-place c).In-At).probed bytes col id x h)

pub returns-in-Absent : goal.returns-in-Absent
returns-in-Absent c =
    let g = rw c.in-Absent.is at (c.block_for-met.ensures c.args.q.place) in
    record {
      steps_left = λ bytes col id x h. sym (g bytes col id x h).0;
      probed = λ bytes col id x h. sym (g bytes col id x h).1;
      listed = tt;
    }

pub returns-in_default-met : goal.returns-in_default-met
returns-in_default-met c =
    let b = c.block_for-met in
    let g = broken_for _ _ b.result c.in_default.not-At c.in_default-met.not-Absent (b.ensures c.args.q.place) in
    record { steps_left = λ bytes col id x h. sym (g bytes col id x h); probed = λ bytes col id x h. tt; listed = tt }

pub inner_of-place-requires : goal.inner_of-place-requires
inner_of-place-requires c =
    let f = c.requires in
    let k = there c in
    (f.power, f.place, k.kind, omega (arith, k.data_end, f.entries))

pub returns-in_default-place-2 : goal.returns-in_default-place-2
returns-in_default-place-2 c =
    let i = c.inner_of-place.result in
    record {
      steps_left = λ bytes col id x h. sym (placed (goal.at.returns-in_default-place-2 c).After-inner_of-place bytes col id x h ∙ no_place _ _ _ i c.in_default-place.not-At c.in_default-place-2.not-Absent);
      probed = λ bytes col id x h. tt;
      listed = tt;
    }

pub returns-in_default-place : goal.returns-in_default-place
returns-in_default-place c =
    let o = c.in-At.block.ordinal in
    record {
      steps_left = λ bytes col id x h.
          at_no_place bytes col _ _ 0
          ∙ sym (placed (goal.at.returns-in_default-place c).After-inner_of-place bytes col id x h ∙ ap (λ i. answer bytes col o (place_of i)) c.in-Absent-place.is);
      probed = λ bytes col id x h. ap probes_of (sym c.in-Absent-place.is) ∙ probed_in (goal.at.returns-in_default-place c).After-inner_of-place bytes col id x h;
      listed = tt;
    }

-- an ordinal is below n, so its sum does not wrap
ordinal_in : (c : In-At-place)
    → let b = c.in-At.block in
    (c.in-At-place.inner + 1 ≤ b.count) × (b.ordinal + b.count ≤ c.args.q.count)
ordinal_in c =
    let i = rw c.in-At-place.is at c.inner_of-place.ensures.1 in
    (omega arith, (there (goal.at.In-At-place c).In-At).last)

sum_in : (c : After-wide32) → let b = c.in-At.block in
    b.ordinal + c.wide32.result < 4294967296
sum_in c =
    omega (
      arith,
      ordinal_in (goal.at.After-wide32 c).In-At-place,
      c.wide32.ensures.0,
      c.requires.count,
    )

pub returns : goal.returns
returns c =
    let o = c.in-At.block.ordinal in
    record {
      steps_left = λ bytes col id x h.
          rw c.wide32.ensures.0
          (at_place bytes col _ _ _ 0
          ∙ sym (placed (goal.at.returns c).After-inner_of-place bytes col id x h
          ∙ ap (λ i. answer bytes col o (place_of i)) c.in-At-place.is));
      probed = λ bytes col id x h.
          ap probes_of (sym c.in-At-place.is) ∙ probed_in (goal.at.returns c).After-inner_of-place bytes col id x h;
      listed = omega (arith, ordinal_in (goal.at.returns c).In-At-place, c.wide32.ensures.0);
    }

pub overflow_add-result : goal.overflow_add-result
overflow_add-result c = omega (arith, sum_in (goal.at.overflow_add-result c).After-wide32)

pub overflow_cast-result : goal.overflow_cast-result
overflow_cast-result c = omega (arith, sum_in (goal.at.overflow_cast-result c).After-wide32)
