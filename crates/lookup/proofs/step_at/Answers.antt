-- `lookup::step_at` meets its contract. Assumes nothing.
use Rattle.format.specs.Kit.{arith, rules}
use Rattle.lookup.proofs.Tested.{block_outside, block_above, block_below, block_broken, block_here}
use Rattle.lookup.proofs.step_at.Goals as goal

pub returns-then-a-at : goal.returns-then-a-at
returns-then-a-at c =
    let a = c.args in
    block_outside a.s.now a.a a.j a.b a.e.start (omega arith)

pub returns-then-b-k : goal.returns-then-b-k
returns-then-b-k c =
    let a = c.args in
    (block_above a.s.now a.a a.j a.b a.e.start (omega arith) (omega arith), λ z. omega arith)

pub returns-then-j-gt0 : goal.returns-then-j-gt0
returns-then-j-gt0 c =
    let a = c.args in
    block_broken a.s.now a.a a.j a.b a.e.start (omega arith) (omega arith) (λ z. omega arith)

pub returns-then-k-b : goal.returns-then-k-b
returns-then-k-b c =
    let a = c.args in
    (block_below a.s.now a.a a.j a.b a.e.start (omega arith) (omega arith) (omega arith), λ z. omega arith)

pub returns : goal.returns
returns c = let a = c.args in (
  block_here a.s.now a.a a.j a.b a.e.start (omega arith) (omega arith),
  record {
    ordinal = search rules;
    start = search rules;
    count = omega arith;
    kind = c.kind_of-kind.ensures;
    many = omega arith;
    head_end = omega arith;
    number = omega arith;
  },
)
