-- `section_writer::entries` meets its contract. Assumes nothing.
use Rattle.format.specs.Kit.{arith, ◌≡◌, ℕ, ◌+◌, ◌-◌, zero-le, List, [], ◌∷◌, length}
use Rattle.laws.proofs.Jumps.{end_nil, end_last}
use Rattle.laws.proofs.Bounds.{end_le}
use Rattle.format.specs.Ids.{runs}
use Rattle.format.specs.Runs.{end_of}
use Rattle.section_writer.proofs.entries.Goals as goal

empty : (ids : List ℕ) → length ids ≡ 0 → 1 ≡ end_of 0 (runs ids) + 1
empty [] e = omega (arith, end_nil 0)
empty (x ∷ xs) e = absurd (omega arith)

pub returns : goal.returns
returns c =
    let xs = c.args.ids.now in
    let e = end_last 0 (length xs - 1) xs (omega arith) in
    (omega (arith, e, c.number_of.ensures.0), omega (arith, e, c.number_of.ensures.0, end_le 0 (runs xs) zero-le c.requires.fine))

pub returns-then-n-eq0 : goal.returns-then-n-eq0
returns-then-n-eq0 c = let a = c.args in (empty a.ids.now c.if-n-eq0.true, omega arith)
