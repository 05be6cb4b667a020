-- `table_check::read_table` meets its contract. Assumes nothing.
use Rattle.format.specs.Kit.{◌≡◌, sym, ap, ◌∙◌, List, ◌∷◌, ◌++◌, ℕ, ◌+◌, ◌-◌, arith, ℤ, length, drop, rules}
use mir.Syntax.{w64}
use mir.Val.{to_z, of_z}
use mir.Facts.{to_z-of_z}
use Rattle.laws.proofs.Stores.{one_more, filled, sets_front}
use Rattle.table_check.specs.ValuesOk.{entries_from}
use Rattle.table_check.proofs.Entries.{length_entries, entries_next, entries_end}
use Rattle.table_check.proofs.read_table.Goals as goal
use Rattle.table_check.proofs.read_table.Goals.{In-loop-i}

pub loop-i-preserved : goal.loop-i-preserved
loop-i-preserved c =
    let a = c.args in
    let z : ℤ = c.entry.result in
    let more : List ℤ = entries_from (c.loop-i.i + 1) (a.t - (c.loop-i.i + 1)) a.section.now in
    one_more _ _ _ _ _ _ c.loop-i.invariant (to_z w64 (of_z w64 z)) more
    (entries_next c.loop-i.i a.t a.section.now c.loop-i-test.true
    ∙ ap {B = List ℤ} (λ (x : ℤ). x ∷ more) (sym (to_z-of_z {w = w64} {z = z} (search rules) ∙ c.entry.ensures)))

pub returns : goal.returns
returns c =
    let a = c.args in
    let es = entries_from 0 a.t a.section.now in
    let n : length es ≡ a.t = length_entries 0 a.t a.section.now in
    filled _ _ _ _ _ _ c.loop-i.invariant (entries_end c.loop-i.i a.t a.section.now c.loop-i-test.false)
    ∙ sets_front a.table.now es (omega (arith, n, c.requires.0)) ∙ ap (λ (k : ℕ). es ++ drop k a.table.now) n
