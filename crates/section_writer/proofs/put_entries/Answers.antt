-- `section_writer::put_entries` meets its contract. Assumes nothing.
use Rattle.format.specs.Kit.{◌≡◌, ap, arith, ℕ, ◌+◌, ◌-◌, ◌*◌, replicate, rules}
use Rattle.format.specs.Bytes.{bytes_of}
use Rattle.format.specs.Ids.{Entry, entry_bytes}
use Rattle.laws.proofs.Section.{entry_eight}
use Rattle.laws.proofs.Stores.{begun, part_more, filled}
use Rattle.section_writer.proofs.Steps.{equal_more, equal_none}
use Rattle.section_writer.proofs.put_entries.Goals as goal

pub loop-t-init : goal.loop-t-init
loop-t-init c =
    let a = c.args in
    let z : a.at + 8 * 0 ≡ a.at = omega arith in
    let n : a.n ≡ a.n - 0 = omega arith in
    (search rules, rw z (begun _ _ _ _ (ap (λ (k : ℕ). bytes_of entry_bytes (replicate k (a.o, a.s))) n)))

pub loop-t-preserved : goal.loop-t-preserved
loop-t-preserved c =
    let a = c.args in
    let e : Entry = (a.o, a.s) in (
      omega arith,
      part_more _ _ _ _ _ _ c.loop-t.invariant.1 _ _ (entry_bytes e) _
          (equal_more (a.n - c.loop-t.t) (a.n - (c.loop-t.t + 1)) e (omega arith)) c.put_entry.ensures
          (omega (arith, entry_eight e)),
    )

pub returns : goal.returns
returns c =
    let a = c.args in
    filled _ _ _ _ _ _ c.loop-t.invariant.1 (equal_none (a.n - c.loop-t.t) (a.o, a.s) (omega arith))
