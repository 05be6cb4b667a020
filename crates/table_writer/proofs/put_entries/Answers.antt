-- `table_writer::put_entries` meets its contract. The loop's invariant: the entries from i on are still to be put. Assumes nothing.
use Rattle.format.specs.Kit.{◌≡◌, refl, ap, ◌∙◌, ◌+◌, ◌*◌, arith, ℤ, pos, length, get_or, drop, sets, ℕ, rules}
use Rattle.format.specs.Bytes.{bytes_of, low, twos}
use Rattle.format.specs.Table.{table_entry}
use Rattle.laws.proofs.Stores.{begun, part_more, filled}
use Rattle.laws.proofs.Digits.{length_digits}
use Rattle.signed.proofs.Signs.{read_back}
use Rattle.table_writer.proofs.Written.{entries_more, entries_end}
use Rattle.table_writer.proofs.put_entries.Goals as goal

pub put_long-requires : goal.put_long-requires
put_long-requires c =
    let us = c.args.table.now in
    omega (arith, c.loop-i-test.true, c.loop-i.invariant.kept, c.requires)

pub loop-i-preserved : goal.loop-i-preserved
unfolding table_entry
loop-i-preserved c =
    let us = c.args.table.now in
    let v : ℤ = get_or us c.loop-i.i (pos 0) in
    let x : c.bits_of.result ≡ twos v = c.bits_of.ensures ∙ ap twos (read_back v (search rules)) in
    let next : 8 * (c.loop-i.i + 1) ≡ 8 * c.loop-i.i + length (low 8 (twos v)) = omega (arith, length_digits 256 8 (twos v)) in
    part_more _ _ _ _ _ _ c.loop-i.invariant _ _ (low 8 (twos v)) (bytes_of table_entry (drop (c.loop-i.i + 1) us))
    (entries_more us c.loop-i.i c.loop-i-test.true)
    (c.put_long.ensures ∙ ap (λ (y : ℕ). sets c.loop-i.out (8 * c.loop-i.i) (low 8 y)) x) next

pub returns : goal.returns
returns c =
    filled _ _ _ _ _ _ c.loop-i.invariant (entries_end c.args.table.now c.loop-i.i c.loop-i-test.false)

pub loop-i-init : goal.loop-i-init
loop-i-init c = begun _ _ _ _ refl

pub shape_of-out : goal.shape_of-out
shape_of-out c = c.loop-i.invariant.kept
