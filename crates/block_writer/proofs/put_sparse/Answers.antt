-- `block_writer::put_sparse` meets its contract. Assumes nothing.
use Rattle.format.specs.Kit.{sym, ap, ◌∙◌, List, ℕ, ◌+◌, ◌*◌, arith, sets}
use Rattle.format.specs.Bytes.{low, bytes_of}
use Rattle.block_writer.specs.Part.{places_from}
use Rattle.block_writer.proofs.Data.{short_more, short_end}
use Rattle.block_writer.proofs.put_sparse.Goals as goal

pub loop-i-preserved : goal.loop-i-preserved
loop-i-preserved c =
    let a = c.args in
    let o = c.put_short in
    let x = c.long.ensures ∙ c.place_of-place.ensures.0 in
    let j : ℕ = a.at + 2 * (c.loop-i.i + 1) in (
      omega arith,
      o.auto.out ∙ c.loop-i.invariant.1,
      sym
          (sym c.loop-i.invariant.2 ∙ short_more a.part.now c.loop-i.out (a.at + 2 * c.loop-i.i) j c.loop-i.i (omega arith) (omega arith)
          ∙ ap (λ (xs : List ℕ). sets xs j (bytes_of (low 2) (places_from a.part.now (c.loop-i.i + 1)))) (rw (← x) (sym o.ensures))),
    )

pub returns : goal.returns
returns c =
    let a = c.args in
    sym (short_end a.part.now c.loop-i.out (a.at + 2 * c.loop-i.i) c.loop-i.i (omega arith)) ∙ c.loop-i.invariant.2
