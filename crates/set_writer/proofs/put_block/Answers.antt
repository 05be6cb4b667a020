-- `set_writer::put_block` meets its contract. Assumes nothing.
use Rattle.format.specs.Kit.{sym, ap, ◌∙◌, List, ℕ, arith, sets}
use Rattle.format.specs.SetBytes.{set_data}
use Rattle.laws.proofs.Stores.{sets_then}
use Rattle.block_writer.specs.Part.{places_from}
use Rattle.block_writer.proofs.Data.{from_fine}
use Rattle.set_blocks.specs.Kinds.{kind_number}
use Rattle.set_writer.specs.Head.{head_bytes}
use Rattle.set_writer.proofs.Blocks.{its_bytes, its_length}
use Rattle.set_writer.proofs.put_block.Goals as goal

pub put_head-start-requires : goal.put_head-start-requires
put_head-start-requires c =
    let h = c.head_of-h in
    omega (arith, c.requires.1, its_length c.args.part.now c.requires.0 h.result h.ensures)

pub put_data-requires : goal.put_data-requires
put_data-requires c =
    let h = c.head_of-h in
    let xs = c.args.part.now in (
      from_fine xs c.requires.0,
      omega (arith, c.requires.1, its_length xs c.requires.0 h.result h.ensures, c.put_head-start.ensures.1, c.put_head-start.auto.out),
    )

pub returns : goal.returns
returns c =
    let h = c.head_of-h in
    let a = c.args in
    let xs = a.part.now in
    let d = c.put_data.ensures in
    let rs : List ℕ = places_from xs 0 in
    d ∙ ap (λ (l : List ℕ). sets l c.put_head-start.result (set_data (kind_number h.result.kind) rs)) c.put_head-start.ensures.0
    ∙ sym
    (ap (sets a.out.now a.at) (its_bytes xs c.requires.0 h.result h.ensures)
    ∙ sets_then a.out.now a.at c.put_head-start.result (head_bytes h.result) (set_data (kind_number h.result.kind) rs) (sym c.put_head-start.ensures.1))
