-- `set_writer::head_of` meets its contract. Assumes nothing.
use Rattle.format.specs.Kit.{ap, ◌∙◌, arith}
use Rattle.format.specs.SetBytes.{set_kind}
use Rattle.set_writer.proofs.Blocks.{few, some_id, head_is_is}
use Rattle.set_writer.proofs.head_of.Goals as goal

pub list_len-requires : goal.list_len-requires
list_len-requires c =
    few c.args.part.now c.requires

pub returns : goal.returns
returns c =
    head_is_is c.args.part.now c.requires (c.long-2.ensures ∙ c.number_of-block.ensures.0)
    (c.kind_of-kind.ensures ∙ ap set_kind c.long.ensures) c.list_len.ensures

pub bounds-part-0 : goal.bounds-part-0
bounds-part-0 c = omega (arith, some_id c.args.part.now c.requires)
