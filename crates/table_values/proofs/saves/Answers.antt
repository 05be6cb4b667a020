-- `table_values::saves` meets its contract. Assumes nothing.
use Rattle.format.specs.Kit.{ap, ap₂, ◌∙◌, ltb, ℕ}
use Rattle.format.specs.Bits.{packed_bytes}
use Rattle.format.specs.Codec.{Fields}
use Rattle.format.specs.Editions.{codec}
use Rattle.format.specs.Table.{value_share, table_fields, table_bytes}
use Rattle.answers.specs.Replies.{fields_of}
use Rattle.packings.specs.declared.Order as Od
use Rattle.scaled_values.proofs.Facts.{FieldsOf, fields_are}
use Rattle.table_values.specs.Saves.{saves}
use Rattle.table_values.proofs.saves.Goals as goal
use Rattle.table_values.proofs.saves.Goals.{After-plan-plain}

fields : (c : After-plan-plain) → let us = c.args.table.now in FieldsOf Od.Order.High us (fields_of c.plan-plain.result)
fields c = fields_are Od.Order.High _ _ c.plan-plain.ensures.0 c.plan-plain.ensures.1

pub returns : goal.returns
unfolding saves codec
returns c =
    let us = c.args.table.now in
    let t = c.long-t.ensures in
    let own = c.share-own.ensures
    ∙ ap₂ value_share (c.fields_of.ensures ∙ ap table_fields t)
    (c.bytes_of.ensures.0 ∙ ap (λ (k : ℕ). table_bytes k c.args.n) t) in
    let plain = c.share.ensures
    ∙ ap₂ value_share c.plan-plain.ensures.0
    (c.packed_bytes-v.ensures.0 ∙ ap (λ (f : Fields). packed_bytes c.args.n f.width) c.plan-plain.ensures.0) in
    (ap₂ ltb own plain, c.plan-plain.ensures.1)

pub packed_bytes-v-requires : goal.packed_bytes-v-requires
packed_bytes-v-requires c = (c.requires.2, (fields c).narrow)
