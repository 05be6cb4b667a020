-- `scaled_values::length` meets its contract. Assumes nothing.
use Rattle.format.specs.Kit.{sym, ap₂, ◌∙◌, arith, ℕ}
use Rattle.format.specs.Bits.{packed_bytes}
use Rattle.answers.specs.Replies.{fields_of}
use Rattle.scaled_values.proofs.Facts.{FieldsOf, fields_are}
use Rattle.scaled_values.proofs.Store.{length_section}
use Rattle.scaled_values.proofs.length.Goals as goal
use Rattle.scaled_values.proofs.length.Goals.{Start}

fields : (s : Start) → FieldsOf s.args.order s.args.values.now (fields_of s.args.fields)
fields s = fields_are _ _ _ s.requires.0 s.requires.1

pub packed_bytes-requires : goal.packed_bytes-requires
packed_bytes-requires c = (omega (arith, c.long.ensures, c.requires.2), (fields (goal.at.packed_bytes-requires c).Start).narrow)

pub returns : goal.returns
returns c =
    let e = c.long.ensures in (
      c.packed_bytes.ensures.0 ∙ ap₂ (λ (n w : ℕ). packed_bytes n w) e (fields (goal.at.returns c).Start).width_is ∙ sym (length_section c.args.order c.args.values.now),
      omega (arith, c.packed_bytes.ensures.1, e),
    )
