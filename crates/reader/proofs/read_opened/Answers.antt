-- `reader::read_opened` meets its contract: each refusal leaves the buffers, and all is verified before they are filled. Assumes nothing.
use Rattle.format.specs.Kit.{refl, sym, ◌∙◌, arith, length}
use Rattle.column.specs.Opened.{column_of}
use Rattle.laws.proofs.Digits.{below_all}
use Rattle.reader.specs.Answered.{Whole}
use Rattle.reader.proofs.Decoded.{decoded}
use Rattle.reader.proofs.Answers.{refused_so, damaged, whole, done_so, few_ids, few_values, enough, answered_as}
use Rattle.reader.proofs.read_opened.Goals as goal
use Rattle.reader.proofs.read_opened.Goals.{Else-not-accepts}

pub returns-then-ids-n : goal.returns-then-ids-n
returns-then-ids-n c =
    let a = c.args in
    refused_so _ _ _ _ a.ids.now a.values.now
    (few_ids a.bytes.now (length a.ids.now) (length a.values.now) (column_of a.c) c.requires (omega arith)) refl

pub returns-then-values-n : goal.returns-then-values-n
returns-then-values-n c =
    let a = c.args in
    refused_so _ _ _ _ a.ids.now a.values.now
    (few_values a.bytes.now (length a.ids.now) (length a.values.now) (column_of a.c) c.requires (omega arith) (omega arith)) refl

pub returns-then-not-accepts : goal.returns-then-not-accepts
returns-then-not-accepts c =
    let a = c.args in
    refused_so _ _ _ _ a.ids.now a.values.now
    (enough a.bytes.now (length a.ids.now) (length a.values.now) (column_of a.c) c.requires (omega arith) (omega arith)
    ∙ damaged a.bytes.now (column_of a.c) (sym c.accepts.ensures ∙ c.if-not-accepts.true))
    refl

taken : (c : Else-not-accepts) → let a = c.args in Whole a.bytes.now (column_of a.c)
taken c =
    whole c.args.bytes.now (column_of c.args.c) c.requires (sym c.accepts.ensures ∙ c.if-not-accepts.false)

pub read_ids-requires : goal.read_ids-requires
read_ids-requires c = (taken (goal.at.read_ids-requires c).Else-not-accepts, omega arith)

pub read_values-requires : goal.read_values-requires
read_values-requires c = (taken (goal.at.read_values-requires c).Else-not-accepts, omega arith)

pub returns : goal.returns
returns c =
    let a = c.args in
    let u = below_all 256 a.bytes.now (λ j. (c.type_inv.bytes j).fits) in
    answered_as _ _ _ a.ids.now _ a.values.now _
    (enough a.bytes.now (length a.ids.now) (length a.values.now) (column_of a.c) c.requires (omega arith) (omega arith))
    (done_so a.bytes.now (column_of a.c) _ a.ids.now _ a.values.now _ (taken (goal.at.returns c).Else-not-accepts) (decoded a.bytes.now (column_of a.c) u (taken (goal.at.returns c).Else-not-accepts)) refl
    c.read_ids.ensures c.read_values.ensures)
