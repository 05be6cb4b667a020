-- `writer::write_by` meets its contract. Assumes nothing.
use Rattle.format.specs.Kit.{◌≡◌, ap, ◌∙◌, arith, ◌+◌, length, sets}
use Rattle.format.specs.Valid.{Valid}
use Rattle.format.specs.Column.{column}
use Rattle.values.specs.Edition.{edition_of}
use Rattle.column.specs.Opened.{head_is}
use Rattle.writer.proofs.Written.{asked_valid, refused_both, own_plan, own_column, own_plan_for, total_is, too_long, done_both}
use Rattle.writer.proofs.write_by.Goals as goal
use Rattle.writer.proofs.write_by.Goals.{After-long, After-plan-fields}

-- the lists are what the writer takes
valid : (c : After-plan-fields) → (let a = c.args in Valid (edition_of a.edition) a.power a.ids.now a.values.now)
valid c =
    let a = c.args in
    asked_valid a.power a.ids.now a.values.now c.plan-fields.ensures.1 c.requires.1.taken c.requires.0

-- the sum of the three lengths is the column's
total : (c : After-long)
    → (let a = c.args in
    let h = head_is c.plan-head.result in
    c.long.result + h.id_bytes + h.value_bytes ≡ length (column (edition_of a.edition) a.power a.ids.now a.values.now))
total c =
    let a = c.args in
    let q = c.plan-head in
    total_is (edition_of a.edition) a.power a.ids.now a.values.now (head_is q.result) q.ensures _
    (c.long.ensures ∙ c.header_len.ensures.0)

pub plan-head-requires : goal.plan-head-requires
plan-head-requires c = (valid c, c.plan-fields.ensures.0)

pub returns-then-total-long : goal.returns-then-total-long
returns-then-total-long c =
    let a = c.args in
    let both = refused_both _ a.out.now
    (too_long (edition_of a.edition) a.power a.ids.now a.values.now a.out.now (valid (goal.at.returns-then-total-long c).After-plan-fields) (total (goal.at.returns-then-total-long c).After-long)
    (omega (arith, c.if-total-long.true, c.long-2.ensures))) in
    record { replies = both.0; written = both.1 }

pub put_column-requires : goal.put_column-requires
put_column-requires c =
    let q = c.plan-head in
    let a = c.args in
    let own = ap length (own_column (edition_of a.edition) a.power a.ids.now a.values.now (head_is q.result) q.ensures) in
    let p = own_plan_for (edition_of a.edition) a.power a.ids.now a.values.now (head_is q.result) q.ensures in (
      p.0 (valid (goal.at.put_column-requires c).After-plan-fields),
      own_plan (edition_of a.edition) a.power a.ids.now a.values.now (head_is q.result) q.ensures,
      omega (arith, own, total (goal.at.put_column-requires c).After-long, c.if-total-long.false, c.long-2.ensures),
      p.1 a.table.now c.requires.1,
    )

pub returns : goal.returns
returns c =
    let q = c.plan-head in
    let a = c.args in
    let both = done_both (edition_of a.edition) a.power a.ids.now a.values.now a.out.now (valid (goal.at.returns c).After-plan-fields) (total (goal.at.returns c).After-long)
    (omega (arith, c.if-total-long.false, c.long-2.ensures))
    (c.put_column.ensures
    ∙ ap (sets a.out.now 0) (own_column (edition_of a.edition) a.power a.ids.now a.values.now (head_is q.result) q.ensures)) in
    record { replies = both.0; written = both.1 }

pub plan-fields-requires : goal.plan-fields-requires
plan-fields-requires c = c.requires.1
