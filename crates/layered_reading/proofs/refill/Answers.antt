-- `layered_reading::refill` meets its contract. Assumes nothing.
use Rattle.format.specs.Kit.{refl, sym, ◌∙◌, true, false, arith}
use Rattle.column.specs.Opened.{column_of}
use Rattle.answers.proofs.PassedOn.{passed_on}
use Rattle.answers.specs.Replies.{refusal_number, refusal_with}
use Rattle.layered_reading.proofs.Fills.{few_read, some_or_ended, answers_so, refused_so, read_holds}
use Rattle.layered_reading.proofs.refill.Goals as goal

pub returns-in-More : goal.returns-in-More
returns-in-More c =
    let a = c.args in
    let col = column_of a.column in
    let w = c.read_up_to in
    let A = answers_so a.bytes.now col a.target a.want c.in-More.n false (rw c.in-More.is at c.in_ok-n.ensures.0) in
    let few = few_read a.bytes.now col a.want a.target in
    rw c.size.ensures
    (record {
      within = record {
        order = omega arith;
        in_ids = omega (arith, few, A.count, w.auto.ids, c.requires.0.in_ids);
        in_values = omega (arith, few, A.count, w.auto.values, c.requires.0.in_values);
      };
      holds = read_holds a.bytes.now col a.target a.want c.in-More.n false a.ids.now _ a.values.now _ A w.ensures.1.0 w.ensures.1.1;
      answers = A.answers;
      some = λ h z. sym A.ended ∙ some_or_ended a.bytes.now col a.want a.target h A.answers (A.count ∙ sym z);
    })

pub returns-in-Ended : goal.returns-in-Ended
returns-in-Ended c =
    let a = c.args in
    let col = column_of a.column in
    let w = c.read_up_to in
    let A = answers_so a.bytes.now col a.target a.want c.in-Ended.n true (rw c.in-Ended.is at c.in_ok-n.ensures.0) in
    let few = few_read a.bytes.now col a.want a.target in
    rw c.size-in-Ended.ensures
    (record {
      within = record {
        order = omega arith;
        in_ids = omega (arith, few, A.count, w.auto.ids, c.requires.0.in_ids);
        in_values = omega (arith, few, A.count, w.auto.values, c.requires.0.in_values);
      };
      holds = read_holds a.bytes.now col a.target a.want c.in-Ended.n true a.ids.now _ a.values.now _ A w.ensures.1.0 w.ensures.1.1;
      answers = A.answers;
      some = λ h z. refl;
    })

pub returns-in_err-n : goal.returns-in_err-n
returns-in_err-n c =
    let a = c.args in
    let why = c.in_err-n.field-0.0 in
    let e = passed_on c.from_residual.result _ c.from_residual.ensures.1 in
    rw e (refused_so a.bytes.now (column_of a.column) a.target a.want (refusal_number why) (refusal_with why) c.in_err-n.ensures.0)
