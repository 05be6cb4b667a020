-- `layered_reading::rest` meets its contract. Assumes nothing.
use Rattle.format.specs.Kit.{◌≡◌, ℕ, ◌+◌, ◌-◌, ◌≤◌, ap, sym, ◌∙◌, true, false, List, length, take, take_all, drop, length-drop, sets, replicate, arith}
use Rattle.column.specs.Opened.{column_of}
use Rattle.answers.specs.Replies.{refusal_number, refusal_with}
use Rattle.layered.specs.Answers.{layer_of}
use Rattle.laws.proofs.NextKept.{none_past}
use Rattle.layered_reading.proofs.Fills.{Answers, answers_so, refused_so, few_read, alone_none}
use Rattle.layered_reading.proofs.Steps.{rest_stored, rest_refused}
use Rattle.layered_reading.proofs.rest.Goals as goal
use Rattle.layered_reading.proofs.rest.Goals.{After-size, After-size-in-Ended}

pub returns-then-wide32-target : goal.returns-then-wide32-target
returns-then-wide32-target c =
    let a = c.args in
    λ next al.
    rw c.long.ensures
    (alone_none next a.room a.i a.target a.ids.now a.values.now a.columns.now (layer_of a.layer) a.bytes.now (column_of a.column) al
    (none_past a.bytes.now (column_of a.column) a.target (omega (arith, c.if-wide32-target.true, c.wide32.ensures.0))))

long_part : {A : Type 0} (l : List A) (i room : ℕ) → room ≤ length l → room - i ≤ length (take (length l - i) (drop i l))
long_part l i room h =
    let e : length (take (length l - i) (drop i l)) ≡ length (drop i l) = ap length (take_all (length l - i) (drop i l) (omega (arith, length-drop i l))) in
    omega (arith, length-drop i l)

pub read_up_to-got-requires : goal.read_up_to-got-requires
read_up_to-got-requires c =
    let p = c.requires.0 in
    let a = c.args in (
      record {
        rules = c.requires.1;
        whole = c.requires.2;
        in_ids = long_part a.ids.now a.i a.room p.in_ids;
        in_values = long_part a.values.now a.i a.room p.in_values;
      },
      omega (arith, c.if-wide32-target.false, c.wide32.ensures.0),
    )

-- the pairs that were read
more : (c : After-size) → let a = c.args in Answers a.bytes.now (column_of a.column) a.target (a.room - a.i) c.in-More.n false
more c =
    let a = c.args in
    answers_so a.bytes.now (column_of a.column) a.target (a.room - a.i) c.in-More.n false
    (rw (c.in-Ok.is, c.in-More.is) at c.read_up_to-got.ensures.0)

ended : (c : After-size-in-Ended) → let a = c.args in Answers a.bytes.now (column_of a.column) a.target (a.room - a.i) c.in-Ended.n true
ended c =
    let a = c.args in
    answers_so a.bytes.now (column_of a.column) a.target (a.room - a.i) c.in-Ended.n true
    (rw (c.in-Ok.is, c.in-Ended.is) at c.read_up_to-got.ensures.0)

-- they have room
fits : (c : After-size) → let a = c.args in a.i + c.size.result ≤ a.room
fits c =
    let a = c.args in
    omega (arith, few_read a.bytes.now (column_of a.column) (a.room - a.i) a.target, (more c).count, c.size.ensures, c.requires.0.upto)

fits_2 : (c : After-size-in-Ended) → let a = c.args in a.i + c.size-in-Ended.result ≤ a.room
fits_2 c =
    let a = c.args in
    omega (arith, few_read a.bytes.now (column_of a.column) (a.room - a.i) a.target, (ended c).count, c.size-in-Ended.ensures, c.requires.0.upto)

pub returns-in-More : goal.returns-in-More
returns-in-More c =
    let a = c.args in
    let p = c.requires.0 in
    let w = c.read_up_to-got in
    let number = c.number_of in
    λ next al.
    rest_stored next a.room a.i a.target a.ids.now a.values.now a.columns.now p.upto p.in_ids p.in_values a.layer
    a.bytes.now (column_of a.column) _ _ c.in-More.n c.long-in-More.result number.result false _ (more (goal.at.returns-in-More c).After-size) w.ensures.1.0
    w.ensures.1.1 (c.long-in-More.ensures ∙ ap (λ (n : ℕ). a.i + n) c.size.ensures) number.ensures
    (c.mark.ensures ∙ ap (λ (k : ℕ). sets a.columns.now a.i (replicate (k - a.i) number.result)) (sym c.long-in-More.ensures)) al

pub returns-in-Ended : goal.returns-in-Ended
returns-in-Ended c =
    let a = c.args in
    let p = c.requires.0 in
    let w = c.read_up_to-got in
    let number = c.number_of-in-Ended in
    λ next al.
    rest_stored next a.room a.i a.target a.ids.now a.values.now a.columns.now p.upto p.in_ids p.in_values a.layer
    a.bytes.now (column_of a.column) _ _ c.in-Ended.n c.long-in-Ended.result number.result true _ (ended (goal.at.returns-in-Ended c).After-size-in-Ended) w.ensures.1.0
    w.ensures.1.1 (c.long-in-Ended.ensures ∙ ap (λ (n : ℕ). a.i + n) c.size-in-Ended.ensures) number.ensures
    (c.mark-in-Ended.ensures ∙ ap (λ (k : ℕ). sets a.columns.now a.i (replicate (k - a.i) number.result)) (sym c.long-in-Ended.ensures)) al

pub returns-in-Err : goal.returns-in-Err
returns-in-Err c =
    let a = c.args in
    let p = c.requires.0 in
    let w = c.read_up_to-got in
    λ next al.
    rest_refused next a.room a.i a.target a.ids.now a.values.now a.columns.now p.upto p.in_ids p.in_values a.layer
    a.bytes.now (column_of a.column) _ _ c.in-Err.why c.stopped.result
    (refused_so a.bytes.now (column_of a.column) a.target (a.room - a.i) (refusal_number c.in-Err.why) (refusal_with c.in-Err.why) (rw c.in-Err.is at
    w.ensures.0))
    w.ensures.1.0 w.ensures.1.1 c.stopped.ensures al

pub overflow_add-end : goal.overflow_add-end
overflow_add-end c = omega (
  arith,
  fits c,
  c.requires.0.in_ids,
)

pub mark-requires : goal.mark-requires
mark-requires c = (
  omega arith,
  omega (
    arith,
    fits (goal.at.mark-requires c).After-size,
    c.requires.0.in_columns,
  ),
)

pub overflow_add-end-in-Ended : goal.overflow_add-end-in-Ended
overflow_add-end-in-Ended c = omega (
  arith,
  fits_2 c,
  c.requires.0.in_ids,
)

pub mark-requires-in-Ended : goal.mark-requires-in-Ended
mark-requires-in-Ended c = (
  omega arith,
  omega (
    arith,
    fits_2 (goal.at.mark-requires-in-Ended c).After-size-in-Ended,
    c.requires.0.in_columns,
  ),
)
