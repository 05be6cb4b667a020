-- `layered_reading::read_layered_from_in` meets its contract. Assumes nothing.
use Rattle.format.specs.Kit.{◌≡◌, sym, ◌∙◌, true, leb, leb-true, min, length}
use Rattle.format.specs.Limits.{max_id}
use Rattle.format.specs.Opening.{head_ok, length_ok}
use Rattle.column.specs.Opened.{column_of}
use Rattle.answers.specs.declared.Refusal as Re
use Rattle.layered.specs.declared.Layer as La
use Rattle.layered_reading.proofs.Calling.{leaves_as, refused_leaves, read_both, id_above_in, header_above_in, length_above_in, header_below_in}
use Rattle.layered_reading.proofs.Calling.{length_below_in}
use Rattle.layered_reading.proofs.Calling.{steps_in}
use Rattle.layered_reading.proofs.read_layered_from_in.Goals as goal
use Rattle.layered_reading.proofs.read_layered_from_in.Goals.{Else-not-head_ok, Else-not-head_ok-2, Else-not-id_ok, Else-not-length_ok, Else-not-length_ok-2}
use Rattle.std.specs.Prelude.{Err}
use Rattle.layered.specs.Answers.{refused_in}

in_range : (c : Else-not-id_ok) → leb c.args.from max_id ≡ true
in_range c = sym c.id_ok.ensures ∙ c.if-not-id_ok.false

above_rules : (c : Else-not-head_ok) → head_ok (column_of c.args.correction_column).head ≡ true
above_rules c = sym c.head_ok.ensures ∙ c.if-not-head_ok.false

above_whole : (c : Else-not-length_ok) → let a = c.args in length_ok a.correction.now (column_of a.correction_column) ≡ true
above_whole c = sym c.length_ok.ensures ∙ c.if-not-length_ok.false

the_rules : (c : Else-not-head_ok-2) → head_ok (column_of c.args.machine_column).head ≡ true
the_rules c = sym c.head_ok-2.ensures ∙ c.if-not-head_ok-2.false

whole : (c : Else-not-length_ok-2) → let a = c.args in length_ok a.machine.now (column_of a.machine_column) ≡ true
whole c = sym c.length_ok-2.ensures ∙ c.if-not-length_ok-2.false

pub returns-then-not-id_ok : goal.returns-then-not-id_ok
returns-then-not-id_ok c =
    let a = c.args in
    refused_leaves _ (Err (refused_in La.Layer.Correction Re.Refusal.Id)) a.ids.now a.values.now a.columns.now
    (id_above_in a.machine.now (column_of a.machine_column) a.correction.now (column_of a.correction_column) a.from _
    (sym c.id_ok.ensures ∙ c.if-not-id_ok.true))

pub returns-then-not-head_ok : goal.returns-then-not-head_ok
returns-then-not-head_ok c =
    let a = c.args in
    refused_leaves _ (Err (refused_in La.Layer.Correction Re.Refusal.Header)) a.ids.now a.values.now a.columns.now
    (header_above_in a.machine.now (column_of a.machine_column) a.correction.now (column_of a.correction_column) a.from _ (in_range (goal.at.returns-then-not-head_ok c).Else-not-id_ok)
    (sym c.head_ok.ensures ∙ c.if-not-head_ok.true))

pub returns-then-not-length_ok : goal.returns-then-not-length_ok
returns-then-not-length_ok c =
    let a = c.args in
    refused_leaves _ (Err (refused_in La.Layer.Correction Re.Refusal.Length)) a.ids.now a.values.now a.columns.now
    (length_above_in a.machine.now (column_of a.machine_column) a.correction.now (column_of a.correction_column) a.from _ (in_range (goal.at.returns-then-not-length_ok c).Else-not-id_ok)
    (above_rules (goal.at.returns-then-not-length_ok c).Else-not-head_ok) (sym c.length_ok.ensures ∙ c.if-not-length_ok.true))

pub returns-then-not-head_ok-2 : goal.returns-then-not-head_ok-2
returns-then-not-head_ok-2 c =
    let a = c.args in
    leaves_as _ _ c.below_refused.result a.ids.now _ a.values.now _ a.columns.now _
    (header_below_in a.machine.now (column_of a.machine_column) a.correction.now (column_of a.correction_column) a.from _ (in_range (goal.at.returns-then-not-head_ok-2 c).Else-not-id_ok)
    (above_rules (goal.at.returns-then-not-head_ok-2 c).Else-not-head_ok) (above_whole (goal.at.returns-then-not-head_ok-2 c).Else-not-length_ok) (sym c.head_ok-2.ensures ∙
    c.if-not-head_ok-2.true))
    (refused_leaves _ c.below_refused.result a.ids.now a.values.now a.columns.now
    (c.below_refused.ensures (read_both a.machine.now a.correction.now a.from
    (min (length a.columns.now) (min (length a.ids.now) (length a.values.now))))))

pub returns-then-not-length_ok-2 : goal.returns-then-not-length_ok-2
returns-then-not-length_ok-2 c =
    let a = c.args in
    leaves_as _ _ c.below_refused-then-not-length_ok-2.result a.ids.now _ a.values.now _ a.columns.now _
    (length_below_in a.machine.now (column_of a.machine_column) a.correction.now (column_of a.correction_column) a.from _ (in_range (goal.at.returns-then-not-length_ok-2 c).Else-not-id_ok)
    (above_rules (goal.at.returns-then-not-length_ok-2 c).Else-not-head_ok) (above_whole (goal.at.returns-then-not-length_ok-2 c).Else-not-length_ok) (the_rules (goal.at.returns-then-not-length_ok-2 c).Else-not-head_ok-2) (sym c.length_ok-2.ensures ∙ c.if-not-length_ok-2.true))
    (refused_leaves _ c.below_refused-then-not-length_ok-2.result a.ids.now a.values.now a.columns.now
    (c.below_refused-then-not-length_ok-2.ensures (read_both a.machine.now a.correction.now a.from
    (min (length a.columns.now) (min (length a.ids.now) (length a.values.now))))))

pub returns : goal.returns
returns c =
    let a = c.args in
    let w = c.layered_steps in
    leaves_as _ _ w.result a.ids.now _ a.values.now _ a.columns.now _
    (steps_in a.machine.now (column_of a.machine_column) a.correction.now (column_of a.correction_column) a.from _ (in_range (goal.at.returns c).Else-not-id_ok)
    (above_rules (goal.at.returns c).Else-not-head_ok)
    (above_whole (goal.at.returns c).Else-not-length_ok) (the_rules (goal.at.returns c).Else-not-head_ok-2) (whole (goal.at.returns c).Else-not-length_ok-2)) w.ensures

pub below_refused-requires : goal.below_refused-requires
below_refused-requires c = (
  record { rules = above_rules (goal.at.below_refused-requires c).Else-not-head_ok; whole = above_whole (goal.at.below_refused-requires c).Else-not-length_ok },
  leb-true _ max_id (in_range
      (goal.at.below_refused-requires c).Else-not-id_ok),
)

pub below_refused-requires-then-not-length_ok-2 : goal.below_refused-requires-then-not-length_ok-2
below_refused-requires-then-not-length_ok-2 c = (
  record {
    rules = above_rules (goal.at.below_refused-requires-then-not-length_ok-2 c).Else-not-head_ok;
    whole = above_whole (goal.at.below_refused-requires-then-not-length_ok-2 c).Else-not-length_ok;
  },
  leb-true _ max_id (in_range (goal.at.below_refused-requires-then-not-length_ok-2 c).Else-not-id_ok),
)

pub layered_steps-requires : goal.layered_steps-requires
layered_steps-requires c = (
  record { rules = the_rules (goal.at.layered_steps-requires c).Else-not-head_ok-2; whole = whole (goal.at.layered_steps-requires c).Else-not-length_ok-2 },
  record {
    rules = above_rules (goal.at.layered_steps-requires c).Else-not-head_ok;
    whole = above_whole (goal.at.layered_steps-requires c).Else-not-length_ok;
  },
  leb-true _ max_id (in_range (goal.at.layered_steps-requires c).Else-not-id_ok),
)
