-- `layered_page::look_up_layered_page_in` meets its contract. Assumes nothing.
use Rattle.format.specs.Kit.{refl, sym, ◌∙◌, ◌≤◌, length}
use Rattle.format.specs.LookUp.{look_up_in}
use Rattle.format.specs.Layered.{look_up_layered_in}
use Rattle.format.specs.LayeredPage.{layered_page_in}
use Rattle.column.specs.Opened.{column_of, opened_of}
use Rattle.page.specs.Openings.{look_by}
use Rattle.layered_page.proofs.Calls.{numbered_in, same_in, same_numbered, layered_in_same, judged_fits, few, has_room, refused_so, is_above}
use Rattle.layered_page.proofs.Calls.{asked_so, settled_so}
use Rattle.layered_page.proofs.look_up_layered_page_in.Goals as goal
use Rattle.layered_page.proofs.look_up_layered_page_in.Goals.{Else-not-roomy}

pub returns-then-not-roomy : goal.returns-then-not-roomy
unfolding layered_page_in
returns-then-not-roomy c =
    let a = c.args in
    refused_so _ _ a.ordinals.now a.values.now a.kinds.now a.columns.now
    (few (look_up_layered_in a.machine.now (column_of a.machine_column) a.correction.now (column_of a.correction_column)) a.ids.now _ _ _
    _ (sym c.roomy.ensures ∙ c.if-not-roomy.true))

-- each list has room
room : (c : Else-not-roomy) → let a = c.args in
    (length a.ids.now ≤ length a.ordinals.now) × (length a.ids.now ≤ length a.values.now)
    × (length a.ids.now ≤ length a.kinds.now) × (length a.ids.now ≤ length a.columns.now)
room c = has_room _ _ _ _ _ (sym c.roomy.ensures ∙ c.if-not-roomy.false)

pub fill_by-counted-requires : goal.fill_by-counted-requires
fill_by-counted-requires c =
    let a = c.args in
    let r = room (goal.at.fill_by-counted-requires c).Else-not-roomy in (
      judged_fits _ (column_of a.correction_column) c.tested-top.result c.tested-top.ensures,
      record
          { ordinals_long = r.0; values_long = r.1; kinds_long = r.2 },
    )

pub returns-then-not-mark : goal.returns-then-not-mark
unfolding layered_page_in
returns-then-not-mark c =
    let a = c.args in
    let r = room (goal.at.returns-then-not-mark c).Else-not-roomy in
    let s = same_in a.correction.now (column_of a.correction_column) _ c.tested-top.ensures in
    settled_so (look_by a.correction.now (opened_of c.tested-top.result)) a.ids.now c.fill_by-counted.ensures r.0 r.1 r.2
    (look_up_in a.machine.now (column_of a.machine_column)) (same_numbered _ _ s
    (numbered_in a.correction.now (column_of a.correction_column))) (numbered_in a.machine.now (column_of a.machine_column))
    (look_up_layered_in a.machine.now (column_of a.machine_column) a.correction.now (column_of a.correction_column))
    (layered_in_same a.machine.now (column_of a.machine_column) a.correction.now (column_of a.correction_column) _ _ s (λ id. refl))
    a.columns.now _ r.3 c.mark.ensures.1
    (sym c.mark.ensures.0 ∙ c.if-not-mark.true)

pub fill_under-requires : goal.fill_under-requires
fill_under-requires c =
    let a = c.args in
    let r = room (goal.at.fill_under-requires c).Else-not-roomy in (
      judged_fits _ (column_of a.machine_column) c.tested-bottom.result c.tested-bottom.ensures,
      judged_fits _ (column_of a.correction_column) c.tested-top.result c.tested-top.ensures,
      same_numbered _ _ (same_in a.correction.now (column_of a.correction_column) _ c.tested-top.ensures)
          (numbered_in a.correction.now (column_of a.correction_column)),
      same_numbered _ _ (same_in a.machine.now (column_of a.machine_column) _ c.tested-bottom.ensures)
          (numbered_in a.machine.now (column_of a.machine_column)),
      is_above (look_by a.correction.now (opened_of c.tested-top.result)) a.ids.now c.fill_by-counted.ensures r.0 r.1 r.2,
      c.fill_by-counted.ensures.words,
    )

pub returns : goal.returns
unfolding layered_page_in
returns c =
    let a = c.args in
    let r = room (goal.at.returns c).Else-not-roomy in
    let s = same_in a.correction.now (column_of a.correction_column) _ c.tested-top.ensures in
    let l = same_in a.machine.now (column_of a.machine_column) _ c.tested-bottom.ensures in
    asked_so (look_by a.correction.now (opened_of c.tested-top.result)) a.ids.now c.fill_by-counted.ensures r.0 r.1 r.2
    (look_by a.machine.now (opened_of c.tested-bottom.result)) (same_numbered _ _ s (numbered_in a.correction.now (column_of a.correction_column)))
    (same_numbered _ _ l (numbered_in a.machine.now (column_of a.machine_column)))
    (look_up_layered_in a.machine.now (column_of a.machine_column) a.correction.now (column_of a.correction_column))
    (layered_in_same a.machine.now (column_of a.machine_column) a.correction.now (column_of a.correction_column) _ _ s l) a.columns.now
    _ r.3 c.mark.ensures.1 _ c.fill_under.ensures
