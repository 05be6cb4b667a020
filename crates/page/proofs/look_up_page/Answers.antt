-- `page::look_up_page` meets its contract. Assumes nothing.
use Rattle.format.specs.Kit.{arith, length}
use Rattle.page.specs.Parts.{three}
use Rattle.page.specs.Placed.{Room}
use Rattle.format.specs.Editions.{editions}
use Rattle.format.specs.LookUp.{look_up}
use Rattle.laws.proofs.Paged.{few_ordinals, few_values, few_kinds}
use Rattle.page.proofs.Openings.{open_fits, answers_by}
use Rattle.page.proofs.Pages.{begins, ends, refused_so, done_so}
use Rattle.page.proofs.look_up_page.Goals as goal
use Rattle.page.proofs.look_up_page.Goals.{Else-kinds-n}

-- each list has room
room : (c : Else-kinds-n) → let a = c.args in
    Room (length a.ids.now) (length a.ordinals.now) (length a.values.now) (length a.kinds.now)
room c = record { ordinals_long = omega arith; values_long = omega arith; kinds_long = omega arith }

pub returns-then-ordinals-n : goal.returns-then-ordinals-n
returns-then-ordinals-n c =
    let a = c.args in
    refused_so _ _ a.ordinals.now a.values.now a.kinds.now (few_ordinals editions a.bytes.now a.ids.now _ _ _ c.if-ordinals-n.true)

pub returns-then-values-n : goal.returns-then-values-n
returns-then-values-n c =
    let a = c.args in
    refused_so _ _ a.ordinals.now a.values.now a.kinds.now
    (few_values editions a.bytes.now a.ids.now _ _ _ (omega (arith, c.if-ordinals-n.false)) c.if-values-n.true)

pub returns-then-kinds-n : goal.returns-then-kinds-n
returns-then-kinds-n c =
    let a = c.args in
    refused_so _ _ a.ordinals.now a.values.now a.kinds.now
    (few_kinds editions a.bytes.now a.ids.now _ _ _ (omega (arith, c.if-ordinals-n.false)) (omega (arith, c.if-values-n.false)) c.if-kinds-n.true)

pub returns-then-n-eq0 : goal.returns-then-n-eq0
returns-then-n-eq0 c =
    let a = c.args in
    done_so a.bytes.now a.ids.now 0 a.ordinals.now _ a.values.now _ a.kinds.now _ (room (goal.at.returns-then-n-eq0 c).Else-kinds-n)
    (ends _ _ (begins (look_up editions a.bytes.now) a.ids.now (three a.ordinals.now a.values.now a.kinds.now)) (omega (arith, c.if-n-eq0.true))
    (room (goal.at.returns-then-n-eq0 c).Else-kinds-n))

pub fill_by-requires : goal.fill_by-requires
fill_by-requires c =
    (open_fits _ c.open-opening.result c.open-opening.ensures, room (goal.at.fill_by-requires c).Else-kinds-n)

pub returns : goal.returns
returns c =
    let a = c.args in
    done_so a.bytes.now a.ids.now c.fill_by.result a.ordinals.now _ a.values.now _ a.kinds.now _ (room (goal.at.returns c).Else-kinds-n)
    (rw (answers_by a.bytes.now _ c.open-opening.ensures a.ids.now) at c.fill_by.ensures)
