-- `demands::layered_pairs::open_then_read_layered_from` meets its contract. Assumes nothing.
use Rattle.format.specs.Kit.{sym, ap, ◌∙◌, min, length}
use Rattle.format.specs.Editions.{editions}
use Rattle.format.specs.LayeredReading.{LayeredRead, pair_id, pair_value, pair_column, layered_read_reply, layered_read_after}
use Rattle.column.specs.Opened.{opened_of}
use Rattle.laws.proofs.LayeredCalls.{opened_read}
use Rattle.demands.proofs.Lists.{not_refused}
use Rattle.demands.proofs.Answers.{layered_read_answers}
use Rattle.demands.proofs.layered_pairs.open_then_read_layered_from.Goals as goal

pub returns-in-Err : goal.returns-in-Err
returns-in-Err c =
    λ i j x y. not_refused c.args.machine.now (ap opened_of (sym c.in-Err.is) ∙ c.open-below.ensures) i x

pub returns-in-Err-above : goal.returns-in-Err-above
returns-in-Err-above c =
    λ i j x y. not_refused c.args.correction.now (ap opened_of (sym c.in-Err-above.is) ∙ c.open-above.ensures) j y

pub returns-in-Ok-above : goal.returns-in-Ok-above
returns-in-Ok-above c =
    let a = c.args in
    let m = a.machine.now in
    let t = a.correction.now in
    let room = min (length a.columns.now) (min (length a.ids.now) (length a.values.now)) in
    let same =
    opened_read editions m _ t _ a.id room (sym c.open-below.ensures ∙ ap opened_of c.in-Ok.is)
    (sym c.open-above.ensures ∙ ap opened_of c.in-Ok-above.is) in
    let e = c.read_layered_from_in.ensures in
    layered_read_answers m t a.id a.ids.now _ a.values.now _ a.columns.now _ c.read_layered_from_in.result
    (e.replies ∙ ap layered_read_reply same)
    (e.ids_placed ∙ ap (λ (x : LayeredRead). layered_read_after pair_id x a.ids.now) same)
    (e.values_placed ∙ ap (λ (x : LayeredRead). layered_read_after pair_value x a.values.now) same)
    (e.columns_placed ∙ ap (λ (x : LayeredRead). layered_read_after pair_column x a.columns.now) same)
