-- `demands::pairs::open_then_read_from` meets its contract. Assumes nothing.
use Rattle.format.specs.Kit.{sym, ap, ◌∙◌, min, length}
use Rattle.format.specs.Refusals.{Outcome}
use Rattle.format.specs.Editions.{editions}
use Rattle.format.specs.ReadFrom.{Readout, readout_reply, readout_after}
use Rattle.laws.proofs.ReadCalls.{opened_read_from}
use Rattle.demands.proofs.Lists.{not_refused}
use Rattle.demands.proofs.Answers.{read_from_answers}
use Rattle.demands.proofs.pairs.open_then_read_from.Goals as goal

pub returns-in_err-opened : goal.returns-in_err-opened
returns-in_err-opened c =
    λ n x. not_refused c.args.bytes.now c.in_err-opened.ensures n x

pub returns : goal.returns
returns c =
    let a = c.args in
    let b = a.bytes.now in
    let room = min (length a.ids.now) (length a.values.now) in
    let opens = sym c.in_ok-opened.ensures in
    let same = opened_read_from b _ a.id room editions opens in
    let e = c.read_from_in.ensures in
    read_from_answers b a.id a.ids.now _ a.values.now _ c.read_from_in.result
    (e.replies ∙ ap readout_reply same)
    (e.ids_placed ∙ ap (λ (x : Outcome Readout). readout_after (λ w. w.ids) x a.ids.now) same)
    (e.values_placed ∙ ap (λ (x : Outcome Readout). readout_after (λ w. w.values) x a.values.now) same)
