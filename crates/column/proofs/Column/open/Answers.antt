-- `column::Column::open` meets its contract: step by step as the definition goes. Assumes nothing.
use Rattle.format.specs.Kit.{◌≡◌, sym, ap, ◌∙◌, some, length}
use Rattle.format.specs.Refusals.{done}
use Rattle.format.specs.Editions.{editions, edition_in}
use Rattle.format.specs.Column.{Head}
use Rattle.format.specs.Opening.{head_from}
use Rattle.answers.proofs.PassedOn.{passed_on}
use Rattle.values.specs.Edition.{edition_of}
use Rattle.column.specs.Opened.{known_of, opened_of, judged_as}
use Rattle.column.proofs.Steps.{no_number, no_edition, no_numbers, all_numbers}
use Rattle.column.proofs.Column.open.Goals as goal
use Rattle.column.proofs.Column.open.Goals.{In-Some}

pub returns-in_err-first : goal.returns-in_err-first
returns-in_err-first c =
    ap opened_of (passed_on c.from_residual.result _ c.from_residual.ensures.1)
    ∙ sym (no_number c.args.bytes.now _ (sym c.in_err-first.ensures))

pub returns-in_default : goal.returns-in_default
returns-in_default c =
    sym (no_edition c.args.bytes.now _ _ (sym c.in_ok-first.ensures) (sym c.in_default.ensures))

-- the edition is known
known : (c : In-Some) → edition_in editions c.in_ok-first.first.value ≡ some (edition_of c.in-Some.edition)
known c = sym c.in-Some.ensures

pub returns-in_err-start : goal.returns-in_err-start
returns-in_err-start c =
    ap opened_of (passed_on c.from_residual-in_err-start.result _ c.from_residual-in_err-start.ensures.1)
    ∙ sym (no_numbers c.args.bytes.now _ _ (sym c.in_ok-first.ensures) _ (known (goal.at.returns-in_err-start c).In-Some) _ (sym c.in_err-start.ensures))

pub returns : goal.returns
unfolding head_from
returns c =
    let s = c.args.bytes.now in
    c.judged.ensures
    ∙ ap (λ (h : Head). judged_as s (record { head = h; start = c.in_ok-start.start })) c.head_from-head.ensures
    ∙ sym (all_numbers s _ _ (sym c.in_ok-first.ensures) _ (known (goal.at.returns c).In-Some) c.read_numbers.new.out c.in_ok-start.start (sym c.in_ok-start.ensures))
