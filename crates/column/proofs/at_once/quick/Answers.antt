-- `column::at_once::quick` meets its contract: the nine numbers one after the other, each read at once. Assumes nothing.
use Rattle.format.specs.Kit.{◌≡◌, sym, ap, ◌∙◌, some, arith}
use Rattle.format.specs.Refusals.{done}
use Rattle.format.specs.HeaderNumbers.{number_at}
use Rattle.format.specs.Column.{Head}
use Rattle.format.specs.Editions.{editions, edition_in}
use Rattle.values.specs.Edition.{edition_of}
use Rattle.column.specs.Opened.{known_of, judged_as}
use Rattle.column.proofs.HeaderNumbers.{quick_at, byte_at, numbers_more}
use Rattle.column.proofs.Steps.{all_numbers}
use Rattle.column.proofs.at_once.quick.Goals as goal
use Rattle.column.proofs.at_once.quick.Goals.{Else-first-ne1, In-Some}

-- the edition's number is one byte long,
first : (c : Else-first-ne1)
    → number_at c.args.bytes.now 0 ≡ done (c.quick_byte-first.result.value, 1)
first c = byte_at c.quick_byte-first.ensures.0 (omega (arith, c.if-first-ne1.false))

-- and known
known : (c : In-Some) → edition_in editions c.quick_byte-first.result.value ≡ some (edition_of c.in-Some.edition)
known c =
    sym c.edition_in.ensures ∙ ap known_of c.in-Some.is

pub returns : goal.returns
returns c =
    let s = c.args.bytes.now in
    λ n.
    let on = c.quick_values.ensures n in
    all_numbers s _ 1 (first (goal.at.returns c).Else-first-ne1) _ (known (goal.at.returns c).In-Some) _ _
    (numbers_more 7 s 1 (quick_at c.quick_more-n.ensures c.if-n-eq0.false c.place_after-after_n.ensures.0)
    (numbers_more 6 s _ (byte_at c.quick_byte-p.ensures.0 (c.quick_byte-p.ensures.1 c.if-p-eq0.false))
    (numbers_more 5 s _ (quick_at c.quick_more-l.ensures c.if-l-eq0.false c.place_after-after_l.ensures.0)
    (numbers_more 4 s _ (quick_at c.quick_number-j.ensures c.if-j-eq0.false c.place_after-after_j.ensures.0)
    on.read))))
    ∙ ap (λ (h : Head). judged_as s (record { head = h; start = c.quick_values.result.start })) (sym on.head)
