-- `signalfern_c::look_in` meets its contract: by the quick road, or by the library's call. Assumes nothing.
use Rattle.format.specs.Kit.{◌≡◌, refl, sym, ap, ◌∙◌, List, ℕ, get_or, some}
use Rattle.format.specs.Editions.{plain, number_of, editions, edition_in}
use Rattle.format.specs.Opening.{Opened, head_ok, length_ok}
use Rattle.format.specs.LookUp.{look_up_in, step_probes}
use Rattle.answers.specs.Words.{laid_out, opened_by, opened_in, answer_words}
use Rattle.lookup.proofs.Calls.{steps_in}
use Rattle.signalfern_c.proofs.look_in.Goals as goal

plain_is : edition_in editions 1 ≡ some plain
unfolding number_of editions edition_in
plain_is = refl

-- a column handed in whose edition number is 1
laid_is : (w : List ℕ) → get_or w 2 0 ≡ 1 → laid_out plain w ≡ opened_in w
laid_is w e = sym (ap (opened_by w) (ap (edition_in editions) e ∙ plain_is))

pub returns-then-column-ne1 : goal.returns-then-column-ne1
returns-then-column-ne1 c = c.answer_in.ensures

pub returns-then-not-plain_fits : goal.returns-then-not-plain_fits
returns-then-not-plain_fits c = c.answer_in-then-not-plain_fits.ensures

pub put_steps-requires : goal.put_steps-requires
put_steps-requires c =
    let f = c.plain_fits.ensures c.if-not-plain_fits.false in
    let e = c.laid-opened.ensures in
    let a = c.args in
    (sym (ap (λ (x : Opened). head_ok x.head) e) ∙ f.1, sym (ap (length_ok a.lent.now.now) e) ∙ f.2)

pub returns : goal.returns
returns c =
    let a = c.args in
    let f = c.plain_fits.ensures c.if-not-plain_fits.false in
    let e = c.laid-opened.ensures in
    let x = laid_out plain a.column.now in
    let h = sym (ap (λ (z : Opened). head_ok z.head) e) ∙ f.1 in
    let l = sym (ap (length_ok a.lent.now.now) e) ∙ f.2 in
    c.put_steps.ensures.0 ∙ ap (answer_words (step_probes a.lent.now.now x a.id)) (sym (steps_in a.lent.now.now a.id f.0 x h l))
    ∙ ap (λ (z : Opened). answer_words (step_probes a.lent.now.now z a.id) (look_up_in a.lent.now.now z a.id))
    (laid_is a.column.now c.if-column-ne1.false)
