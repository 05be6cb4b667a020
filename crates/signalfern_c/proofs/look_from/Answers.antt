-- `signalfern_c::look_from` meets its contract: by the quick road, or by the library's. Assumes nothing.
use Rattle.format.specs.Kit.{◌≡◌, sym, ap, ap₂, ◌∙◌}
use Rattle.format.specs.Editions.{Edition, plain, editions}
use Rattle.format.specs.Opening.{Opened, head_ok, length_ok}
use Rattle.format.specs.LookUp.{halved, steps, step_probes}
use Rattle.laws.proofs.Probes.{opened_probes_lem}
use Rattle.column.specs.Opened.{column_of}
use Rattle.answers.specs.Words.{laid_out, answer_words}
use Rattle.lookup.proofs.Calls.{opened, read_at_once}
use Rattle.signalfern_c.proofs.look_from.Goals as goal
use Rattle.signalfern_c.proofs.look_from.Goals.{After-words_of-words}

-- the words are those of the column that was read
laid : (c : After-words_of-words) → laid_out plain c.words_of-words.result ≡ column_of c.quick-column.result
laid c =
    ap (λ (x : Edition). laid_out x c.words_of-words.result) (sym (c.plain_fits.ensures c.if-plain_fits.true).3) ∙ c.words_of-words.ensures

pub put_steps-requires : goal.put_steps-requires
put_steps-requires c =
    let f = c.plain_fits.ensures c.if-plain_fits.true in
    let a = c.args in
    (ap (λ (x : Opened). head_ok x.head) (laid (goal.at.put_steps-requires c).After-words_of-words) ∙ f.1, ap (length_ok a.lent.now.now) (laid (goal.at.put_steps-requires c).After-words_of-words) ∙ f.2)

pub returns-then-plain_fits : goal.returns-then-plain_fits
returns-then-plain_fits c =
    let a = c.args in
    let f = c.plain_fits.ensures c.if-plain_fits.true in
    let x = column_of c.quick-column.result in
    let o = read_at_once a.lent.now.now x c.quick-column.ensures f.1 f.2 in
    c.put_steps.ensures.0
    ∙ ap (λ (z : Opened). answer_words (step_probes a.lent.now.now z a.id) (steps halved a.lent.now.now z a.id)) (laid (goal.at.returns-then-plain_fits c).After-words_of-words)
    ∙ sym (ap₂ answer_words (opened_probes_lem editions a.lent.now.now x a.id o) (opened a.lent.now.now a.id f.0 x o))

pub returns : goal.returns
returns c =
    let l = c.look_up_read-told.ensures in
    c.put_answer.ensures _ l.probes ∙ ap (answer_words _) l.result_value

pub look_up_read-told-requires : goal.look_up_read-told-requires
look_up_read-told-requires c = c.quick-column.ensures
