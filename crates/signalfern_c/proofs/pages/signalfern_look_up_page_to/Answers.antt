-- `signalfern_c::pages::signalfern_look_up_page_to` meets its contract. Assumes nothing.
use Rattle.format.specs.Kit.{ap, ◌∙◌}
use Rattle.answers.specs.Words.{page_words}
use Rattle.signalfern_c.proofs.pages.signalfern_look_up_page_to.Goals as goal

pub returns : goal.returns
returns c =
    let p = c.look_up_page-told in
    record { replies = c.put_page.ensures ∙ ap (page_words _) p.ensures.replies; ordinals_placed = p.ensures.ordinals_placed; values_placed = p.ensures.values_placed; kinds_placed = p.ensures.kinds_placed }
