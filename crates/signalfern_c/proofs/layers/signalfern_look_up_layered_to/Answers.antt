-- `signalfern_c::layers::signalfern_look_up_layered_to` meets its contract. Assumes nothing.
use Rattle.format.specs.Kit.{ap, ◌∙◌}
use Rattle.format.specs.Editions.{editions}
use Rattle.format.specs.LookUp.{look_up}
use Rattle.format.specs.Layered.{look_up_layered}
use Rattle.answers.specs.Words.{layered_words}
use Rattle.boundary.proofs.Layering.{look_up_apart, goes_on}
use Rattle.signalfern_c.proofs.layers.signalfern_look_up_layered_to.Goals as goal

pub returns-then-above-ne1 : goal.returns-then-above-ne1
unfolding look_up_layered
returns-then-above-ne1 c =
    let l = c.look_from in
    let a = c.args in
    c.put_on_top.ensures _ (look_up editions a.correction.now a.id) (look_up editions a.machine.now a.id) l.ensures
    c.if-above-ne1.true

pub returns : goal.returns
unfolding look_up_layered
returns c =
    let l = c.look_from in
    let a = c.args in
    let above = look_up editions a.correction.now a.id in
    let below = look_up editions a.machine.now a.id in
    c.put_underneath.ensures _ below c.look_from-2.ensures (look_up_apart a.machine.now a.id)
    ∙ ap layered_words (goes_on _ _ above below (look_up_apart a.correction.now a.id) l.ensures c.if-above-ne1.false)
