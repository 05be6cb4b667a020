-- `signalfern_c::layers::signalfern_look_up_layered_in_to` meets its contract. Assumes nothing.
use Rattle.format.specs.Kit.{ap, ◌∙◌}
use Rattle.format.specs.LookUp.{look_up_in}
use Rattle.format.specs.Layered.{look_up_layered_in}
use Rattle.answers.specs.Words.{opened_in, layered_words}
use Rattle.boundary.proofs.Layering.{look_up_in_apart, goes_on}
use Rattle.signalfern_c.proofs.layers.signalfern_look_up_layered_in_to.Goals as goal

pub returns-then-above-ne1 : goal.returns-then-above-ne1
unfolding look_up_layered_in
returns-then-above-ne1 c =
    let l = c.look_in in
    let a = c.args in
    c.put_on_top.ensures _ (look_up_in a.correction.now (opened_in a.correction_column.now) a.id)
    (look_up_in a.machine.now (opened_in a.machine_column.now) a.id) l.ensures
    c.if-above-ne1.true

pub returns : goal.returns
unfolding look_up_layered_in
returns c =
    let l = c.look_in in
    let a = c.args in
    let x = opened_in a.machine_column.now in
    let y = opened_in a.correction_column.now in
    let above = look_up_in a.correction.now y a.id in
    let below = look_up_in a.machine.now x a.id in
    c.put_underneath.ensures _ below c.look_in-2.ensures (look_up_in_apart a.machine.now x a.id)
    ∙ ap layered_words (goes_on _ _ above below (look_up_in_apart a.correction.now y a.id) l.ensures c.if-above-ne1.false)
