-- `values::draw_runs` meets its contract: what the run has left is drawn after its own. Assumes nothing.
use Rattle.format.specs.Kit.{◌∙◌}
use Rattle.values.proofs.draw_runs.Goals as goal

pub returns : goal.returns
returns c =
    let e = c.draw_each.ensures in
    let f = c.draw-i.ensures.2 in
    (e.0 ∙ f.next, e.1 ∙ f.same)
