-- `signalfern_c::planning::signalfern_plan_to` meets its contract. Assumes nothing.
use Rattle.format.specs.Kit.{ap, ◌∙◌}
use Rattle.answers.specs.Words.{reply_words}
use Rattle.signalfern_c.proofs.planning.signalfern_plan_to.Goals as goal

pub returns : goal.returns
returns c = let w = c.plan-told in record { replies = c.put_reply.ensures ∙ ap reply_words w.ensures.replies; proposed = w.ensures.proposed }
