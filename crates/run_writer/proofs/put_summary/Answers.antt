-- `run_writer::put_summary` meets its contract. Assumes nothing.
use Rattle.format.specs.Kit.{ap, ◌∙◌, ℕ, ◌+◌, length-set, sets}
use Rattle.format.specs.Bytes.{low}
use Rattle.format.specs.ValueRuns.{summary_bytes}
use Rattle.run_writer.proofs.Laid.{summary_put}
use Rattle.run_writer.proofs.put_summary.Goals as goal

pub returns : goal.returns
unfolding summary_bytes
returns c =
    let a = c.args in
    summary_put a.out.now c.put_long.new.out c.put_long-2.new.out c.put_long-3.new.out a.at _ _ _ _
    (c.put_long.ensures ∙ ap (λ (x : ℕ). sets a.out.now a.at (low 8 x)) c.turned.ensures.1)
    (c.put_long-2.ensures ∙ ap (λ (x : ℕ). sets c.put_long.new.out (a.at + 8) (low 8 x)) c.turned-2.ensures.1)
    c.put_long-3.ensures

pub shape_of-out : goal.shape_of-out
shape_of-out c =
    let a = c.args in
    length-set c.put_long-3.new.out (a.at + 24) a.x.width ∙ c.put_long-3.auto.out ∙ c.put_long-2.auto.out ∙ c.put_long.auto.out
