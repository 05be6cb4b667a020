-- `layered::top_of` meets its contract. Assumes nothing.
use Rattle.format.specs.Kit.{rules, sym, ap, ◌∙◌}
use mir.Syntax.{w64}
use mir.Facts.{to_z-of_z}
use Rattle.answers.specs.Replies.{answer_of}
use Rattle.format.specs.Layered.{on_top}
use Rattle.layered.proofs.top_of.Goals as goal
use Rattle.std.specs.Prelude.{Ok}
use Rattle.std.specs.declared.result.Result.{Result}
use Rattle.answers.specs.declared.Refusal as Re
use Rattle.answers.specs.declared.Look as Lk

pub returns-in-Ok-Found : goal.returns-in-Ok-Found
unfolding on_top
returns-in-Ok-Found c =
    λ below. rw (to_z-of_z {w = w64} {z = c.in-Ok-Found.value} (search rules)) (ap (λ (x : Result Lk.Look Re.Refusal). on_top (answer_of x) below) (sym (c.in-Ok-Found.is ∙ ap Ok (rw c.in-Ok-Found.is at c.in-Ok-Found.field-0-is))))

pub returns-in-Ok-Absent : goal.returns-in-Ok-Absent
unfolding on_top
returns-in-Ok-Absent c = λ below. ap (λ (x : Result Lk.Look Re.Refusal). on_top (answer_of x) below) (sym (c.in-Ok-Absent.is ∙ ap Ok (rw c.in-Ok-Absent.is at c.in-Ok-Absent.field-0-is)))

pub returns-in-Err : goal.returns-in-Err
unfolding on_top
returns-in-Err c = λ below. ap (λ (x : Result Lk.Look Re.Refusal). on_top (answer_of x) below) (sym c.in-Err.is)
