-- `layered::underneath` meets its contract. Assumes nothing.
use Rattle.format.specs.Kit.{rules, sym, ap, ◌∙◌}
use mir.Syntax.{w64}
use mir.Facts.{to_z-of_z}
use Rattle.answers.specs.Replies.{answer_of}
use Rattle.format.specs.Layered.{underneath}
use Rattle.layered.proofs.underneath.Goals as goal
use Rattle.std.specs.Prelude.{Ok}
use Rattle.std.specs.declared.result.Result.{Result}
use Rattle.answers.specs.declared.Refusal as Re
use Rattle.answers.specs.declared.Look as Lk

pub returns-in-Ok-Found : goal.returns-in-Ok-Found
unfolding underneath
returns-in-Ok-Found c =
    let a = c.args in
    rw (to_z-of_z {w = w64} {z = c.in-Ok-Found.value} (search rules)) (ap (λ (x : Result Lk.Look Re.Refusal). underneath a.counted (answer_of x)) (sym (c.in-Ok-Found.is ∙ ap Ok (rw c.in-Ok-Found.is at c.in-Ok-Found.field-0-is))))

pub returns-in-Ok-Absent : goal.returns-in-Ok-Absent
unfolding underneath
returns-in-Ok-Absent c = ap (λ (x : Result Lk.Look Re.Refusal). underneath c.args.counted (answer_of x)) (sym (c.in-Ok-Absent.is ∙ ap Ok (rw c.in-Ok-Absent.is at c.in-Ok-Absent.field-0-is)))

pub returns-in-Err : goal.returns-in-Err
unfolding underneath
returns-in-Err c = ap (λ (x : Result Lk.Look Re.Refusal). underneath c.args.counted (answer_of x)) (sym c.in-Err.is)
