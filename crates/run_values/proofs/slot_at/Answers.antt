-- `run_values::slot_at` meets its contract. Assumes nothing.
use Rattle.format.specs.Kit.{ap₂, ◌∙◌, arith, ℕ, ◌%◌, drop}
use Rattle.format.specs.ValueRuns.{run_length, Summary, in_run}
use Rattle.run_values.proofs.slot_at.Goals as goal

pub returns : goal.returns
returns c =
    let a = c.args in
    let e = c.slot_in.ensures in (
      e.0,
      λ g. e.1 g
          ∙ ap₂ (λ (m : ℕ) (y : Summary). in_run g (drop m a.section.now) y (a.i % run_length)) c.directory_length.ensures
          c.summary_at-x.ensures.0,
    )

pub summary_at-x-requires : goal.summary_at-x-requires
summary_at-x-requires c = omega (arith, c.requires.0, c.requires.1)

pub slot_in-requires : goal.slot_in-requires
slot_in-requires c = (omega (arith, c.requires.0, c.directory_length.ensures), omega arith)
