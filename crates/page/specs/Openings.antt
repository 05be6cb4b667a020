-- An id looked up in bytes whose header was opened, or refused, before. Assumes nothing.
use Rattle.std.specs.Prelude.{◌≡◌}
use Rattle.format.specs.Kit.{true, List, ℕ, leb}
use Rattle.format.specs.Limits.{max_id}
use Rattle.format.specs.Refusals.{Outcome, and_then, need, ID}
use Rattle.format.specs.Opening.{Opened, head_ok, length_ok}
use Rattle.format.specs.LookUp.{Look, halved, steps}
use Rattle.column.specs.Opened.{column_of}
use Rattle.column.specs.declared.Column.{Column}
use Rattle.std.specs.Prelude.{Ok, Err}
use Rattle.std.specs.declared.result.Result.{Result}
use Rattle.answers.specs.declared.Refusal as Re

-- 14; the header's refusal; 15
unfoldable pub look_by : List ℕ → Outcome Opened → ℕ → Outcome Look
look_by bytes o id = need (leb id max_id) ID 0 (and_then o (λ c. steps halved bytes c id))

-- a column keeps the header rules and fits these bytes;
abbrev pub Sound : List ℕ → Opened → Type 0
Sound bytes c = (head_ok c.head ≡ true) × (length_ok bytes c ≡ true)

-- one that was opened does
abbrev pub Fit : List ℕ → Result Column Re.Refusal → Type 0
Fit bytes (Ok c) = Sound bytes (column_of c)
Fit bytes (Err why) = Unit
