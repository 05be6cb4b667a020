-- Document 02, [12]: plans. A plan is a table, or none at all (an empty list), which is plain edition 1. The small check of a plan, and what the
-- planner proposes. Assumes nothing.
use Rattle.std.specs.Prelude.{◌∷◌}
use Rattle.format.specs.Kit.{ℕ, Bool, true, cond, List, [], length, leb, ℤ}
use Rattle.format.specs.Limits.{max_count}
use Rattle.format.specs.Refusals.{Outcome, done, need, BUFFER}
use Rattle.format.specs.Table.{max_entries, table_of, table_ok}
use Rattle.format.specs.Editions.{Edition, plain, table, codec}

-- the small check: plain always, and a table by its tests against edition 1
unfoldable pub plan_ok : List ℤ → List ℤ → Bool
plan_ok [] vs = true
plan_ok (u ∷ us) vs = table_ok (codec plain) (u ∷ us) vs

-- the planner: a table wherever the check takes one (`proposes`), else plain
unfoldable pub plan_of : List ℤ → List ℤ
plan_of vs = let us : List ℤ = table_of vs in cond (table_ok (codec plain) us vs) us []

-- plain also for more values than a column can hold
unfoldable pub planned : List ℤ → List ℤ
planned vs = cond (leb (length vs) max_count) (plan_of vs) []

-- what a plan is written in: plain gives edition 1
unfoldable pub plan_edition : List ℤ → Edition
plan_edition [] = plain
plan_edition (u ∷ us) = table

-- what a writer that is told an edition writes: edition 1 for values that the edition does not take (`chosen-plan`: by the planner's plan)
unfoldable pub chosen : Edition → List ℤ → Edition
chosen ed vs = cond ((codec ed).takes vs) ed plain

-- the planner's call, into a lent table of so many places; what it hands back and leaves there is as the writer's (`write_reply`, `write_out`)
unfoldable pub plan : List ℤ → ℕ → Outcome (List ℤ)
plan vs room = need (leb max_entries room) BUFFER max_entries (done (planned vs))
