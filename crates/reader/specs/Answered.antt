-- What a reading leaves: its reply, and the two buffers afterwards. Assumes nothing.
use Rattle.std.specs.Prelude.{◌≡◌}
use Rattle.format.specs.Kit.{List, ℕ, ℤ}
use Rattle.format.specs.Refusals.{Outcome, done}
use Rattle.format.specs.Pairs.{Pairs}
use Rattle.format.specs.Editions.{editions}
use Rattle.format.specs.Opening.{Opened, open_column}
use Rattle.format.specs.Check.{accepted, read_reply, ids_after, values_after}
use Rattle.answers.specs.Replies.{reply_of}
use Rattle.std.specs.declared.result.Result.{Result}
use Rattle.answers.specs.declared.Refusal as Re

-- buffers of ids and values before, and after
pub record Answered (o : Outcome Pairs) (r : Result ℕ Re.Refusal) (ids ids' : List ℕ) (vs vs' : List ℤ) : Type 0 where
  pub reply : reply_of r ≡ read_reply o
  pub in_ids : ids' ≡ ids_after o ids
  pub in_values : vs' ≡ values_after o vs

-- bytes that were opened, and found to be the column of these pairs
pub record Whole (bytes : List ℕ) (c : Opened) : Type 0 where
  pub opens : open_column editions bytes ≡ done c
  pub pairs : Pairs
  pub taken : accepted bytes c ≡ done pairs
