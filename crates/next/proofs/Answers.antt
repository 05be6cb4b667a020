-- From the id section's id to the call's answer. Assumes nothing.
use Rattle.format.specs.Kit.{◌≡◌, ap, ◌∙◌, ℕ, ◌+◌, ◌*◌, ◌≤◌, arith}
use Rattle.format.specs.Limits.{max_id}
use Rattle.format.specs.Refusals.{Outcome}
use Rattle.format.specs.Opening.{Opened}
use Rattle.format.specs.Next as Nx
use Rattle.format.specs.Next.{last_after}
use Rattle.answers.specs.declared.Next.{Next}
use Rattle.lookup.specs.declared.Ask.{Ask}
use Rattle.lookup.specs.Steps.{Asked}
use Rattle.next.specs.Blocks.{AskedOf, Told}

-- ---- what is asked

module _ (c : Opened) (id : ℕ) (q : Ask) (x : Asked c id q) where
  pub asked_of : AskedOf c q
  asked_of = record { entries = x.entries; jumps = x.jumps; power = x.power; count = x.count }

  pub asked_id : q.block * 65536 + q.place ≡ id
  asked_id = omega arith

  pub asked_block : id ≤ max_id → q.block ≤ 32765
  asked_block h = omega arith

-- ---- the answer with the cursor

pub told_as : (o p : Outcome Nx.Candidate) (last t : ℕ) (r : Next) → o ≡ p → Told o last t r → Told p last t r
told_as o p last t r e h = (h.0 ∙ e, h.1 ∙ ap (λ (x : Outcome Nx.Candidate). last_after x last t) e)
