-- What the code's steps over blocks stand for. Assumes nothing.
use Rattle.std.specs.Prelude.{◌+◌, ◌-◌, ◌*◌, ◌≤◌, ◌<◌, ◌≡◌, Ok, Err, Some, None}
use Rattle.std.specs.declared.option.Option as Op
use Rattle.std.specs.declared.result.Result.{Result}
use Rattle.format.specs.Kit.{ℕ, List}
use Rattle.format.specs.Limits.{max_id, max_block, block_places}
use Rattle.format.specs.Refusals.{Outcome, done, and_then, given, BROKEN}
use Rattle.answers.specs.Replies.{refused_as, candidate_of}
use Rattle.answers.specs.declared.Refusal.{Refusal}
use Rattle.format.specs.Opening.{Opened, id_part, value_of}
use Rattle.format.specs.LookUp.{absent, entries_at, scanned, steps}
use Rattle.format.specs.Next as Nx
use Rattle.format.specs.Next.{candidate_at, no_candidate, in_turn, next_steps, last_after}
use Rattle.answers.specs.declared.Next.{Next}
use Rattle.lookup.specs.declared.Ask.{Ask}
use Rattle.next.specs.declared.Met.{Met}

-- what is asked of a column, but for the id
pub record AskedOf (c : Opened) (q : Ask) : Type 0 where
  pub entries : q.entries ≡ entries_at c.head
  pub jumps : q.jumps ≡ c.head.jump_count
  pub power : q.power ≡ c.head.power
  pub count : q.count ≡ c.head.count

-- step 7 from there, where the ids above give `more`
abbrev pub reached : List ℕ → Opened → Result (Op.Option Met) Refusal → Outcome Nx.Candidate → Outcome Nx.Candidate
reached bytes c (Ok (Some m)) more = and_then (given (value_of bytes c m.ordinal) BROKEN 0) (λ v. done (candidate_at m.id m.ordinal v))
reached bytes c (Ok None) more = more
reached bytes c (Err why) more = refused_as why

-- an ordinal is below n, and an id within its limit
abbrev pub Listed : ℕ → Result (Op.Option Met) Refusal → Type 0
Listed n (Ok (Some m)) = (m.ordinal < n) × (m.id ≤ max_id)
Listed n (Ok None) = Unit
Listed n (Err why) = Unit

-- the ids of block b from place r on, in any column with this id section
pub record BlockAs (s : List ℕ) (q : Ask) (b r : ℕ) (x : Result (Op.Option Met) Refusal) : Type 0 where
  pub left : (bytes : List ℕ) (c : Opened) → AskedOf c q → id_part bytes c ≡ s → (more : Outcome Nx.Candidate)
      → reached bytes c x more ≡ in_turn (block_places - r) bytes c (b * block_places + r) more
  pub listed : Listed q.count x

-- all ids of the blocks from b up to x are absent
pub record PassedTo (s : List ℕ) (q : Ask) (b x : ℕ) : Type 0 where
  pub from : b ≤ x
  pub most : x ≤ max_block + 1
  pub none : (bytes : List ℕ) (c : Opened) → AskedOf c q → id_part bytes c ≡ s
      → (y : ℕ) → b * block_places ≤ y → y < x * block_places → steps scanned bytes c y ≡ done (absent 0)

-- all ids from the asked one on
pub record WalkedAs (s : List ℕ) (q : Ask) (x : Result (Op.Option Met) Refusal) : Type 0 where
  pub left : (bytes : List ℕ) (c : Opened) → AskedOf c q → id_part bytes c ≡ s
      → reached bytes c x (done no_candidate) ≡ next_steps bytes c (q.block * block_places + q.place)
  pub listed : Listed q.count x

-- ---- the answer

-- the answer with the cursor afterwards
abbrev pub Told : Outcome Nx.Candidate → ℕ → ℕ → Next → Type 0
Told o last t r = (candidate_of r.candidate ≡ o) × (r.cursor.last ≡ last_after o last t)
