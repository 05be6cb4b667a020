-- What the code's reading over blocks stands for, and its answer. Assumes nothing.
use Rattle.std.specs.Prelude.{◌+◌, ◌*◌, ◌≤◌, ◌<◌, ◌≡◌, ◌⊎◌, Ok, Err}
use Rattle.std.specs.declared.result.Result.{Result}
use Rattle.format.specs.Kit.{ℕ, Bool, true, false, List, ℤ, length}
use Rattle.format.specs.Limits.{block_places}
use Rattle.format.specs.Refusals.{Outcome, done, refused, BROKEN}
use Rattle.format.specs.Opening.{Opened, head_ok, length_ok, id_part}
use Rattle.format.specs.LookUp.{absent, scanned, steps}
use Rattle.format.specs.Next.{Candidate, no_candidate, next_steps}
use Rattle.answers.specs.declared.Refusal as Re
use Rattle.answers.specs.declared.Readout as Ro
use Rattle.answers.specs.Replies.{refused_as, readout_of}
use Rattle.lookup.specs.declared.Ask.{Ask}
use Rattle.lookup.specs.declared.Step as St
use Rattle.next.specs.Blocks.{AskedOf}
use Rattle.format.specs.ReadFrom as Rf
use Rattle.format.specs.ReadFrom.{answered, is_none, readout_reply, readout_after}
use Rattle.read_in_block.specs.Parts.{Reads}
use Rattle.read_in_block.specs.Stretch.{InBlock}
use Rattle.read_from.specs.declared.Stop.{Stop}

-- what steps 1 to 4 give for block b, told of each of its places
abbrev pub BlockIs : List ℕ → Opened → ℕ → St.Step → Type 0
BlockIs bytes c b (St.Step.At k) = InBlock bytes c b k
BlockIs bytes c b St.Step.Absent = (y : ℕ) → y < block_places → steps scanned bytes c (b * block_places + y) ≡ done (absent 0)
BlockIs bytes c b St.Step.Broken = (y : ℕ) → y < block_places → steps scanned bytes c (b * block_places + y) ≡ refused BROKEN 0

-- of any column with this id section
abbrev pub MetAs : List ℕ → Ask → ℕ → St.Step → Type 0
MetAs s q b st = (bytes : List ℕ) (c : Opened) → AskedOf c q → id_part bytes c ≡ s → BlockIs bytes c b st

-- what comes next after so many pairs: none, an id (after some a failed step too), or a failed step
abbrev pub EndIs : Result Bool Re.Refusal → ℕ → Outcome Candidate → Type 0
EndIs (Ok true) count o = o ≡ done no_candidate
EndIs (Ok false) count o = (is_none o ≡ false) × ((0 < count) ⊎ (answered o ≡ true))
EndIs (Err why) count o = o ≡ refused_as why

-- a column that keeps the header rules and fits its bytes, and lists with room for so many pairs
pub record Roomy (bytes : List ℕ) (c : Opened) (room : ℕ) (ids : List ℕ) (vs : List ℤ) : Type 0 where
  pub rules : head_ok c.head ≡ true
  pub whole : length_ok bytes c ≡ true
  pub in_ids : room ≤ length ids
  pub in_values : room ≤ length vs

-- from target t on, as far as the lists have room
pub record FilledTo (bytes : List ℕ) (c : Opened) (room t : ℕ) (ids : List ℕ) (vs : List ℤ) (w : Stop) (ids' : List ℕ) (vs' : List ℤ) : Type 0 where
  pub target : ℕ
  pub reads : Reads bytes c room 0 t ids vs w.count target ids' vs'
  pub ended : EndIs w.ended w.count (next_steps bytes c target)
  pub full : w.ended ≡ Ok false → w.count ≡ room

-- ---- the answer

-- of a reading that stopped after so many pairs: none is left; an id is; or a step fails, before the first pair or after one
abbrev pub Told : Result Bool Re.Refusal → ℕ → Result Ro.Readout Re.Refusal → Type 0
Told (Ok true) count r = r ≡ Ok (Ro.Readout.Ended count)
Told (Ok false) count r = r ≡ Ok (Ro.Readout.More count)
Told (Err why) count r = (count ≡ 0 → r ≡ Err why) × ((count ≡ 0 → ⊥) → r ≡ Ok (Ro.Readout.More count))

-- the reply, and both lists
abbrev pub Leaves : Outcome Rf.Readout → Result Ro.Readout Re.Refusal → List ℕ → List ℕ → List ℤ → List ℤ → Type 0
Leaves o r ids ids' vs vs' =
    (readout_of r ≡ readout_reply o) × ((ids' ≡ readout_after (λ w. w.ids) o ids) × (vs' ≡ readout_after (λ w. w.values) o vs))
