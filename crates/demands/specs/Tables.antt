-- Document 01, "Refusal numbers", and document 02, [4], [10], [11], [14]: for each call that goes on from an opened column, asks for a
-- range, looks into two columns or into a set, all that it can answer, a line for each case, in the order of its tests, with the number that goes
-- with a refusal. (The other calls' tables stand beside the documents' definitions.) Assumes nothing.
use Rattle.std.specs.Prelude.{◌≡◌, ◌∷◌, ◌+◌, ◌≤◌, ◌<◌}
use Rattle.format.specs.Kit.{true, false, List, [], Option, ℕ, ℤ}
use Rattle.format.specs.Limits.{max_id}
use Rattle.format.specs.Refusals.{Outcome, done, refused, SHORT, NUMBER, EDITION, HEADER, LENGTH, DAMAGED, ID, BACK}
use Rattle.format.specs.Editions.{runs, editions}
use Rattle.format.specs.Opening.{Opened, head_ok, length_ok, open_column}
use Rattle.format.specs.LookUp.{Look, found, absent, halved, steps}
use Rattle.format.specs.Next.{Candidate, next_steps, new_cursor, next_in}
use Rattle.format.specs.FirstBetween.{between_steps}
use Rattle.format.specs.BetweenFrom.{between_steps_from}
use Rattle.format.specs.ReadFrom.{Readout, read_steps}
use Rattle.format.specs.PairAt.{pair_steps}
use Rattle.format.specs.Layered.{Layer, machine, correction, of_layer, LayeredLook, found_in, absent_in, refused_by, Part, part, no_part}
use Rattle.format.specs.LayeredReading.{next_of_both, layered_steps, LayeredRead, read_to, refused_read}
use Rattle.format.specs.SetCalls.{Member, member_in}
use Rattle.format.specs.Lists.{SetOf}
use Rattle.format.specs.SetFaults.{BrokenAt, EndsAt, Otherwise}

-- ---- from a column that was opened before, or any numbers in its place: 10 where they break a header rule, 11 where they do not fit these bytes

pub data InSays {A : Type 0} (bytes : List ℕ) (c : Opened) (further o : Outcome A) : Type 0 where
  bad_header : head_ok c.head ≡ false → o ≡ refused HEADER 0 → InSays bytes c further o
  other_length : head_ok c.head ≡ true → length_ok bytes c ≡ false → o ≡ refused LENGTH 0 → InSays bytes c further o
  fits : head_ok c.head ≡ true → length_ok bytes c ≡ true → o ≡ further → InSays bytes c further o

-- a look-up: ID first
pub data LookInSays (bytes : List ℕ) (c : Opened) (id : ℕ) (o : Outcome Look) : Type 0 where
  above_limit : max_id < id → o ≡ refused ID 0 → LookInSays bytes c id o
  within : id ≤ max_id → InSays bytes c (steps halved bytes c id) o → LookInSays bytes c id o

-- the next candidate: ID, then BACK
pub data NextInSays (bytes : List ℕ) (c : Opened) (last t : ℕ) (o : Outcome Candidate) : Type 0 where
  above_limit : max_id < t → o ≡ refused ID 0 → NextInSays bytes c last t o
  going_back : t ≤ max_id → t < last → o ≡ refused BACK 0 → NextInSays bytes c last t o
  onward : t ≤ max_id → last ≤ t → InSays bytes c (next_steps bytes c t) o → NextInSays bytes c last t o

-- pairs from an id on: ID first; then the first candidate decides, and so on in turn
pub data ReadFromInSays (bytes : List ℕ) (c : Opened) (t room : ℕ) (o : Outcome Readout) : Type 0 where
  above_limit : max_id < t → o ≡ refused ID 0 → ReadFromInSays bytes c t room o
  within : t ≤ max_id → InSays bytes c (read_steps bytes c t room) o → ReadFromInSays bytes c t room o

-- the pair with an ordinal
abbrev pub PairAtInSays : List ℕ → Opened → ℕ → Outcome Candidate → Type 0
PairAtInSays bytes c i o = InSays bytes c (pair_steps bytes c i) o

-- the first value in a range, by these steps: EDITION for any but edition 3
pub data RangeInSays (bytes : List ℕ) (c : Opened) (further o : Outcome (Option ℕ)) : Type 0 where
  other_edition : (c.head.edition ≡ runs → ⊥) → o ≡ refused EDITION 0 → RangeInSays bytes c further o
  in_runs_is : c.head.edition ≡ runs → InSays bytes c further o → RangeInSays bytes c further o

abbrev pub BetweenInSays : List ℕ → Opened → ℤ → ℤ → Outcome (Option ℕ) → Type 0
BetweenInSays bytes c a b o = RangeInSays bytes c (between_steps bytes c a b) o

abbrev pub BetweenFromInSays : List ℕ → Opened → ℕ → ℤ → ℤ → Outcome (Option ℕ) → Type 0
BetweenFromInSays bytes c i a b o = RangeInSays bytes c (between_steps_from bytes c i a b) o

-- ---- the first value in a range: 7 to 11 of a reader that knows edition 3 alone, then run by run, of which BROKEN is the one refusal

pub data RangeSays (bytes : List ℕ) (further : Opened → Outcome (Option ℕ)) (o : Outcome (Option ℕ)) : Type 0 where
  not_opened : (why w : ℕ) → open_column (runs ∷ []) bytes ≡ refused why w → o ≡ refused why w → RangeSays bytes further o
  by_runs : (c : Opened) → open_column (runs ∷ []) bytes ≡ done c → o ≡ further c → RangeSays bytes further o

abbrev pub BetweenSays : List ℕ → ℤ → ℤ → Outcome (Option ℕ) → Type 0
BetweenSays bytes a b o = RangeSays bytes (λ c. between_steps bytes c a b) o

-- from an ordinal on
abbrev pub BetweenFromSays : List ℕ → ℕ → ℤ → ℤ → Outcome (Option ℕ) → Type 0
BetweenFromSays bytes i a b o = RangeSays bytes (λ c. between_steps_from bytes c i a b) o

-- ---- a correction on top, by the two columns' own look-ups

pub data LayeredSays (above below : Outcome Look) (o : LayeredLook) : Type 0 where
  top_refuses : (why w : ℕ) → above ≡ refused why w → o ≡ refused_by correction why w → LayeredSays above below o
  top_has : (i : ℕ) (v : ℤ) (k : ℕ) → above ≡ done (found i v k) → o ≡ found_in correction i v 0 k → LayeredSays above below o
  below_refuses : (k : ℕ) → above ≡ done (absent k) → (why w : ℕ) → below ≡ refused why w → o ≡ refused_by machine why w → LayeredSays above below o
  below_has : (k : ℕ) → above ≡ done (absent k) → (i : ℕ) (v : ℤ) (w : ℕ) → below ≡ done (found i v w) → o ≡ found_in machine i v w k → LayeredSays above below o
  neither : (k : ℕ) → above ≡ done (absent k) → (w : ℕ) → below ≡ done (absent w) → o ≡ absent_in w k → LayeredSays above below o

-- the part of the lent columns m and c that is handed back with that answer
pub data PartSays (m c : List ℕ) (answer : LayeredLook) (p : Part) : Type 0 where
  values : (layer : Layer) (i : ℕ) (v : ℤ) (w k : ℕ) → answer ≡ found_in layer i v w k
      → (x : Opened) → open_column editions (of_layer m c layer) ≡ done x → p ≡ part layer (x.start + x.head.id_bytes) x.head.value_bytes
      → PartSays m c answer p
  none_absent : (w k : ℕ) → answer ≡ absent_in w k → p ≡ no_part → PartSays m c answer p
  none_refused : (layer : Layer) (why w : ℕ) → answer ≡ refused_by layer why w → p ≡ no_part → PartSays m c answer p

-- pairs of both columns from an id on, in two that were opened before: by the two columns' own next candidates with a new cursor
pub data LayeredReadInSays (m : List ℕ) (x : Opened) (c : List ℕ) (y : Opened) (t room : ℕ) (o : LayeredRead) : Type 0 where
  correction_fails : (why w : ℕ) → next_in c y new_cursor t ≡ refused why w → o ≡ refused_read correction why w → LayeredReadInSays m x c y t room o
  machine_fails : (a : Candidate) → next_in c y new_cursor t ≡ done a → (why w : ℕ) → next_in m x new_cursor t ≡ refused why w → o ≡ refused_read machine why w
      → LayeredReadInSays m x c y t room o
  in_turn_is : (a b : Candidate) → next_in c y new_cursor t ≡ done a → next_in m x new_cursor t ≡ done b → o ≡ read_to (layered_steps (next_of_both m x c y) room t)
      → LayeredReadInSays m x c y t room o

-- ---- a set: 7 and 8 at the first number that is none, 13 for all else; membership tests its id first

pub data SetCheckSays (bytes : List ℕ) (o : Outcome ℕ) : Type 0 where
  no_number : (w : ℕ) → BrokenAt bytes w → o ≡ refused NUMBER w → SetCheckSays bytes o
  ends : (w : ℕ) → EndsAt bytes w → o ≡ refused SHORT w → SetCheckSays bytes o
  damaged : Otherwise bytes → o ≡ refused DAMAGED 0 → SetCheckSays bytes o
  a_set : (n : ℕ) → SetOf bytes n → o ≡ done n → SetCheckSays bytes o

pub data SetFindSays (bytes : List ℕ) (id : ℕ) (o : Outcome Member) : Type 0 where
  above_limit : max_id < id → o ≡ refused ID 0 → SetFindSays bytes id o
  as_check : id ≤ max_id → (why w : ℕ) → SetCheckSays bytes (refused why w) → o ≡ refused why w → SetFindSays bytes id o
  a_set : id ≤ max_id → (n : ℕ) (x : SetOf bytes n) → o ≡ done (member_in x.ids id) → SetFindSays bytes id o
