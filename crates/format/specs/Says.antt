-- Document 01, "Refusal numbers", and document 02, [1], [3], [12], [14]: for each call all that it can answer, a line for each case, in the order of its tests,
-- with the number that goes with a refusal. That each answer is given exactly in its own case is proved in crate laws (WritersSay, OpeningSays, ReadersSay).
-- Assumes nothing.
use Rattle.std.specs.Prelude.{◌≡◌, ◌⊎◌, ◌++◌, ◌+◌, ◌^◌, ◌≤◌, ◌<◌}
use Rattle.format.specs.Kit.{Bool, true, false, List, map, none, ℕ, suc, ℤ, length, get_or}
use Rattle.format.specs.Limits.{max_id, power_ok}
use Rattle.format.specs.Refusals.{Outcome, done, refused, LENGTHS, POWER, ORDER, RANGE, ROOM, SHORT, NUMBER, EDITION, HEADER, LENGTH, BUFFER, DAMAGED}
use Rattle.format.specs.Refusals.{ID, BACK, PLAN}
use Rattle.format.specs.Bytes.{bytes_of}
use Rattle.format.specs.HeaderNumbers.{number}
use Rattle.format.specs.Pairs.{Pairs, Asc, Below, ValidIds}
use Rattle.format.specs.Editions.{Edition, number_of, edition_in, Knows}
use Rattle.format.specs.Column.{Head, head_numbers, column}
use Rattle.format.specs.Table.{max_entries}
use Rattle.format.specs.Plan.{plan_ok, planned, plan_edition, chosen}
use Rattle.format.specs.Opening.{head_ok, Opened, open_column}
use Rattle.format.specs.LookUp.{Look, halved, steps, look_up}
use Rattle.format.specs.Next.{Candidate, no_candidate, next_steps, new_cursor, next}
use Rattle.format.specs.ReadFrom.{Readout, pairs_from}
use Rattle.format.specs.PairAt.{pair_steps}
use Rattle.format.specs.Layered.{machine, correction, LayeredLook}
use Rattle.format.specs.LayeredReading.{next_of_both, layered_steps, LayeredRead, read_to, refused_read}
use Rattle.format.specs.SetBytes.{set_bytes}
use Rattle.format.specs.Lists.{ColumnOf}
use Rattle.format.specs.Faults.{BrokenAt, EndsAt}

-- ---- the first such index

-- among n indices, i is such and none before it is
pub record First (Such : ℕ → Type 0) (n i : ℕ) : Type 0 where
  pub inside : i < n
  pub such : Such i
  pub none_before : (k : ℕ) → k < i → Such k → ⊥

-- the id of an index is not above the one before
abbrev pub NotAbove : List ℕ → ℕ → Type 0
NotAbove ids i = (j : ℕ) × (i ≡ suc j) × (get_or ids i 0 ≤ get_or ids j 0)

-- it is above the limit
abbrev pub AboveLimit : List ℕ → ℕ → Type 0
AboveLimit ids i = max_id < get_or ids i 0

-- ---- the writers

-- an allowed rank power, and ids that ascend strictly within the limit
pub record Within (p : ℕ) (ids : List ℕ) : Type 0 where
  pub power : power_ok p ≡ true
  pub ascending : Asc 0 ids
  pub range : Below (suc max_id) ids

-- what a writer answers for a list with one value an id, whose column this would be, with a plan that is accepted or not
pub data ListSays (p : ℕ) (ids : List ℕ) (fits : Bool) (col : List ℕ) (room : ℕ) (o : Outcome (List ℕ)) : Type 0 where
  power : power_ok p ≡ false → o ≡ refused POWER 0 → ListSays p ids fits col room o
  order : power_ok p ≡ true → (i : ℕ) → First (NotAbove ids) (length ids) i → o ≡ refused ORDER i → ListSays p ids fits col room o
  range : power_ok p ≡ true → Asc 0 ids → (i : ℕ) → First (AboveLimit ids) (length ids) i → o ≡ refused RANGE i → ListSays p ids fits col room o
  no_plan : Within p ids → fits ≡ false → o ≡ refused PLAN 0 → ListSays p ids fits col room o
  no_room : Within p ids → fits ≡ true → room < length col → o ≡ refused ROOM (length col) → ListSays p ids fits col room o
  written : Within p ids → fits ≡ true → length col ≤ room → o ≡ done col → ListSays p ids fits col room o

-- `write`, told the edition's number k: 1, 9, 2, 3, 4, 6; never 17
pub data WriteSays (k p : ℕ) (ids : List ℕ) (vs : List ℤ) (room : ℕ) (o : Outcome (List ℕ)) : Type 0 where
  lengths : (length ids ≡ length vs → ⊥) → o ≡ refused LENGTHS 0 → WriteSays k p ids vs room o
  no_edition : length ids ≡ length vs → ((ed : Edition) → k ≡ number_of ed → ⊥) → o ≡ refused EDITION 0 → WriteSays k p ids vs room o
  in_edition : length ids ≡ length vs → (ed : Edition) → k ≡ number_of ed → ListSays p ids true (column (chosen ed vs) p ids vs) room o
      → WriteSays k p ids vs room o

-- `write_planned`: 1, 2, 3, 4, 17, 6; "A rejected plan gets new 17, PLAN, and 0, after RANGE and before ROOM"
pub data PlannedSays (p : ℕ) (ids : List ℕ) (vs us : List ℤ) (room : ℕ) (o : Outcome (List ℕ)) : Type 0 where
  lengths : (length ids ≡ length vs → ⊥) → o ≡ refused LENGTHS 0 → PlannedSays p ids vs us room o
  by_plan : length ids ≡ length vs → ListSays p ids (plan_ok us vs) (column (plan_edition us) p ids vs) room o → PlannedSays p ids vs us room o

-- the planner: BUFFER with 256 for a table of fewer places
pub data PlanSays (vs : List ℤ) (room : ℕ) (o : Outcome (List ℤ)) : Type 0 where
  buffer : room < max_entries → o ≡ refused BUFFER max_entries → PlanSays vs room o
  proposed : max_entries ≤ room → o ≡ done (planned vs) → PlanSays vs room o

-- `set_write`: 3, 4, 6 (document 02, [14])
pub data SetSays (ids : List ℕ) (room : ℕ) (o : Outcome (List ℕ)) : Type 0 where
  order : (i : ℕ) → First (NotAbove ids) (length ids) i → o ≡ refused ORDER i → SetSays ids room o
  range : Asc 0 ids → (i : ℕ) → First (AboveLimit ids) (length ids) i → o ≡ refused RANGE i → SetSays ids room o
  no_room : ValidIds ids → room < length (set_bytes ids) → o ≡ refused ROOM (length (set_bytes ids)) → SetSays ids room o
  written : ValidIds ids → length (set_bytes ids) ≤ room → o ≡ done (set_bytes ids) → SetSays ids room o

-- ---- buffers

-- the full reading: 7 to 11 of opening; BUFFER with n where one buffer has fewer than n places; then DAMAGED for bytes that are no list's column, and else
-- the list
pub data ReadSays (known : List Edition) (bytes : List ℕ) (idRoom valueRoom : ℕ) (o : Outcome Pairs) : Type 0 where
  not_opened : (why w : ℕ) → open_column known bytes ≡ refused why w → o ≡ refused why w → ReadSays known bytes idRoom valueRoom o
  buffer : (c : Opened) → open_column known bytes ≡ done c → (idRoom < c.head.count) ⊎ (valueRoom < c.head.count)
      → o ≡ refused BUFFER c.head.count → ReadSays known bytes idRoom valueRoom o
  no_list : (c : Opened) → open_column known bytes ≡ done c → c.head.count ≤ idRoom → c.head.count ≤ valueRoom
      → ((n : ℕ) → ColumnOf known bytes n → ⊥) → o ≡ refused DAMAGED 0 → ReadSays known bytes idRoom valueRoom o
  a_list : (n : ℕ) (x : ColumnOf known bytes n) → n ≤ idRoom → n ≤ valueRoom → o ≡ done (record { ids = x.ids; values = x.values })
      → ReadSays known bytes idRoom valueRoom o

-- a page of ids: BUFFER with their number where one list has fewer places, whatever the bytes are (document 02, [3]: "before any byte is read or
-- written")
pub data PageSays (known : List Edition) (bytes ids : List ℕ) (os vs ks : ℕ) (o : Outcome (List (Outcome Look))) : Type 0 where
  buffer : (os < length ids) ⊎ ((vs < length ids) ⊎ (ks < length ids)) → o ≡ refused BUFFER (length ids) → PageSays known bytes ids os vs ks o
  answered : length ids ≤ os → length ids ≤ vs → length ids ≤ ks → o ≡ done (map (look_up known bytes) ids) → PageSays known bytes ids os vs ks o

-- a page with a correction on top, where `look` is the single layered look-up: the same, with a list of columns
pub data LayeredPageSays (look : ℕ → LayeredLook) (ids : List ℕ) (os vs ks cs : ℕ) (o : Outcome (List LayeredLook)) : Type 0 where
  buffer : (os < length ids) ⊎ ((vs < length ids) ⊎ ((ks < length ids) ⊎ (cs < length ids))) → o ≡ refused BUFFER (length ids)
      → LayeredPageSays look ids os vs ks cs o
  answered : length ids ≤ os → length ids ≤ vs → length ids ≤ ks → length ids ≤ cs → o ≡ done (map look ids) → LayeredPageSays look ids os vs ks cs o

-- ---- opening

-- the bytes begin with nine header numbers, of which the first is a known edition's
pub record Headed (known : List Edition) (bytes : List ℕ) (h : Head) : Type 0 where
  pub knows : Knows known h.edition
  pub small : Below (2 ^ 64) (head_numbers h)
  pub rest : List ℕ
  pub bytes_are : bytes ≡ bytes_of number (head_numbers h) ++ rest

-- where the id section starts
abbrev pub after_header : Head → ℕ
after_header h = length (bytes_of number (head_numbers h))

-- 7 and 8 by the first bad header number; 9 as soon as the first number is read; then the header rules, and the lengths
pub data OpenSays (known : List Edition) (bytes : List ℕ) (o : Outcome Opened) : Type 0 where
  ends : (w : ℕ) → EndsAt known bytes w → o ≡ refused SHORT w → OpenSays known bytes o
  broken : (w : ℕ) → BrokenAt known bytes w → o ≡ refused NUMBER w → OpenSays known bytes o
  no_edition : (k : ℕ) (rest : List ℕ) → k < 2 ^ 64 → bytes ≡ number k ++ rest → edition_in known k ≡ none → o ≡ refused EDITION 0 → OpenSays known bytes o
  no_rule : (h : Head) → Headed known bytes h → head_ok h ≡ false → o ≡ refused HEADER 0 → OpenSays known bytes o
  no_length : (h : Head) → Headed known bytes h → head_ok h ≡ true → (after_header h + h.id_bytes + h.value_bytes ≡ length bytes → ⊥) → o ≡ refused LENGTH 0
      → OpenSays known bytes o
  opened : (h : Head) → Headed known bytes h → head_ok h ≡ true → after_header h + h.id_bytes + h.value_bytes ≡ length bytes
      → o ≡ done (record { head = h; start = after_header h }) → OpenSays known bytes o

-- ---- reading and asking

-- the check: 7 to 11 of opening, then DAMAGED for bytes that are no list's column in an edition that the reader knows
pub data CheckSays (known : List Edition) (bytes : List ℕ) (o : Outcome ℕ) : Type 0 where
  not_opened : (why w : ℕ) → open_column known bytes ≡ refused why w → o ≡ refused why w → CheckSays known bytes o
  no_list : (c : Opened) → open_column known bytes ≡ done c → ((n : ℕ) → ColumnOf known bytes n → ⊥) → o ≡ refused DAMAGED 0 → CheckSays known bytes o
  a_list : (n : ℕ) → ColumnOf known bytes n → o ≡ done n → CheckSays known bytes o

-- a look-up: ID, then those of opening, then what the steps give, of which BROKEN is the one refusal
pub data LookSays (known : List Edition) (bytes : List ℕ) (id : ℕ) (o : Outcome Look) : Type 0 where
  above_limit : max_id < id → o ≡ refused ID 0 → LookSays known bytes id o
  not_opened : id ≤ max_id → (why w : ℕ) → open_column known bytes ≡ refused why w → o ≡ refused why w → LookSays known bytes id o
  by_steps : id ≤ max_id → (c : Opened) → open_column known bytes ≡ done c → o ≡ steps halved bytes c id → LookSays known bytes id o

-- the next candidate: ID, BACK for a target below the last one answered, those of opening, then what the steps give
pub data NextSays (known : List Edition) (bytes : List ℕ) (last t : ℕ) (o : Outcome Candidate) : Type 0 where
  above_limit : max_id < t → o ≡ refused ID 0 → NextSays known bytes last t o
  going_back : t ≤ max_id → t < last → o ≡ refused BACK 0 → NextSays known bytes last t o
  not_opened : t ≤ max_id → last ≤ t → (why w : ℕ) → open_column known bytes ≡ refused why w → o ≡ refused why w → NextSays known bytes last t o
  by_steps : t ≤ max_id → last ≤ t → (c : Opened) → open_column known bytes ≡ done c → o ≡ next_steps bytes c t → NextSays known bytes last t o

-- pairs from an id on: ID, those of opening, then what the very first candidate is refused with; and else the pairs
pub data ReadFromSays (known : List Edition) (bytes : List ℕ) (t room : ℕ) (o : Outcome Readout) : Type 0 where
  above_limit : max_id < t → o ≡ refused ID 0 → ReadFromSays known bytes t room o
  not_opened : t ≤ max_id → (why w : ℕ) → open_column known bytes ≡ refused why w → o ≡ refused why w → ReadFromSays known bytes t room o
  first_fails : t ≤ max_id → (c : Opened) → open_column known bytes ≡ done c → (why w : ℕ) → next_steps bytes c t ≡ refused why w → o ≡ refused why w
      → ReadFromSays known bytes t room o
  in_turn_is : t ≤ max_id → (c : Opened) → open_column known bytes ≡ done c → (x : Candidate) → next_steps bytes c t ≡ done x → o ≡ done (pairs_from room bytes c t)
      → ReadFromSays known bytes t room o

-- the pair with an ordinal: those of opening; none for an ordinal of n or more; then what the steps give, of which BROKEN is the one refusal
pub data PairAtSays (known : List Edition) (bytes : List ℕ) (i : ℕ) (o : Outcome Candidate) : Type 0 where
  not_opened : (why w : ℕ) → open_column known bytes ≡ refused why w → o ≡ refused why w → PairAtSays known bytes i o
  none_there : (c : Opened) → open_column known bytes ≡ done c → c.head.count ≤ i → o ≡ done no_candidate → PairAtSays known bytes i o
  by_steps : (c : Opened) → open_column known bytes ≡ done c → i < c.head.count → o ≡ pair_steps bytes c i → PairAtSays known bytes i o

-- pairs of both columns from an id on: what `next` with a new cursor is refused with in the correction, then in the machine column; and else the pairs
pub data LayeredReadSays (known : List Edition) (m c : List ℕ) (t room : ℕ) (o : LayeredRead) : Type 0 where
  correction_fails : (why w : ℕ) → next known c new_cursor t ≡ refused why w → o ≡ refused_read correction why w → LayeredReadSays known m c t room o
  machine_fails : (a : Candidate) → next known c new_cursor t ≡ done a → (why w : ℕ) → next known m new_cursor t ≡ refused why w
      → o ≡ refused_read machine why w → LayeredReadSays known m c t room o
  in_turn_is : (a b : Candidate) → next known c new_cursor t ≡ done a → next known m new_cursor t ≡ done b
      → (y x : Opened) → open_column known c ≡ done y → open_column known m ≡ done x → o ≡ read_to (layered_steps (next_of_both m x c y) room t)
      → LayeredReadSays known m c t room o
