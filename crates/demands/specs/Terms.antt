-- The terms of the three demands, over the documents' definitions: a list that may be written, its bytes, the list that bytes hold, and what
-- has to be answered of an id by that list. Assumes nothing.
use Rattle.std.specs.Prelude.{◌↔◌, ◌-◌, ◌%◌, ◌^◌, ◌<◌, ◌≤◌, ◌≡◌, ◌++◌}
use Rattle.format.specs.Kit.{ℕ, suc, min, true, List, map, length, drop, leb, ℤ}
use Rattle.format.specs.Limits.{max_id, power_ok, min_power}
use Rattle.format.specs.Refusals.{Outcome, done, refused, need, ROOM, SHORT, NUMBER, ID}
use Rattle.format.specs.Pairs.{Pairs, Asc, Below}
use Rattle.format.specs.Valid.{Valid}
use Rattle.format.specs.Editions.{Edition, editions}
use Rattle.format.specs.Plan.{chosen}
use Rattle.format.specs.Column.{column}
use Rattle.format.specs.Writer.{write_reply, write_out}
use Rattle.format.specs.Opening.{Opened, open_column}
use Rattle.format.specs.LookUp.{Look}
use Rattle.format.specs.Walk.{walk, wordless, words, probes, list_answer}
use Rattle.format.specs.Layered.{LayeredLook, lists_answer, walks_answer, wordless_in}
use Rattle.format.specs.Page.{place_kind, place_ordinal, place_value, page_words, page_reply, page_after}
use Rattle.format.specs.Check.{read_reply, ids_after, values_after}
use Rattle.format.specs.Next.{last_after, list_next}
use Rattle.format.specs.ReadFrom.{Readout, readout_reply, readout_after, list_read_from}
use Rattle.format.specs.LayeredReading.{LayeredRead, pair_id, pair_value, pair_column, layered_read_reply, layered_read_after, lists_read}
use Rattle.answers.specs.Replies.{reply_of, answer_of, candidate_of, readout_of, Probed}
use Rattle.answers.specs.declared.Next.{Next}
use Rattle.answers.specs.declared.Readout as Ro
use Rattle.layered.specs.Answers.{layered_readout_of}
use Rattle.format.specs.Faults.{BrokenAt, EndsAt}
use Rattle.format.specs.Says.{ReadSays, PageSays}
use Rattle.std.specs.Prelude.{Ok, Err}
use Rattle.std.specs.declared.result.Result.{Result}
use Rattle.answers.specs.declared.Refusal as Re
use Rattle.answers.specs.declared.Look as Lk
use Rattle.layered.specs.declared.LayerRefusal as Rf

-- ---- demand 1

-- whatever refusal a reply is, this holds then
abbrev pub IfRefused : Result ℕ Re.Refusal → Type 0 → Type 0
IfRefused r P = (why w : ℕ) → reply_of r ≡ refused why w → P

-- a call that is lent l and leaves l' answers r: the outcome of the case that its table has for the input
pub record Told {A : Type 0} (Says : Outcome (List A) → Type 0) (l l' : List A) (r : Result ℕ Re.Refusal) : Type 0 where
  pub outcome : Outcome (List A)
  pub says : Says outcome
  pub reply : reply_of r ≡ write_reply outcome
  pub after : l' ≡ write_out outcome l

-- the same of the full reading, and of a page of ids
pub record ReadTold (bytes is is' : List ℕ) (xs xs' : List ℤ) (r : Result ℕ Re.Refusal) : Type 0 where
  pub outcome : Outcome Pairs
  pub says : ReadSays editions bytes (length is) (length xs) outcome
  pub reply : reply_of r ≡ read_reply outcome
  pub ids_after_is : is' ≡ ids_after outcome is
  pub values_after_is : xs' ≡ values_after outcome xs

pub record PageTold (bytes ids os os' : List ℕ) (vs vs' : List ℤ) (ks ks' : List ℕ) (r : Result ℕ Re.Refusal) : Type 0 where
  pub outcome : Outcome (List (Outcome Look))
  pub says : PageSays editions bytes ids (length os) (length vs) (length ks) outcome
  pub reply : reply_of r ≡ page_reply outcome
  pub ordinals_after : os' ≡ page_after place_ordinal outcome os
  pub values_after_is : vs' ≡ page_after place_value outcome vs
  pub kinds_after : ks' ≡ page_after place_kind outcome ks

-- and of pairs from an id on
pub record ReadFromTold (Says : Outcome Readout → Type 0) (is is' : List ℕ) (xs xs' : List ℤ) (r : Result Ro.Readout Re.Refusal) : Type 0 where
  pub outcome : Outcome Readout
  pub says : Says outcome
  pub reply : readout_of r ≡ readout_reply outcome
  pub ids_after_is : is' ≡ readout_after (λ w. w.ids) outcome is
  pub values_after_is : xs' ≡ readout_after (λ w. w.values) outcome xs

-- and of those of two columns
pub record LayeredReadTold (Says : LayeredRead → Type 0) (is is' : List ℕ) (xs xs' : List ℤ) (cs cs' : List ℕ) (r : Result Ro.Readout Rf.LayerRefusal) : Type 0 where
  pub outcome : LayeredRead
  pub says : Says outcome
  pub reply : layered_readout_of r ≡ layered_read_reply outcome
  pub ids_after_is : is' ≡ layered_read_after pair_id outcome is
  pub values_after_is : xs' ≡ layered_read_after pair_value outcome xs
  pub columns_after : cs' ≡ layered_read_after pair_column outcome cs

-- a call that reads these bytes' header where so is the case: what it says with a number is NUMBER with the place of the byte that decided it, and SHORT with
-- the byte count, exactly where the header broke or ended (document 02, [4])
pub record HeaderTold (known : List Edition) (bytes : List ℕ) (So : Type 0) (Says : ℕ → ℕ → Type 0) : Type 0 where
  pub number : (w : ℕ) → Says NUMBER w ↔ (So × BrokenAt known bytes w)
  pub short : (w : ℕ) → Says SHORT w ↔ (So × EndsAt known bytes w)

-- ---- demand 2

-- an allowed rank power, ids that ascend strictly within the limit, and one value an id
pub record Allowed (p : ℕ) (ids : List ℕ) (vs : List ℤ) : Type 0 where
  pub power : power_ok p ≡ true
  pub ascending : Asc 0 ids
  pub within : Below (suc max_id) ids
  pub one_value_each : length ids ≡ length vs

-- the bytes that they get in an edition; edition 4 is only for values that a table makes shorter, and else edition 1's (document 02, [12])
abbrev pub column_in : Edition → ℕ → List ℕ → List ℤ → List ℕ
column_in ed p ids vs = column (chosen ed vs) p ids vs

-- a writer that answers r and leaves out' of the output gives exactly these bytes whenever the output has room, and else ROOM with their count
pub record Writes (bytes out out' : List ℕ) (r : Result ℕ Re.Refusal) : Type 0 where
  pub room : length bytes ≤ length out → (reply_of r ≡ done (length bytes)) × (out' ≡ bytes ++ drop (length bytes) out)
  pub no_room : length out < length bytes → (reply_of r ≡ refused ROOM (length bytes)) × (out' ≡ out)

-- the bytes are the column of a list of n pairs
pub record Holds (bytes : List ℕ) (n : ℕ) : Type 0 where
  pub edition : Edition
  pub power : ℕ
  pub ids : List ℕ
  pub values : List ℤ
  pub valid : Valid edition power ids values
  pub bytes_are : column edition power ids values ≡ bytes
  pub count : length ids ≡ n

-- its pairs
abbrev pub pairs_of : {bytes : List ℕ} {n : ℕ} → Holds bytes n → Pairs
pairs_of x = record { ids = x.ids; values = x.values }

-- one edition, one rank power and one list
pub record Same {bytes : List ℕ} {m n : ℕ} (x : Holds bytes m) (y : Holds bytes n) : Type 0 where
  pub edition : x.edition ≡ y.edition
  pub power : x.power ≡ y.power
  pub ids : x.ids ≡ y.ids
  pub values : x.values ≡ y.values

-- buffers is and xs of n places or more have afterwards, in is' and xs', these ids and values, and what was there after n
pub record Filled (ids : List ℕ) (vs : List ℤ) (is is' : List ℕ) (xs xs' : List ℤ) (r : Result ℕ Re.Refusal) : Type 0 where
  pub count : reply_of r ≡ done (length ids)
  pub ids_there : is' ≡ ids ++ drop (length ids) is
  pub values_there : xs' ≡ vs ++ drop (length ids) xs

-- of these ids and values: what a writer wrote, the check accepted and the reading gave back
pub record ComesBack (ids : List ℕ) (vs : List ℤ) (is is' : List ℕ) (xs xs' : List ℤ) (wrote checked read : Result ℕ Re.Refusal) : Type 0 where
  pub checks : (n : ℕ) → reply_of wrote ≡ done n → reply_of checked ≡ done (length ids)
  pub reads : (n : ℕ) → reply_of wrote ≡ done n → length ids ≤ length is → length ids ≤ length xs → Filled ids vs is is' xs xs' read
  pub refused : (why w : ℕ) → reply_of wrote ≡ refused why w → (is' ≡ is) × (xs' ≡ xs)

-- ---- demand 3

-- at p from 7 to 15 at most 2 to the power p-6, without ranks at most 1024
pub record WordsBound (p w : ℕ) : Type 0 where
  pub with_ranks : min_power ≤ p → w ≤ 2 ^ (p - 6)
  pub without_ranks : p ≡ 0 → w ≤ 1024

-- at most 12 probes are told (document 02, [8])
abbrev pub FewProbes : Result Lk.Look Re.Refusal → Type 0
FewProbes (Ok (Lk.Look.Found o v w n)) = n ≤ 12
FewProbes (Ok (Lk.Look.Absent w n)) = n ≤ 12
FewProbes (Err why) = Unit

-- the answer of a look-up for an id, by the bytes' list
pub record Answers {bytes : List ℕ} {n : ℕ} (x : Holds bytes n) (id : ℕ) (a : Result Lk.Look Re.Refusal) : Type 0 where
  -- no refusal; found exactly if listed, with the number of listed ids below, the value written with it and the words of the formula
  pub by_list : answer_of a ≡ done (list_answer x.power x.ids x.values id)
  -- the walk over all blocks answers alike
  pub opened : Opened
  pub is_opened : open_column editions bytes ≡ done opened
  pub by_walk : walk bytes opened id ≡ wordless (list_answer x.power x.ids x.values id)
  -- the words' bound
  pub few_words : WordsBound x.power (words x.power x.ids id)
  -- the probes are those of halving the places that the list has in the id's block (document 02, [8])
  pub by_halving : Probed (probes x.ids id) a

-- the same of a machine column with a correction on top of it (document 02, [10]): the correction's pair wins
pub record LayeredAnswers {m c : List ℕ} {i j : ℕ} (x : Holds m i) (y : Holds c j) (id : ℕ) (a : LayeredLook) : Type 0 where
  pub by_lists : a ≡ lists_answer x.power (pairs_of x) y.power (pairs_of y) id
  pub machine_opened : Opened
  pub machine_is_opened : open_column editions m ≡ done machine_opened
  pub correction_opened : Opened
  pub correction_is_opened : open_column editions c ≡ done correction_opened
  pub by_walks : wordless_in a ≡ done (walks_answer (walk m machine_opened id) (walk c correction_opened id))
  pub machine_few_words : WordsBound x.power (words x.power x.ids id)
  pub correction_few_words : WordsBound y.power (words y.power y.ids id)

-- what a look-up of any id answers by the list, above the limit too
abbrev pub asked : {bytes : List ℕ} {n : ℕ} → Holds bytes n → ℕ → Outcome Look
asked x id = need (leb id max_id) ID 0 (done (list_answer x.power x.ids x.values id))

-- a page of ids (document 02, [3]): the reply is the sum of their words by the formula, and each place what a look-up of its id answers by the list
pub record PageAnswers {bytes : List ℕ} {n : ℕ} (x : Holds bytes n) (ids os os' : List ℕ) (vs vs' : List ℤ) (ks ks' : List ℕ) (r : Result ℕ Re.Refusal) : Type 0 where
  pub words : reply_of r ≡ done (page_words (map (asked x) ids) % 2 ^ 64)
  pub ordinals : os' ≡ page_after place_ordinal (done (map (asked x) ids)) os
  pub values : vs' ≡ page_after place_value (done (map (asked x) ids)) vs
  pub kinds : ks' ≡ page_after place_kind (done (map (asked x) ids)) ks

-- the next candidate (document 02, [1]): the list's own, and the cursor after it
pub record NextAnswers {bytes : List ℕ} {n : ℕ} (x : Holds bytes n) (last t : ℕ) (a : Next) : Type 0 where
  pub candidate : candidate_of a.candidate ≡ list_next (pairs_of x) last t
  pub cursor : a.cursor.last ≡ last_after (list_next (pairs_of x) last t) last t

-- pairs from an id on: in the first places the list's own, in order, as many as there is room for, and what was there after them; ended exactly where
-- no more are left
pub record ReadFromAnswers {bytes : List ℕ} {n : ℕ} (x : Holds bytes n) (t : ℕ) (is is' : List ℕ) (xs xs' : List ℤ) (r : Result Ro.Readout Re.Refusal) : Type 0 where
  pub reply : readout_of r ≡ readout_reply (list_read_from (pairs_of x) t (min (length is) (length xs)))
  pub ids : is' ≡ readout_after (λ w. w.ids) (list_read_from (pairs_of x) t (min (length is) (length xs))) is
  pub values : xs' ≡ readout_after (λ w. w.values) (list_read_from (pairs_of x) t (min (length is) (length xs))) xs

-- pairs of both columns from an id on: those of the two lists as one, in which the correction's pair wins, with the column of each
pub record LayeredReadAnswers {m c : List ℕ} {i j : ℕ} (x : Holds m i) (y : Holds c j) (t : ℕ) (is is' : List ℕ) (xs xs' : List ℤ) (cs cs' : List ℕ)
    (r : Result Ro.Readout Rf.LayerRefusal) : Type 0 where
  pub reply : layered_readout_of r ≡ layered_read_reply (lists_read (pairs_of x) (pairs_of y) t (min (length cs) (min (length is) (length xs))))
  pub ids : is' ≡ layered_read_after pair_id (lists_read (pairs_of x) (pairs_of y) t (min (length cs) (min (length is) (length xs)))) is
  pub values : xs' ≡ layered_read_after pair_value (lists_read (pairs_of x) (pairs_of y) t (min (length cs) (min (length is) (length xs)))) xs
  pub columns : cs' ≡ layered_read_after pair_column (lists_read (pairs_of x) (pairs_of y) t (min (length cs) (min (length is) (length xs)))) cs
