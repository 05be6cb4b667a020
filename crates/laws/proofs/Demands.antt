-- The demands as theorems about the definitions alone: the round trip and "accepted if and only if" (demand 2), the look-up against
-- the walk and the list, with its words (demand 3), header numbers, and the look-up in an opened column. Demands 2 and 3 are stated
-- once, for every edition whose codec is lawful and every reader of such editions, and then for the calls, where none is left out. Each
-- statement cites definitions of specs/ and `Lawful` only. The starred cases are `Starred.starred`. Assumes nothing.
use Rattle.format.specs.Kit.{◌≡◌, refl, sym, ap, ap₂, ◌∙◌, subst, true, false, List, ◌++◌, ℕ, ◌^◌, ◌<◌, ◌≤◌, arith, leb, ℤ, pos, length, get_or}
use Rattle.format.specs.Kit.{drop, none, eqb, leb-true, eq-eqb, ne_eqb}
use Rattle.format.specs.Limits.{max_id}
use Rattle.format.specs.Refusals.{Outcome, done, refused, and_then, need, given, LENGTHS, ROOM, EDITION, DAMAGED}
use Rattle.format.specs.HeaderNumbers.{number, got, read_number}
use Rattle.format.specs.Ids.{count_below}
use Rattle.format.specs.Editions.{Edition, number_of, editions, edition_in, Knows, codec}
use Rattle.format.specs.Pairs.{Pairs, Below, Asc}
use Rattle.format.specs.Valid.{Valid}
use Rattle.format.specs.Plan.{chosen}
use Rattle.format.specs.Column.{column, head_of}
use Rattle.format.specs.Writer.{write_if, write_as, write}
use Rattle.format.specs.Opening.{Opened, open_column}
use Rattle.format.specs.Check.{accepted, check, reading}
use Rattle.format.specs.Lists.{ColumnOf}
use Rattle.format.specs.LookUp.{found, absent, look_up, look_up_in}
use Rattle.format.specs.Walk.{walk, wordless, listed, words, stride_words, list_answer}
use Rattle.laws.proofs.Lawful.{Lawful, LawfulReader}
use Rattle.laws.proofs.Editions.{knows_all, lawful, lawful_reader}
use Rattle.laws.proofs.Header.{read_number_lem}
use Rattle.laws.proofs.Minimal as Minimal
use Rattle.laws.proofs.RoundTrip as RoundTrip
use Rattle.laws.proofs.RoundTrip.{the_column, the_head}
use Rattle.laws.proofs.Unique.{OnlyBy, accepted_only, opened_as_lem, is_read, same_opened, same_pairs}
use Rattle.laws.proofs.Looked as Looked
use Rattle.laws.proofs.Walked as Walked
use Rattle.format.proofs.Starred as Table
use Rattle.laws.proofs.Words.{words_le, few_words, listed_at, listed_each}
use Rattle.laws.proofs.Cases.{true_or}
use Rattle.laws.proofs.Tests.{result, needed, both_true, passed}
use Rattle.laws.proofs.Open.{opened_ok}

-- ---- the starred cases

pub starred : Table.Starred
starred = Table.starred

-- ---- demand 2: the column of a pair list is written, opened, accepted, and read back to that list

module _ (ed : Edition) (law : Lawful (codec ed)) (p : ℕ) (ids : List ℕ) (vs : List ℤ) (ok : Valid ed p ids vs) where
  -- the writer writes it into any output that has room for it,
  pub written : (room : ℕ) → length (column ed p ids vs) ≤ room → write_as ed p ids vs room ≡ done (column ed p ids vs)
  written = RoundTrip.written ed law p ids vs ok

  -- and into no other: ROOM, with the bytes needed
  pub no_room : (room : ℕ) → room < length (column ed p ids vs) → write_as ed p ids vs room ≡ refused ROOM (length (column ed p ids vs))
  no_room = RoundTrip.no_room ed law p ids vs ok

  -- it is opened by each reader that knows its edition, with its edition, its p and its n
  pub opens : (known : List Edition) → Knows known ed
      → (c : Opened) × (open_column known (column ed p ids vs) ≡ done c) × (c.head.edition ≡ ed) × (c.head.power ≡ p) × (c.head.count ≡ length ids)
  unfolding the_column head_of the_head
  opens known k = (the_column ed p ids vs, RoundTrip.opened ed law p ids vs ok known k, refl, refl, refl)

  -- it passes the check, which hands back n,
  pub checked : (known : List Edition) → Knows known ed → check known (column ed p ids vs) ≡ done (length ids)
  checked = RoundTrip.checked ed law p ids vs ok

  -- and is read back to the list, wherever both buffers have room
  pub read_back : (known : List Edition) → Knows known ed → (idRoom valueRoom : ℕ) → length ids ≤ idRoom → length ids ≤ valueRoom
      → reading known (column ed p ids vs) idRoom valueRoom ≡ done (record { ids = ids; values = vs })
  read_back = RoundTrip.read ed law p ids vs ok

-- ---- demand 2: accepted if and only if they are the column of a pair list, and of one only

-- the bytes are the column of these pairs, and both buffers have room for them
pub record ReadFrom (known : List Edition) (bytes : List ℕ) (idRoom valueRoom : ℕ) (q : Pairs) : Type 0 where
  pub edition : Edition
  pub knows : Knows known edition
  pub power : ℕ
  pub valid : Valid edition power q.ids q.values
  pub same_bytes : column edition power q.ids q.values ≡ bytes
  pub ids_fit : length q.ids ≤ idRoom
  pub values_fit : length q.ids ≤ valueRoom

-- one list, one edition and one rank power
pub record SameList (ed ed' : Edition) (p p' : ℕ) (ids ids' : List ℕ) (vs vs' : List ℤ) : Type 0 where
  pub same_edition : ed ≡ ed'
  pub same_power : p ≡ p'
  pub same_ids : ids ≡ ids'
  pub same_values : vs ≡ vs'

module _ (known : List Edition) (laws : LawfulReader known) where
  -- what the check accepts is a column of some pair list, and n is its count
  pub accepts_columns : (bytes : List ℕ) (n : ℕ) → check known bytes ≡ done n → ColumnOf known bytes n
  unfolding check
  accepts_columns bytes n e =
      let o = passed _ _ n e in
      let a = passed _ _ n o.2 in
      let r = is_read known laws bytes o.0 a.0 o.1 a.1 in
      record {
        edition = o.0.head.edition;
        knows = (opened_ok known bytes o.0 o.1).knows;
        power = o.0.head.power;
        ids = a.0.ids;
        values = a.0.values;
        valid = r.valid;
        same_bytes = r.bytes_are;
        count = r.count ∙ ap (result n) a.2;
      }

  -- and it accepts each of them
  pub columns_accepted : (bytes : List ℕ) (n : ℕ) → ColumnOf known bytes n → check known bytes ≡ done n
  columns_accepted bytes n c =
      ap (check known) (sym c.same_bytes)
      ∙ checked c.edition (laws c.edition c.knows) c.power c.ids c.values c.valid known c.knows
      ∙ ap {B = Outcome ℕ} (λ (k : ℕ). done k) c.count

  -- bytes that are opened are DAMAGED exactly when they are no column of any pair list
  pub damaged_no_column : (bytes : List ℕ) (c : Opened) → open_column known bytes ≡ done c
      → ((n : ℕ) → ColumnOf known bytes n → ⊥) → check known bytes ≡ refused DAMAGED 0
  unfolding check and_then
  damaged_no_column bytes c o no_list = go (accepted bytes c) refl (accepted_only bytes c)
    where
      go : (a : Outcome Pairs) → accepted bytes c ≡ a → OnlyBy DAMAGED a → check known bytes ≡ refused DAMAGED 0
      go (done q) e d = absurd (no_list c.head.count (accepts_columns bytes c.head.count (rw (o, e))))
      go (refused why w) e d = rw (o, e) (ap₂ {C = Outcome ℕ} (λ (x y : ℕ). refused x y) d.0 d.1)

  pub damaged_means : (bytes : List ℕ) (n : ℕ) → check known bytes ≡ refused DAMAGED 0 → ColumnOf known bytes n → ⊥
  damaged_means bytes n e c =
      let taken : check known bytes ≡ done n = columns_accepted bytes n c in
      let z : ◌≡◌ {A = ℕ} 0 1 = cc in
      omega arith

  -- what the reading gives is the list whose column the bytes are
  pub reads_columns : (bytes : List ℕ) (idRoom valueRoom : ℕ) (q : Pairs) → reading known bytes idRoom valueRoom ≡ done q
      → ReadFrom known bytes idRoom valueRoom q
  unfolding reading
  reads_columns bytes a b q e =
      let o = passed _ _ q e in
      let room = needed _ _ _ _ q o.2 in
      let both = both_true (leb o.0.head.count a) (leb o.0.head.count b) room.0 in
      let r = is_read known laws bytes o.0 q o.1 room.1 in
      record {
        edition = o.0.head.edition;
        knows = (opened_ok known bytes o.0 o.1).knows;
        power = o.0.head.power;
        valid = r.valid;
        same_bytes = r.bytes_are;
        ids_fit = omega (arith, r.count, leb-true o.0.head.count a both.0);
        values_fit = omega (arith, r.count, leb-true o.0.head.count b both.1);
      }

  -- no two lists, editions or rank powers have the same column
  pub one_list : (ed ed' : Edition) → Knows known ed → Knows known ed' → (p p' : ℕ) (ids ids' : List ℕ) (vs vs' : List ℤ)
      → Valid ed p ids vs → Valid ed' p' ids' vs' → column ed p ids vs ≡ column ed' p' ids' vs' → SameList ed ed' p p' ids ids' vs vs'
  unfolding the_column head_of the_head
  one_list ed ed' k k' p p' ids ids' vs vs' ok ok' e =
      let c = same_opened known laws ed ed' k k' p p' ids ids' vs vs' ok ok' e in
      let q = same_pairs known laws ed ed' k k' p p' ids ids' vs vs' ok ok' e in
      record {
        same_edition = ap (λ (c : Opened). c.head.edition) c;
        same_power = ap (λ (c : Opened). c.head.power) c;
        same_ids = ap (λ (q : Pairs). q.ids) q;
        same_values = ap (λ (q : Pairs). q.values) q;
      }

-- ---- demand 3: the look-up against the walk and the list

-- The look-up of an id answers as the list does: found exactly if listed, with the number of listed ids below, the value written with it
-- and the words of the formula; the walk gives the same but for the words; the words are a stride's at most.
pub record Answers (known : List Edition) (bytes : List ℕ) (c : Opened) (p : ℕ) (ids : List ℕ) (vs : List ℤ) (id : ℕ) : Type 0 where
  pub looked : look_up known bytes id ≡ done (list_answer p ids vs id)
  pub walked : walk bytes c id ≡ wordless (list_answer p ids vs id)
  pub few_words : words p ids id ≤ stride_words p

-- for all bytes that the check accepts, and the list that they hold
pub record Holds (known : List Edition) (bytes : List ℕ) : Type 0 where
  pub opened : Opened
  pub pairs : Pairs
  pub is_opened : open_column known bytes ≡ done opened
  pub is_accepted : accepted bytes opened ≡ done pairs
  pub answers : (id : ℕ) → id ≤ max_id → Answers known bytes opened opened.head.power pairs.ids pairs.values id

-- for the column of any pair list
module _ (ed : Edition) (law : Lawful (codec ed)) (known : List Edition) (knows : Knows known ed) (p : ℕ) (ids : List ℕ) (vs : List ℤ)
    (ok : Valid ed p ids vs) where
  pub column_answers : (c : Opened) → open_column known (column ed p ids vs) ≡ done c → (id : ℕ) → id ≤ max_id → Answers known (column ed p ids vs) c p ids vs id
  column_answers c o id k =
      record {
        looked = Looked.looked ed law p ids vs ok id k known knows;
        walked =
            subst (λ (c : Opened). walk (column ed p ids vs) c id ≡ wordless (list_answer p ids vs id))
            (opened_as_lem known _ c ed law knows p ids vs ok o refl) (Walked.walked ed law p ids vs ok id k);
        few_words = words_le p ids id;
      }

  -- in plain words: found exactly if listed
  pub found_if_listed : (id : ℕ) → id ≤ max_id → listed id ids ≡ true
      → look_up known (column ed p ids vs) id ≡ done (found (count_below id ids) (get_or vs (count_below id ids) (pos 0)) (words p ids id))
  unfolding list_answer
  found_if_listed id k e = Looked.looked ed law p ids vs ok id k known knows ∙ rw e refl

  pub absent_if_not : (id : ℕ) → id ≤ max_id → listed id ids ≡ false → look_up known (column ed p ids vs) id ≡ done (absent (words p ids id))
  unfolding list_answer
  absent_if_not id k e = Looked.looked ed law p ids vs ok id k known knows ∙ rw e refl

module _ (known : List Edition) (laws : LawfulReader known) where
  pub accepted_answers : (bytes : List ℕ) (c : Opened) (q : Pairs) → open_column known bytes ≡ done c → accepted bytes c ≡ done q
      → (id : ℕ) → id ≤ max_id → Answers known bytes c c.head.power q.ids q.values id
  accepted_answers bytes c q o a id k =
      let r = is_read known laws bytes c q o a in
      let p : ℕ = c.head.power in
      subst (λ (b : List ℕ). Answers known b c p q.ids q.values id) r.bytes_are
      (column_answers c.head.edition r.law known (opened_ok known bytes c o).knows p q.ids q.values r.valid c
      (ap (open_column known) r.bytes_are ∙ o) id k)

  pub checked_answers : (bytes : List ℕ) (n : ℕ) → check known bytes ≡ done n → Holds known bytes
  unfolding check
  checked_answers bytes n e =
      let o = passed _ _ n e in
      let a = passed _ _ n o.2 in
      search (arith, accepted_answers)

-- each id of the list is listed
pub each_listed : (ids : List ℕ) (i : ℕ) → i < length ids → listed (get_or ids i 0) ids ≡ true
each_listed = listed_each

-- a listed id stands at its ordinal, the number of listed ids below it
pub ordinal_is_its_place : (ids : List ℕ) (id : ℕ) → Asc 0 ids → listed id ids ≡ true → get_or ids (count_below id ids) 0 ≡ id
ordinal_is_its_place ids id t e = listed_at 0 id ids t e

-- on any bytes that are opened: a found id has the words of a stride at most, or of a block without ranks; an absent one has 1 at most
pub words_found : (known : List Edition) (bytes : List ℕ) (c : Opened) (id o : ℕ) (v : ℤ) (w : ℕ) → open_column known bytes ≡ done c
    → look_up known bytes id ≡ done (found o v w) → w ≤ stride_words c.head.power
words_found known bytes c id o v w = few_words known bytes c id (found o v w)

pub words_absent : (known : List Edition) (bytes : List ℕ) (c : Opened) (id w : ℕ) → open_column known bytes ≡ done c
    → look_up known bytes id ≡ done (absent w) → w ≤ 1
words_absent known bytes c id w = few_words known bytes c id (absent w)

-- ---- header numbers

-- a number below 2^64 reads back, and what is read is that number's own bytes: it has one form
pub number_reads_back : (v : ℕ) (rest : List ℕ) → v < 2 ^ 64 → read_number (number v ++ rest) ≡ got v (length (number v))
number_reads_back = read_number_lem

pub number_one_form : (bytes : List ℕ) (v k : ℕ) → Below 256 bytes → read_number bytes ≡ got v k → (v < 2 ^ 64) × (bytes ≡ number v ++ drop k bytes)
number_one_form = Minimal.number_read

-- ---- the look-up in a column that was opened before is the look-up in its bytes

pub opened_look_up : (known : List Edition) (bytes : List ℕ) (c : Opened) (id : ℕ) → open_column known bytes ≡ done c
    → look_up_in bytes c id ≡ look_up known bytes id
unfolding look_up_in look_up and_then need
opened_look_up known bytes c id o =
    let k = opened_ok known bytes c o in
    rw (o, k.rules, k.lengths)

-- ---- the calls: the editions that there are have lawful codecs, and readers take all of them

-- the writer that is told an edition's number is that edition's, or edition 1's for values that the edition does not take
pub told : (ed : Edition) (p : ℕ) (ids : List ℕ) (vs : List ℤ) (room : ℕ) → write (number_of ed) p ids vs room ≡ write_as (chosen ed vs) p ids vs room
unfolding write write_as write_if and_then given need
told ed p ids vs room =
    true_or (eqb (length ids) (length vs)) (λ e. rw (e, knows_all ed)) (λ e. rw e)

-- any other number is refused with EDITION, after LENGTHS and before all else
pub told_other : (k p : ℕ) (ids : List ℕ) (vs : List ℤ) (room : ℕ) → length ids ≡ length vs → edition_in editions k ≡ none
    → write k p ids vs room ≡ refused EDITION 0
unfolding write and_then given need
told_other k p ids vs room e n = rw (eq-eqb (length ids) (length vs) e, n)

pub told_lengths : (k p : ℕ) (ids : List ℕ) (vs : List ℤ) (room : ℕ) → (length ids ≡ length vs → ⊥) → write k p ids vs room ≡ refused LENGTHS 0
unfolding write need
told_lengths k p ids vs room e = rw (ne_eqb (length ids) (length vs) e)

module _ (ed : Edition) (p : ℕ) (ids : List ℕ) (vs : List ℤ) (ok : Valid ed p ids vs) where
  pub written_told : (room : ℕ) → length (column ed p ids vs) ≤ room → write (number_of ed) p ids vs room ≡ done (column ed p ids vs)
  unfolding chosen
  written_told room h = told ed p ids vs room ∙ rw ok.taken (written ed (lawful ed) p ids vs ok room h)

  pub no_room_told : (room : ℕ) → room < length (column ed p ids vs) → write (number_of ed) p ids vs room ≡ refused ROOM (length (column ed p ids vs))
  unfolding chosen
  no_room_told room h = told ed p ids vs room ∙ rw ok.taken (no_room ed (lawful ed) p ids vs ok room h)

  pub checked_all : check editions (column ed p ids vs) ≡ done (length ids)
  checked_all = checked ed (lawful ed) p ids vs ok editions (knows_all ed)

  pub read_back_all : (idRoom valueRoom : ℕ) → length ids ≤ idRoom → length ids ≤ valueRoom
      → reading editions (column ed p ids vs) idRoom valueRoom ≡ done (record { ids = ids; values = vs })
  read_back_all = read_back ed (lawful ed) p ids vs ok editions (knows_all ed)

pub accepts_columns_all : (bytes : List ℕ) (n : ℕ) → check editions bytes ≡ done n → ColumnOf editions bytes n
accepts_columns_all = accepts_columns editions (lawful_reader editions)

pub columns_accepted_all : (bytes : List ℕ) (n : ℕ) → ColumnOf editions bytes n → check editions bytes ≡ done n
columns_accepted_all = columns_accepted editions (lawful_reader editions)

pub reads_columns_all : (bytes : List ℕ) (idRoom valueRoom : ℕ) (q : Pairs) → reading editions bytes idRoom valueRoom ≡ done q
    → ReadFrom editions bytes idRoom valueRoom q
reads_columns_all = reads_columns editions (lawful_reader editions)

pub one_list_all : (ed ed' : Edition) (p p' : ℕ) (ids ids' : List ℕ) (vs vs' : List ℤ) → Valid ed p ids vs → Valid ed' p' ids' vs'
    → column ed p ids vs ≡ column ed' p' ids' vs' → SameList ed ed' p p' ids ids' vs vs'
one_list_all ed ed' = one_list editions (lawful_reader editions) ed ed' (knows_all ed) (knows_all ed')

pub checked_answers_all : (bytes : List ℕ) (n : ℕ) → check editions bytes ≡ done n → Holds editions bytes
checked_answers_all = checked_answers editions (lawful_reader editions)
