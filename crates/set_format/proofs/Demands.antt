-- Document 02, [14], as theorems about the definitions alone: demands 1 and 2 without the reading, membership, and that the set and the id
-- section of the same list answer every membership question alike. Assumes nothing.
use Rattle.format.specs.Kit.{◌≡◌, refl, sym, ap, ap₂, ◌∙◌, Bool, true, false, List, ℕ, ◌≤◌, ◌<◌, arith, ℤ, length, leb, le-leb, lt-leb}
use Rattle.format.specs.Limits.{max_id}
use Rattle.format.specs.Refusals.{Outcome, done, refused, and_then, need, need_none, ROOM}
use Rattle.format.specs.Ids.{count_below}
use Rattle.format.specs.Editions.{Edition, Knows, codec}
use Rattle.format.specs.Pairs.{Below, ValidIds}
use Rattle.format.specs.Valid.{Valid}
use Rattle.format.specs.Column.{column}
use Rattle.format.specs.Opening.{Opened, open_column}
use Rattle.format.specs.LookUp.{look_up}
use Rattle.format.specs.Walk.{Seen, walk, wordless, listed, list_answer}
use Rattle.format.specs.SetBytes.{set_bytes, set_write}
use Rattle.format.specs.SetCalls.{set_ids, set_check, Member, member_at, no_member, member_in, set_find, as_member, as_seen}
use Rattle.format.specs.Lists.{SetOf}
use Rattle.laws.proofs.Cases.{below_or}
use Rattle.laws.proofs.Tests.{result, needed, needed_none, passed}
use Rattle.laws.proofs.RoundTrip.{in_order, in_range}
use Rattle.laws.proofs.Unique.{ordered, ranged}
use Rattle.laws.proofs.Lawful.{Lawful}
use Rattle.laws.proofs.Demands.{column_answers}
use Rattle.laws.proofs.Looked.{looked}
use Rattle.set_format.proofs.Whole.{list_back, list_sound}

-- ---- the bytes of a list are written, and accepted with its count

module _ (ids : List ℕ) (ok : ValidIds ids) where
  room_decides : (room : ℕ) → set_write ids room ≡ need (leb (length (set_bytes ids)) room) ROOM (length (set_bytes ids)) (done (set_bytes ids))
  unfolding set_write need_none
  room_decides room = rw (in_order ids ok.ascending, in_range 0 ids ok.range)

  pub written : (room : ℕ) → length (set_bytes ids) ≤ room → set_write ids room ≡ done (set_bytes ids)
  unfolding need
  written room k = room_decides room ∙ rw (le-leb (length (set_bytes ids)) room k) refl

  pub no_room : (room : ℕ) → room < length (set_bytes ids) → set_write ids room ≡ refused ROOM (length (set_bytes ids))
  unfolding need
  no_room room k = room_decides room ∙ rw (lt-leb (length (set_bytes ids)) room k) refl

  pub ids_back : set_ids (set_bytes ids) ≡ done ids
  ids_back = list_back ids ok.ascending ok.range

  pub checked : set_check (set_bytes ids) ≡ done (length ids)
  unfolding set_check and_then
  checked = rw ids_back

-- the writer takes nothing else
pub written_valid : (ids : List ℕ) (room : ℕ) (out : List ℕ) → set_write ids room ≡ done out → ValidIds ids × (set_bytes ids ≡ out)
unfolding set_write
written_valid ids room out e =
    let s1 = needed_none _ _ _ out e in
    let s2 = needed_none _ _ _ out s1.1 in
    let s3 = needed _ _ _ _ out s2.1 in
    (record { ascending = ordered ids s1.0; range = ranged 0 ids s2.0 }, ap (result out) s3.1)

-- ---- accepted exactly if they are the bytes of some list, and of one only

pub accepts_sets : (bytes : List ℕ) (n : ℕ) → Below 256 bytes → set_check bytes ≡ done n → SetOf bytes n
unfolding set_check
accepts_sets bytes n u e =
    let w = passed _ _ n e in
    let s = list_sound bytes u w.0 w.1 in
    record {
      ids = w.0;
      valid = record { ascending = s.0; range = s.1 };
      same_bytes = s.2;
      count = ap (result n) w.2;
    }

pub sets_accepted : (bytes : List ℕ) (n : ℕ) → SetOf bytes n → set_check bytes ≡ done n
sets_accepted bytes n c =
    ap set_check (sym c.same_bytes) ∙ checked c.ids c.valid ∙ ap {B = Outcome ℕ} (λ (k : ℕ). done k) c.count

pub one_list : (ids ids' : List ℕ) → ValidIds ids → ValidIds ids' → set_bytes ids ≡ set_bytes ids' → ids ≡ ids'
one_list ids ids' ok ok' e = ap (result ids) (sym (ids_back ids ok) ∙ ap set_ids e ∙ ids_back ids' ok')

-- ---- membership

-- in the bytes of any list: found exactly if listed, with the number of listed ids below
module _ (ids : List ℕ) (ok : ValidIds ids) (id : ℕ) (k : id ≤ max_id) where
  pub sought : set_find (set_bytes ids) id ≡ done (member_in ids id)
  unfolding set_find and_then need
  sought = rw (le-leb id max_id k, ids_back ids ok)

  pub found_if_listed : listed id ids ≡ true → set_find (set_bytes ids) id ≡ done (member_at (count_below id ids))
  unfolding member_in
  found_if_listed e = sought ∙ rw e refl

  pub absent_if_not : listed id ids ≡ false → set_find (set_bytes ids) id ≡ done no_member
  unfolding member_in
  absent_if_not e = sought ∙ rw e refl

-- in all bytes that the check accepts, and the list that they hold
pub checked_finds : (bytes : List ℕ) (n : ℕ) (c : SetOf bytes n) (id : ℕ) → id ≤ max_id → set_find bytes id ≡ done (member_in c.ids id)
checked_finds bytes n c id k = ap (λ (b : List ℕ). set_find b id) (sym c.same_bytes) ∙ sought c.ids c.valid id k

-- on all others membership is refused as the check is
pub refused_alike : (bytes : List ℕ) (id why w : ℕ) → id ≤ max_id → set_check bytes ≡ refused why w → set_find bytes id ≡ refused why w
unfolding set_check set_find and_then need
refused_alike bytes id why w k e = rw (le-leb id max_id k) (go (set_ids bytes) e)
  where
    go : (o : Outcome (List ℕ)) → and_then o (λ ids. done (length ids)) ≡ refused why w → and_then o (λ ids. done (member_in ids id)) ≡ refused why w
    go (done ids) h = absurd (let z : ◌≡◌ {A = ℕ} 0 1 = cc in omega arith)
    go (refused x y) h =
        let a : x ≡ why = cc in
        let b : y ≡ w = cc in
        ap₂ {C = Outcome Member} (λ (x y : ℕ). refused x y) a b

-- ---- it and the id section of the same list answer every membership question alike

as_list : (p : ℕ) (ids : List ℕ) (vs : List ℤ) (id : ℕ) → as_member (list_answer p ids vs id) ≡ member_in ids id
unfolding as_member list_answer member_in
as_list p ids vs id = go (listed id ids) refl
  where
    go : (t : Bool) → listed id ids ≡ t → as_member (list_answer p ids vs id) ≡ member_in ids id
    go true e = rw e
    go false e = rw e

as_walk : (p : ℕ) (ids : List ℕ) (vs : List ℤ) (id : ℕ) → as_seen (wordless (list_answer p ids vs id)) ≡ member_in ids id
unfolding as_seen wordless list_answer member_in
as_walk p ids vs id = go (listed id ids) refl
  where
    go : (t : Bool) → listed id ids ≡ t → as_seen (wordless (list_answer p ids vs id)) ≡ member_in ids id
    go true e = rw e
    go false e = rw e

-- a column that holds these ids, in any edition, at any rank power and with any values
module _ (ed : Edition) (law : Lawful (codec ed)) (known : List Edition) (knows : Knows known ed) (p : ℕ) (ids : List ℕ) (vs : List ℤ)
    (ok : Valid ed p ids vs) (id : ℕ) where
  abbrev alone : ValidIds ids
  alone = record { ascending = ok.ascending; range = ok.range }

  within : id ≤ max_id → and_then (look_up known (column ed p ids vs) id) (λ l. done (as_member l)) ≡ set_find (set_bytes ids) id
  unfolding and_then
  within k =
      rw (looked ed law p ids vs ok id k known knows)
      (ap {B = Outcome Member} (λ (m : Member). done m) (as_list p ids vs id) ∙ sym (sought ids alone id k))

  -- its look-up gives the set's answer, and both refuse ids above the limit;
  pub alike : and_then (look_up known (column ed p ids vs) id) (λ l. done (as_member l)) ≡ set_find (set_bytes ids) id
  unfolding look_up set_find and_then need
  alike = below_or max_id id (λ h. rw (lt-leb id max_id h)) (λ h. within h)

  -- and so does the walk over its blocks
  pub walks_alike : (c : Opened) → open_column known (column ed p ids vs) ≡ done c → id ≤ max_id
      → done (as_seen (walk (column ed p ids vs) c id)) ≡ set_find (set_bytes ids) id
  walks_alike c o k =
      ap {B = Outcome Member} (λ (w : Seen). done (as_seen w)) (column_answers ed law known knows p ids vs ok c o id k).walked
      ∙ ap {B = Outcome Member} (λ (m : Member). done m) (as_walk p ids vs id) ∙ sym (sought ids alone id k)
