-- Document 02, [10], "The stenographer's correction lies on top": the look-up in a machine column m with a correction column c on top of
-- it, the part of a lent column that the second call hands back, and what demand 3 holds both against. Assumes nothing.
use Rattle.std.specs.Prelude.{◌+◌, ◌≡◌}
use Rattle.std.specs.Borrow.{Bor}
use Rattle.format.specs.Kit.{ℕ, cond, List, Option, some, get_or, take, drop, ℤ, pos}
use Rattle.format.specs.Refusals.{Outcome, done, refused}
use Rattle.format.specs.Ids.{count_below}
use Rattle.format.specs.Editions.{Edition}
use Rattle.format.specs.Pairs.{Pairs}
use Rattle.format.specs.Opening.{Opened, open_column}
use Rattle.format.specs.LookUp.{Look, found, absent, look_up, look_up_in}
use Rattle.format.specs.Walk.{Seen, seen, unseen, words, listed}

-- ---- the look-up

-- which of the two columns
pub data Layer : Type 0 where
  machine correction : Layer

-- one of two, by the column
abbrev pub of_layer : {A : Type 0} → A → A → Layer → A
of_layer m c machine = m
of_layer m c correction = c

-- the number that a list of columns and the C boundary have for each
abbrev pub layer_number : Layer → ℕ
layer_number machine = 0
layer_number correction = 1

-- Found and refused name their column; the ordinal is the one in that column. Found and absent have the words of each column apart, the
-- machine column's first, 0 for one not looked in.
pub data LayeredLook : Type 0 where
  found_in : Layer → ℕ → ℤ → ℕ → ℕ → LayeredLook
  absent_in : ℕ → ℕ → LayeredLook
  refused_by : Layer → ℕ → ℕ → LayeredLook

-- the machine column's answer or refusal, where the id is absent in the correction and k words were counted there
unfoldable pub underneath : ℕ → Outcome Look → LayeredLook
underneath k (done (found o v w)) = found_in machine o v w k
underneath k (done (absent w)) = absent_in w k
underneath k (refused why x) = refused_by machine why x

-- the correction's answer or refusal is the call's, but an id absent there goes on to the machine column
unfoldable pub on_top : Outcome Look → Outcome Look → LayeredLook
on_top (done (found o v k)) below = found_in correction o v 0 k
on_top (done (absent k)) below = underneath k below
on_top (refused why x) below = refused_by correction why x

unfoldable pub look_up_layered : List Edition → List ℕ → List ℕ → ℕ → LayeredLook
look_up_layered known m c id = on_top (look_up known c id) (look_up known m id)

-- From two columns that were opened before, or any numbers in their place. (Not in document 02: docs/DECISIONS.md.)
unfoldable pub look_up_layered_in : List ℕ → Opened → List ℕ → Opened → ℕ → LayeredLook
look_up_layered_in m x c y id = on_top (look_up_in c y id) (look_up_in m x id)

-- ---- the value section as a part of whichever lent column holds the id

-- so many bytes of one of the columns, from a place on
pub data Part : Type 0 where
  part : Layer → ℕ → ℕ → Part

-- an empty part of the machine column
abbrev pub no_part : Part
no_part = part machine 0 0

-- the V bytes after the header and the L bytes of the id section
unfoldable pub section_in : Layer → Outcome Opened → Part
section_in layer (done x) = part layer (x.start + x.head.id_bytes) x.head.value_bytes
section_in layer (refused why w) = no_part

-- found: the value section of the column that holds the id; absent or refused: an empty part of the machine column
unfoldable pub part_by : List Edition → List ℕ → List ℕ → LayeredLook → Part
part_by known m c (found_in layer o v w k) = section_in layer (open_column known (of_layer m c layer))
part_by known m c (absent_in w k) = no_part
part_by known m c (refused_by layer why x) = no_part

unfoldable pub layered_part : List Edition → List ℕ → List ℕ → ℕ → Part
layered_part known m c id = part_by known m c (look_up_layered known m c id)

-- a reference r is n bytes of the lent slice s, from its place a on: these bytes, at that place of the same memory
pub record PartOf (r s : Bor (List ℕ)) (a n : ℕ) : Type 0 where
  pub bytes : r.now ≡ take n (drop a s.now)
  pub place : r.ref_ptr ≡ (s.ref_ptr.0, a + s.ref_ptr.1)

-- r is that part of the lent columns m and c
abbrev pub IsPart : Bor (List ℕ) → Bor (List ℕ) → Bor (List ℕ) → Part → Type 0
IsPart r m c (part layer a n) = PartOf r (of_layer m c layer) a n

-- ---- the two lists' own answer

-- a listed id's pair in its own column
abbrev pub pair_in : Layer → Pairs → ℕ → ℕ → ℕ → LayeredLook
pair_in layer q id w k = found_in layer (count_below id q.ids) (get_or q.values (count_below id q.ids) (pos 0)) w k

-- the correction's pair wins; the words of a column looked in go by its own list and rank power (p and m, k and c)
unfoldable pub lists_answer : ℕ → Pairs → ℕ → Pairs → ℕ → LayeredLook
lists_answer p m k c id =
    cond (listed id c.ids) (pair_in correction c id 0 (words k c.ids id))
    (cond (listed id m.ids) (pair_in machine m id (words p m.ids id) (words k c.ids id))
    (absent_in (words p m.ids id) (words k c.ids id)))

-- the same for the part
unfoldable pub lists_part : Opened → Pairs → Opened → Pairs → ℕ → Part
lists_part x m y c id =
    cond (listed id c.ids) (section_in correction (done y)) (cond (listed id m.ids) (section_in machine (done x)) no_part)

-- ---- the two walks' own answer: no words

pub data LayeredSeen : Type 0 where
  seen_in : Layer → ℕ → Option ℤ → LayeredSeen
  unseen_in : LayeredSeen

-- the machine column's walk, then the correction's, which wins
unfoldable pub walks_answer : Seen → Seen → LayeredSeen
walks_answer m (seen o v) = seen_in correction o v
walks_answer (seen o v) unseen = seen_in machine o v
walks_answer unseen unseen = unseen_in

-- a layered answer without its words
unfoldable pub wordless_in : LayeredLook → Outcome LayeredSeen
wordless_in (found_in layer o v w k) = done (seen_in layer o (some v))
wordless_in (absent_in w k) = done unseen_in
wordless_in (refused_by layer why x) = refused why x
