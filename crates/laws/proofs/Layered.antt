-- Document 02, [10]: what each answer of the layered look-up means on any bytes, demand 3 over the two lists and the two walks, and that
-- the part handed back is the value section of the column that holds the id. Each for every reader and every edition. Assumes nothing.
use Rattle.format.specs.Kit.{◌≡◌, refl, sym, ap, ◌∙◌, subst, Bool, true, false, cond, List, ℕ, ◌+◌, ◌≤◌, arith, ℤ, length, take, drop, length-drop}
use Rattle.format.specs.Kit.{take_all}
use Rattle.format.specs.Limits.{max_id}
use Rattle.format.specs.Refusals.{Outcome, done, refused}
use Rattle.format.specs.Editions.{Edition}
use Rattle.format.specs.Pairs.{Pairs}
use Rattle.format.specs.Opening.{Opened, open_column, value_part}
use Rattle.format.specs.LookUp.{Look, found, absent, look_up, look_up_in}
use Rattle.format.specs.Walk.{walk, wordless, listed, words, list_answer}
use Rattle.format.specs.Layered.{Layer, machine, correction, of_layer, LayeredLook, found_in, absent_in, refused_by, underneath, on_top, look_up_layered}
use Rattle.format.specs.Layered.{look_up_layered_in, Part, part, no_part, section_in, part_by, layered_part, pair_in, lists_answer, lists_part}
use Rattle.format.specs.Layered.{walks_answer, wordless_in}
use Rattle.laws.proofs.Tests.{needed, passed}
use Rattle.laws.proofs.Open.{sound}
use Rattle.laws.proofs.Demands.{Holds, opened_look_up}

-- ---- what each answer says of the correction's look-up a and the machine column's b, on any bytes

abbrev pub Says : Outcome Look → Outcome Look → LayeredLook → Type 0
Says a b (found_in correction o v w k) = (a ≡ done (found o v k)) × (w ≡ 0)
Says a b (found_in machine o v w k) = (a ≡ done (absent k)) × (b ≡ done (found o v w))
Says a b (absent_in w k) = (a ≡ done (absent k)) × (b ≡ done (absent w))
Says a b (refused_by correction why x) = a ≡ refused why x
Says a b (refused_by machine why x) = (k : ℕ) × (a ≡ done (absent k)) × (b ≡ refused why x)

on_top_says : (a b : Outcome Look) → Says a b (on_top a b)
unfolding on_top underneath
on_top_says (done (found o v k)) b = (refl, refl)
on_top_says (done (absent k)) (done (found o v w)) = (refl, refl)
on_top_says (done (absent k)) (done (absent w)) = (refl, refl)
on_top_says (done (absent k)) (refused why x) = (k, refl, refl)
on_top_says (refused why x) b = refl

pub layered_says : (known : List Edition) (m c : List ℕ) (id : ℕ) (l : LayeredLook) → look_up_layered known m c id ≡ l
    → Says (look_up known c id) (look_up known m id) l
unfolding look_up_layered
layered_says known m c id l e = subst (Says (look_up known c id) (look_up known m id)) e (on_top_says (look_up known c id) (look_up known m id))

pub layered_in_says : (m : List ℕ) (x : Opened) (c : List ℕ) (y : Opened) (id : ℕ) (l : LayeredLook) → look_up_layered_in m x c y id ≡ l
    → Says (look_up_in c y id) (look_up_in m x id) l
unfolding look_up_layered_in
layered_in_says m x c y id l e = subst (Says (look_up_in c y id) (look_up_in m x id)) e (on_top_says (look_up_in c y id) (look_up_in m x id))

-- from columns opened before it answers as from their bytes
pub opened_layered : (known : List Edition) (m : List ℕ) (x : Opened) (c : List ℕ) (y : Opened) (id : ℕ)
    → open_column known m ≡ done x → open_column known c ≡ done y → look_up_layered_in m x c y id ≡ look_up_layered known m c id
unfolding look_up_layered_in look_up_layered
opened_layered known m x c y id ex ey = rw (opened_look_up known m x id ex, opened_look_up known c y id ey)

-- ---- the part

-- it lies within the column that it is a part of
abbrev pub Within : List ℕ → List ℕ → Part → Type 0
Within m c (part layer a n) = a + n ≤ length (of_layer m c layer)

-- it is the value section of these bytes, which are the named column
pub record ValuesOf (known : List Edition) (bytes : List ℕ) (layer : Layer) (p : Part) : Type 0 where
  pub opened : Opened
  pub is_opened : open_column known bytes ≡ done opened
  pub is_part : p ≡ part layer (opened.start + opened.head.id_bytes) opened.head.value_bytes
  pub is_section : take opened.head.value_bytes (drop (opened.start + opened.head.id_bytes) bytes) ≡ value_part bytes opened

section_is : (known : List Edition) (bytes : List ℕ) (x : Opened) → open_column known bytes ≡ done x
    → take x.head.value_bytes (drop (x.start + x.head.id_bytes) bytes) ≡ value_part bytes x
unfolding value_part
section_is known bytes x e =
    take_all x.head.value_bytes (drop (x.start + x.head.id_bytes) bytes)
    (omega (arith, (sound known bytes x e).whole, length-drop (x.start + x.head.id_bytes) bytes))

looked_opened : (known : List Edition) (bytes : List ℕ) (id : ℕ) (l : Look) → look_up known bytes id ≡ done l
    → (x : Opened) × (open_column known bytes ≡ done x)
unfolding look_up
looked_opened known bytes id l e =
    let s = passed _ _ l (needed _ _ _ _ l e).1 in
    (s.0, s.1)

module _ (known : List Edition) (m c : List ℕ) (id : ℕ) where
  found_opened : (layer : Layer) (o : ℕ) (v : ℤ) (w k : ℕ) → look_up_layered known m c id ≡ found_in layer o v w k
      → (x : Opened) × (open_column known (of_layer m c layer) ≡ done x)
  found_opened correction o v w k e = looked_opened known c id (found o v k) (layered_says known m c id _ e).0
  found_opened machine o v w k e = looked_opened known m id (found o v w) (layered_says known m c id _ e).1

  -- found: the value section of the column that holds the id,
  pub part_is_section : (layer : Layer) (o : ℕ) (v : ℤ) (w k : ℕ) → look_up_layered known m c id ≡ found_in layer o v w k
      → ValuesOf known (of_layer m c layer) layer (layered_part known m c id)
  unfolding layered_part part_by section_in
  part_is_section layer o v w k e =
      let s = found_opened layer o v w k e in
      record {
        opened = s.0;
        is_opened = s.1;
        is_part = ap (part_by known m c) e ∙ ap (section_in layer) s.1;
        is_section = section_is known (of_layer m c layer) s.0 s.1;
      }

  -- absent or refused: an empty part of the machine column
  pub absent_part : (w k : ℕ) → look_up_layered known m c id ≡ absent_in w k → layered_part known m c id ≡ no_part
  unfolding layered_part part_by
  absent_part w k e = ap (part_by known m c) e

  pub refused_part : (layer : Layer) (why x : ℕ) → look_up_layered known m c id ≡ refused_by layer why x → layered_part known m c id ≡ no_part
  unfolding layered_part part_by
  refused_part layer why x e = ap (part_by known m c) e

  section_within : (layer : Layer) (o : Outcome Opened) → open_column known (of_layer m c layer) ≡ o → Within m c (section_in layer o)
  unfolding section_in
  section_within layer (done x) e = omega (arith, (sound known (of_layer m c layer) x e).whole)
  section_within layer (refused why w) e = omega arith

  by_within : (l : LayeredLook) → Within m c (part_by known m c l)
  unfolding part_by
  by_within (found_in layer o v w k) = section_within layer (open_column known (of_layer m c layer)) refl
  by_within (absent_in w k) = omega arith
  by_within (refused_by layer why x) = omega arith

  pub part_within : Within m c (layered_part known m c id)
  unfolding layered_part
  part_within = by_within (look_up_layered known m c id)

-- ---- demand 3, for two columns that the check accepts, each of its own edition and rank power

on_lists : (p : ℕ) (m : Pairs) (k : ℕ) (c : Pairs) (id : ℕ)
    → on_top (done (list_answer k c.ids c.values id)) (done (list_answer p m.ids m.values id)) ≡ lists_answer p m k c id
unfolding on_top underneath list_answer lists_answer
on_lists p m k c id = go (listed id c.ids) (listed id m.ids) refl refl
  where
    go : (s t : Bool) → listed id c.ids ≡ s → listed id m.ids ≡ t
        → on_top (done (list_answer k c.ids c.values id)) (done (list_answer p m.ids m.values id)) ≡ lists_answer p m k c id
    go true t e f = rw e
    go false true e f = rw (e, f)
    go false false e f = rw (e, f)

by_walks : (x y : Look) → wordless_in (on_top (done y) (done x)) ≡ done (walks_answer (wordless x) (wordless y))
unfolding on_top underneath wordless_in walks_answer wordless
by_walks x (found o v k) = refl
by_walks (found o v w) (absent k) = refl
by_walks (absent w) (absent k) = refl

module _ (known : List Edition) (m c : List ℕ) (x : Holds known m) (y : Holds known c) (id : ℕ) (h : id ≤ max_id) where
  -- as the two lists do, the correction's pair winning, with the words of each column's own list and rank power,
  pub lists_answer_lem : look_up_layered known m c id ≡ lists_answer x.opened.head.power x.pairs y.opened.head.power y.pairs id
  unfolding look_up_layered
  lists_answer_lem =
      rw ((y.answers id h).looked, (x.answers id h).looked)
      (on_lists x.opened.head.power x.pairs y.opened.head.power y.pairs id)

  -- and as the two walks over all blocks;
  pub walks_answer_lem : wordless_in (look_up_layered known m c id) ≡ done (walks_answer (walk m x.opened id) (walk c y.opened id))
  unfolding look_up_layered
  walks_answer_lem =
      rw ((y.answers id h).looked, (x.answers id h).looked, (x.answers id h).walked, (y.answers id h).walked)
      (by_walks (list_answer x.opened.head.power x.pairs.ids x.pairs.values id)
      (list_answer y.opened.head.power y.pairs.ids y.pairs.values id))

  -- neither refuses;
  pub never_refuses : (layer : Layer) (why w : ℕ) → look_up_layered known m c id ≡ refused_by layer why w → ⊥
  unfolding wordless_in
  never_refuses layer why w e =
      let f = sym (ap wordless_in e) ∙ walks_answer_lem in
      let z : ◌≡◌ {A = ℕ} 0 1 = cc in
      omega arith

  -- and the part goes by the lists too
  pub lists_part_lem : layered_part known m c id ≡ lists_part x.opened x.pairs y.opened y.pairs id
  unfolding layered_part part_by lists_answer lists_part
  lists_part_lem = ap (part_by known m c) lists_answer_lem ∙ go (listed id y.pairs.ids) (listed id x.pairs.ids)
    where
      k : ℕ
      k = words y.opened.head.power y.pairs.ids id

      w : ℕ
      w = words x.opened.head.power x.pairs.ids id

      go : (s t : Bool)
          → part_by known m c (cond s (pair_in correction y.pairs id 0 k) (cond t (pair_in machine x.pairs id w k) (absent_in w k)))
          ≡ cond s (section_in correction (done y.opened)) (cond t (section_in machine (done x.opened)) no_part)
      go true t = ap (section_in correction) y.is_opened
      go false true = ap (section_in machine) x.is_opened
      go false false = refl
