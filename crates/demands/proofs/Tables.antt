-- Each call of specs/Tables.antt answers by its table, on every input. Assumes nothing.
use Rattle.format.specs.Kit.{◌≡◌, refl, sym, ap, ◌∙◌, subst, List, [], ◌∷◌, Option, ℕ, ◌≤◌, ℤ, leb, eqb, leb-true}
use Rattle.format.specs.Kit.{leb-false, eqb-true, eqb-false}
use Rattle.format.specs.Limits.{max_id}
use Rattle.format.specs.Refusals.{Outcome, done, refused, and_then, need, SHORT, NUMBER, EDITION, HEADER, LENGTH, DAMAGED}
use Rattle.format.specs.Pairs.{Below}
use Rattle.format.specs.Editions.{runs, number_of, editions, among}
use Rattle.format.specs.Opening.{Opened, head_ok, length_ok, open_column}
use Rattle.format.specs.LookUp.{Look, found, absent, halved, steps, look_up, look_up_in}
use Rattle.format.specs.Next.{Candidate, next_steps, new_cursor, next_in}
use Rattle.format.specs.FirstBetween.{between_steps, first_between, first_between_in}
use Rattle.format.specs.BetweenFrom.{between_steps_from, first_between_from, first_between_from_in}
use Rattle.format.specs.ReadFrom.{read_steps, read_from_in}
use Rattle.format.specs.PairAt.{pair_steps, pair_at_in}
use Rattle.format.specs.Layered.{LayeredLook, found_in, absent_in, refused_by, on_top, underneath, look_up_layered, look_up_layered_in, layered_part}
use Rattle.format.specs.LayeredReading.{next_of_both, layered_steps, both_then, read_to, read_layered_in}
use Rattle.format.specs.SetCalls.{set_check, set_find}
use Rattle.laws.proofs.Cases.{true_or, false_true}
use Rattle.laws.proofs.Editions.{one_number}
use Rattle.laws.proofs.Layered as Ld
use Rattle.set_format.proofs.Demands.{accepts_sets, checked_finds, refused_alike}
use Rattle.laws.proofs.RefusalNumbers.{set_check_refusals}
use Rattle.set_format.proofs.Faults.{check_number, check_short, check_damaged}
use Rattle.laws.proofs.LayeredCalls.{start_in}
use Rattle.demands.specs.Tables.{LayeredReadInSays}
use Rattle.demands.specs.Tables.{InSays, LookInSays, NextInSays, ReadFromInSays, PairAtInSays, RangeInSays, BetweenInSays, BetweenFromInSays}
use Rattle.demands.specs.Tables.{RangeSays, BetweenSays, BetweenFromSays, LayeredSays, PartSays, SetCheckSays, SetFindSays}

-- ---- from an opened column

in_says : {A : Type 0} (bytes : List ℕ) (c : Opened) (further o : Outcome A)
    → o ≡ need (head_ok c.head) HEADER 0 (need (length_ok bytes c) LENGTH 0 further) → InSays bytes c further o
unfolding need
in_says bytes c further o e =
    true_or (head_ok c.head)
    (λ h. true_or (length_ok bytes c) (λ l. InSays.fits h l (e ∙ rw (h, l) refl)) (λ l. InSays.other_length h l (e ∙ rw (h, l) refl)))
    (λ h. InSays.bad_header h (e ∙ rw h refl))

module _ (bytes : List ℕ) (c : Opened) where
  pub look_in_says : (id : ℕ) → LookInSays bytes c id (look_up_in bytes c id)
  unfolding look_up_in need
  look_in_says id =
      true_or (leb id max_id)
      (λ h. LookInSays.within (leb-true id max_id h) (in_says bytes c (steps halved bytes c id) _ (rw h refl)))
      (λ h. LookInSays.above_limit (leb-false id max_id h) (rw h refl))

  pub next_in_says : (last t : ℕ) → NextInSays bytes c last t (next_in bytes c last t)
  unfolding next_in need
  next_in_says last t =
      true_or (leb t max_id)
      (λ h.
      true_or (leb last t)
      (λ l. NextInSays.onward (leb-true t max_id h) (leb-true last t l) (in_says bytes c (next_steps bytes c t) _ (rw (h, l) refl)))
      (λ l. NextInSays.going_back (leb-true t max_id h) (leb-false last t l) (rw (h, l) refl)))
      (λ h. NextInSays.above_limit (leb-false t max_id h) (rw h refl))

  pub read_from_in_says : (t room : ℕ) → ReadFromInSays bytes c t room (read_from_in bytes c t room)
  unfolding read_from_in need
  read_from_in_says t room =
      true_or (leb t max_id)
      (λ h. ReadFromInSays.within (leb-true t max_id h) (in_says bytes c (read_steps bytes c t room) _ (rw h refl)))
      (λ h. ReadFromInSays.above_limit (leb-false t max_id h) (rw h refl))

  pub pair_at_in_says : (i : ℕ) → PairAtInSays bytes c i (pair_at_in bytes c i)
  unfolding pair_at_in
  pair_at_in_says i = in_says bytes c (pair_steps bytes c i) _ refl

  range_in_says : (further o : Outcome (Option ℕ))
      → o ≡ need (eqb (number_of c.head.edition) (number_of runs)) EDITION 0 (need (head_ok c.head) HEADER 0 (need (length_ok bytes c) LENGTH 0 further))
      → RangeInSays bytes c further o
  unfolding need
  range_in_says further o e =
      true_or (eqb (number_of c.head.edition) (number_of runs))
      (λ h. RangeInSays.in_runs_is (one_number c.head.edition runs (eqb-true _ _ h)) (in_says bytes c further _ (e ∙ rw h refl)))
      (λ h. RangeInSays.other_edition (λ z. eqb-false _ _ h (ap number_of z)) (e ∙ rw h refl))

  pub between_in_says : (a b : ℤ) → BetweenInSays bytes c a b (first_between_in bytes c a b)
  unfolding first_between_in
  between_in_says a b = range_in_says (between_steps bytes c a b) _ refl

  pub between_from_in_says : (i : ℕ) (a b : ℤ) → BetweenFromInSays bytes c i a b (first_between_from_in bytes c i a b)
  unfolding first_between_from_in
  between_from_in_says i a b = range_in_says (between_steps_from bytes c i a b) _ refl

-- ---- a range of values

range_says : (bytes : List ℕ) (further : Opened → Outcome (Option ℕ)) → RangeSays bytes further (and_then (open_column (runs ∷ []) bytes) further)
unfolding and_then
range_says bytes further = go (open_column (runs ∷ []) bytes) refl
  where
    go : (o : Outcome Opened) → open_column (runs ∷ []) bytes ≡ o → RangeSays bytes further (and_then (open_column (runs ∷ []) bytes) further)
    go (done c) e = RangeSays.by_runs c e (rw e refl)
    go (refused why w) e = RangeSays.not_opened why w e (rw e refl)

pub between_says : (bytes : List ℕ) (a b : ℤ) → BetweenSays bytes a b (first_between bytes a b)
unfolding first_between
between_says bytes a b = range_says bytes (λ c. between_steps bytes c a b)

pub between_from_says : (bytes : List ℕ) (i : ℕ) (a b : ℤ) → BetweenFromSays bytes i a b (first_between_from bytes i a b)
unfolding first_between_from
between_from_says bytes i a b = range_says bytes (λ c. between_steps_from bytes c i a b)

-- ---- a correction on top

on_top_is : (a b : Outcome Look) → LayeredSays a b (on_top a b)
unfolding on_top underneath
on_top_is (done (found i v k)) b = LayeredSays.top_has i v k refl refl
on_top_is (done (absent k)) (done (found i v w)) = LayeredSays.below_has k refl i v w refl refl
on_top_is (done (absent k)) (done (absent w)) = LayeredSays.neither k refl w refl refl
on_top_is (done (absent k)) (refused why w) = LayeredSays.below_refuses k refl why w refl refl
on_top_is (refused why w) b = LayeredSays.top_refuses why w refl refl

pub layered_says : (m c : List ℕ) (id : ℕ) → LayeredSays (look_up editions c id) (look_up editions m id) (look_up_layered editions m c id)
unfolding look_up_layered
layered_says m c id = on_top_is (look_up editions c id) (look_up editions m id)

pub layered_in_says : (m : List ℕ) (x : Opened) (c : List ℕ) (y : Opened) (id : ℕ)
    → LayeredSays (look_up_in c y id) (look_up_in m x id) (look_up_layered_in m x c y id)
unfolding look_up_layered_in
layered_in_says m x c y id = on_top_is (look_up_in c y id) (look_up_in m x id)

pub layered_read_in_says : (m : List ℕ) (x : Opened) (c : List ℕ) (y : Opened) (t room : ℕ)
    → LayeredReadInSays m x c y t room (read_layered_in m x c y t room)
unfolding read_layered_in both_then and_then
layered_read_in_says m x c y t room = rw (start_in c y t, start_in m x t) (go (next_in c y new_cursor t) (next_in m x new_cursor t) refl refl)
  where
    go : (a b : Outcome Candidate) → next_in c y new_cursor t ≡ a → next_in m x new_cursor t ≡ b
        → LayeredReadInSays m x c y t room (both_then (and_then a (λ first. done y)) (and_then b (λ first. done x))
        (λ y x. read_to (layered_steps (next_of_both m x c y) room t)))
    go (refused why w) b ea eb = LayeredReadInSays.correction_fails why w ea refl
    go (done a) (refused why w) ea eb = LayeredReadInSays.machine_fails a ea why w eb refl
    go (done a) (done b) ea eb = LayeredReadInSays.in_turn_is a b ea eb refl

pub part_says : (m c : List ℕ) (id : ℕ) → PartSays m c (look_up_layered editions m c id) (layered_part editions m c id)
part_says m c id = go (look_up_layered editions m c id) refl
  where
    go : (l : LayeredLook) → look_up_layered editions m c id ≡ l → PartSays m c (look_up_layered editions m c id) (layered_part editions m c id)
    go (found_in layer i v w k) e =
        let s = Ld.part_is_section editions m c id layer i v w k e in
        PartSays.values layer i v w k e s.opened s.is_opened s.is_part
    go (absent_in w k) e = PartSays.none_absent w k e (Ld.absent_part editions m c id w k e)
    go (refused_by layer why w) e = PartSays.none_refused layer why w e (Ld.refused_part editions m c id layer why w e)

-- ---- a set

module _ (bytes : List ℕ) (u : Below 256 bytes) where
  set_refused : (why w : ℕ) → set_check bytes ≡ refused why w → SetCheckSays bytes (refused why w)
  unfolding among
  set_refused why w e =
      true_or (eqb NUMBER why)
      (λ n.
      let s = ap {B = Outcome ℕ} (λ (k : ℕ). refused k w) (sym (eqb-true NUMBER why n)) in
      SetCheckSays.no_number w ((check_number bytes u w).0 (e ∙ s)) s)
      (λ n.
      true_or (eqb SHORT why)
      (λ h.
      let s = ap {B = Outcome ℕ} (λ (k : ℕ). refused k w) (sym (eqb-true SHORT why h)) in
      SetCheckSays.ends w ((check_short bytes u w).0 (e ∙ s)) s)
      (λ h.
      true_or (eqb DAMAGED why)
      (λ d.
      let s = ap {B = Outcome ℕ} (λ (k : ℕ). refused k w) (sym (eqb-true DAMAGED why d)) in
      let x = (check_damaged bytes u w).0 (e ∙ s) in
      SetCheckSays.damaged x.1 (s ∙ ap {B = Outcome ℕ} (λ (k : ℕ). refused DAMAGED k) x.0))
      (λ d. false_true (rw (h, n, d) at (set_check_refusals bytes why w e)))))

  pub set_check_says : SetCheckSays bytes (set_check bytes)
  set_check_says = go (set_check bytes) refl
    where
      go : (o : Outcome ℕ) → set_check bytes ≡ o → SetCheckSays bytes (set_check bytes)
      go (done n) e = SetCheckSays.a_set n (accepts_sets bytes n u e) e
      go (refused why w) e = subst (SetCheckSays bytes) (sym e) (set_refused why w e)

  pub set_find_says : (id : ℕ) → SetFindSays bytes id (set_find bytes id)
  unfolding set_find need
  set_find_says id =
      true_or (leb id max_id)
      (λ h. go (leb-true id max_id h) (set_check bytes) refl)
      (λ h. SetFindSays.above_limit (leb-false id max_id h) (rw h refl))
    where
      go : id ≤ max_id → (o : Outcome ℕ) → set_check bytes ≡ o → SetFindSays bytes id (set_find bytes id)
      go l (done n) e = let x = accepts_sets bytes n u e in SetFindSays.a_set l n x (checked_finds bytes n x id l)
      go l (refused why w) e = SetFindSays.as_check l why w (set_refused why w e) (refused_alike bytes id why w l e)
