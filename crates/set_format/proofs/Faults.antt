-- Document 02, [14]: "The first fault in byte order decides; each number is read, then at once held to its limits", "7 and 8 with [4]'s
-- numbers". So NUMBER and SHORT of a set exactly where all before the number that is none is sound (`Due` in format/specs/SetFaults.antt), and
-- "Other faults and left-over bytes are 13", with 0. Assumes nothing.
use Rattle.format.specs.Kit.{◌≡◌, ◌↔◌, refl, sym, ap, ap₂, ◌∙◌, List, ℕ, ◌≤◌, ◌<◌}
use Rattle.format.specs.Kit.{arith, leb, leb-true, le-leb}
use Rattle.format.specs.Limits.{max_id}
use Rattle.format.specs.Refusals.{Outcome, done, refused, and_then, need, SHORT, NUMBER, DAMAGED, ID}
use Rattle.format.specs.Pairs.{Below}
use Rattle.format.specs.SetCalls.{set_ids, set_check, member_in, set_find}
use Rattle.format.specs.SetFaults.{Due, BrokenAt, EndsAt, Otherwise}
use Rattle.laws.proofs.Cases.{true_or}
use Rattle.laws.proofs.Tests.{stopped}
use Rattle.laws.proofs.HeaderFaults.{number_refused, number_short, none_of, bad_number, short_number}
use Rattle.set_format.proofs.Demands.{accepts_sets, sets_accepted}
use Rattle.set_format.proofs.Stops.{Comes, no_number, damaged, stops, due_refused}

-- ---- SHORT and NUMBER, exactly

module _ (bytes : List ℕ) (w : ℕ) where
  module _ (u : Below 256 bytes) where
    broken : Comes bytes NUMBER w (Due bytes) → BrokenAt bytes w
    broken (no_number at d e) = let b = number_refused bytes at w u e in record { at = at; due = d; index = b.0; bad = b.1; place = b.2 }
    broken (damaged e z) = absurd (omega arith)

    ended : Comes bytes SHORT w (Due bytes) → EndsAt bytes w
    ended (no_number at d e) = let b = number_short bytes at w u e in record { at = at; due = d; begun = b.0; count = b.1 }
    ended (damaged e z) = absurd (omega arith)

    pub set_number_exactly : (set_ids bytes ≡ refused NUMBER w) ↔ BrokenAt bytes w
    set_number_exactly = (
      λ e. broken (stops bytes NUMBER w u e),
      λ b. due_refused bytes NUMBER w b.at b.due (bad_number bytes w b.at b.index b.bad b.place),
    )

    pub set_short_exactly : (set_ids bytes ≡ refused SHORT w) ↔ EndsAt bytes w
    set_short_exactly =
        (λ e. ended (stops bytes SHORT w u e), λ b. due_refused bytes SHORT w b.at b.due (short_number bytes w b.at b.begun b.count))

-- ---- for the two calls: the check, and membership, which tests its id first

module _ (bytes : List ℕ) (why w : ℕ) where
  pub set_check_from : (set_check bytes ≡ refused why w) ↔ (set_ids bytes ≡ refused why w)
  unfolding set_check and_then
  set_check_from = (
    λ e. stopped (set_ids bytes) _ why w e (λ f. f) (λ ids x f. absurd (let z : ◌≡◌ {A = ℕ} 0 1 = cc in omega arith)),
    λ e. rw e refl,
  )

  pub set_find_from : (id : ℕ) → why < ID → (set_find bytes id ≡ refused why w) ↔ ((id ≤ max_id) × (set_ids bytes ≡ refused why w))
  unfolding set_find and_then need
  set_find_from id l = (to, λ s. rw (le-leb id max_id s.0, s.1) refl)
    where
      to : need (leb id max_id) ID 0 (and_then (set_ids bytes) (λ ids. done (member_in ids id))) ≡ refused why w → (id ≤ max_id) × (set_ids bytes ≡ refused why w)
      to e =
          true_or (leb id max_id)
          (λ h. (
            leb-true id max_id h,
            stopped (set_ids bytes) _ why w (rw h at e) (λ f. f) (λ ids x f. absurd (let z : ◌≡◌ {A = ℕ} 0 1 = cc in omega arith)),
          ))
          (λ h. absurd (let z : ID ≡ why = cc (rw h at e) in omega arith))

-- so 8 comes with the place of the byte that decided it, and 7 with the byte count, exactly
module _ (bytes : List ℕ) (u : Below 256 bytes) (w : ℕ) where
  pub check_number : (set_check bytes ≡ refused NUMBER w) ↔ BrokenAt bytes w
  check_number =
      let c = set_check_from bytes NUMBER w in
      let n = set_number_exactly bytes w u in
      (λ e. n.0 (c.0 e), λ b. c.1 (n.1 b))

  pub check_short : (set_check bytes ≡ refused SHORT w) ↔ EndsAt bytes w
  check_short =
      let c = set_check_from bytes SHORT w in
      let n = set_short_exactly bytes w u in
      (λ e. n.0 (c.0 e), λ b. c.1 (n.1 b))

  pub find_number : (id : ℕ) → (set_find bytes id ≡ refused NUMBER w) ↔ ((id ≤ max_id) × BrokenAt bytes w)
  find_number id =
      let c = set_find_from bytes NUMBER w id (omega arith) in
      let n = set_number_exactly bytes w u in
      (λ e. let d = c.0 e in (d.0, n.0 d.1), λ b. c.1 (b.0, n.1 b.1))

  pub find_short : (id : ℕ) → (set_find bytes id ≡ refused SHORT w) ↔ ((id ≤ max_id) × EndsAt bytes w)
  find_short id =
      let c = set_find_from bytes SHORT w id (omega arith) in
      let n = set_short_exactly bytes w u in
      (λ e. let d = c.0 e in (d.0, n.0 d.1), λ b. c.1 (b.0, n.1 b.1))

-- ---- all else is 13, with 0

module _ (bytes : List ℕ) (u : Below 256 bytes) where
  otherwise : (w : ℕ) → set_check bytes ≡ refused DAMAGED w → Otherwise bytes
  otherwise w e =
      record {
        no_list = λ n c. let f = sym (sets_accepted bytes n c) ∙ e in let z : ◌≡◌ {A = ℕ} 0 1 = cc in omega arith;
        not_broken = λ v b. let f = sym ((check_number bytes u v).1 b) ∙ e in let z : NUMBER ≡ DAMAGED = cc in omega arith;
        not_ended = λ v b. let f = sym ((check_short bytes u v).1 b) ∙ e in let z : SHORT ≡ DAMAGED = cc in omega arith;
      }

  with_0 : (w : ℕ) → Comes bytes DAMAGED w (Due bytes) → w ≡ 0
  with_0 w (no_number at d e) = none_of bytes at DAMAGED w e (λ z. absurd (omega arith)) (λ z. absurd (omega arith))
  with_0 w (damaged e z) = z

  else_damaged : Otherwise bytes → set_check bytes ≡ refused DAMAGED 0
  else_damaged h = go (set_check bytes) refl
    where
      by : (why w : ℕ) → set_check bytes ≡ refused why w → Comes bytes why w (Due bytes) → set_check bytes ≡ refused DAMAGED 0
      by why w e (damaged f z) = e ∙ ap₂ {C = Outcome ℕ} (λ (a b : ℕ). refused a b) f z
      by why w e (no_number at d f) =
          none_of bytes at why w f
          (λ q. absurd (h.not_ended w ((check_short bytes u w).0 (e ∙ ap {B = Outcome ℕ} (λ (a : ℕ). refused a w) q))))
          (λ q. absurd (h.not_broken w ((check_number bytes u w).0 (e ∙ ap {B = Outcome ℕ} (λ (a : ℕ). refused a w) q))))

      go : (o : Outcome ℕ) → set_check bytes ≡ o → set_check bytes ≡ refused DAMAGED 0
      go (done n) e = absurd (h.no_list n (accepts_sets bytes n u e))
      go (refused why w) e = by why w e (stops bytes why w u ((set_check_from bytes why w).0 e))

  pub check_damaged : (w : ℕ) → (set_check bytes ≡ refused DAMAGED w) ↔ ((w ≡ 0) × Otherwise bytes)
  check_damaged w = (
    λ e. (with_0 w (stops bytes DAMAGED w u ((set_check_from bytes DAMAGED w).0 e)), otherwise w e),
    λ s. else_damaged s.1 ∙ ap {B = Outcome ℕ} (λ (a : ℕ). refused DAMAGED a) (sym s.0),
  )

  pub find_damaged : (id w : ℕ) → (set_find bytes id ≡ refused DAMAGED w) ↔ ((id ≤ max_id) × (w ≡ 0) × Otherwise bytes)
  find_damaged id w =
      let c = set_find_from bytes DAMAGED w id (omega arith) in
      let d = set_check_from bytes DAMAGED w in
      let n = check_damaged w in (
        λ e. let x = c.0 e in let y = n.0 (d.1 x.1) in (x.0, y.0, y.1),
        λ s. c.1 (s.0, d.0 (n.1 (s.1, s.2))),
      )
