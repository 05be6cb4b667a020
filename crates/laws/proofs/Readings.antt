-- On accepted columns: calls one after the other, each from the last id + 1 on, give the whole list. Assumes nothing.
use Rattle.format.specs.Kit.{◌≡◌, sym, ap, ◌∙◌, List, [], ◌∷◌, ◌++◌, append-nil, ℕ, zero, suc, ◌+◌, ◌-◌, ◌≤◌, ◌<◌, arith}
use Rattle.format.specs.Kit.{length, get_or, take, drop, take_all, drop-drop, take-append-drop, drop_of_length-le, length-drop, length-take-le, get_or-take}
use Rattle.format.specs.Kit.{get_or-drop}
use Rattle.format.specs.Kit.{le-leb, lt-leb, lt-ltb}
use Rattle.format.specs.Limits.{max_id}
use Rattle.format.specs.Refusals.{done}
use Rattle.format.specs.Ids.{count_below}
use Rattle.format.specs.Editions.{Edition, editions}
use Rattle.format.specs.Pairs.{Pairs, Asc, Below}
use Rattle.format.specs.Opening.{Opened, open_column}
use Rattle.format.specs.Check.{accepted, check}
use Rattle.laws.proofs.Cases.{below_or}
use Rattle.laws.proofs.Places.{asc_from_lem}
use Rattle.laws.proofs.Place.{count_higher}
use Rattle.laws.proofs.Ones.{count_zero}
use Rattle.laws.proofs.Lawful.{LawfulReader}
use Rattle.laws.proofs.Editions.{lawful_reader}
use Rattle.laws.proofs.Unique.{is_read}
use Rattle.laws.proofs.Demands.{checked_answers}
use Rattle.format.specs.ReadFrom.{pairs_from, last_of, readings_from, list_readout}
use Rattle.laws.proofs.ReadFrom.{in_range, accepted_steps}

-- ---- the list

-- after the id of index i there are i + 1 ids below
below_after : (a i : ℕ) (xs : List ℕ) → Asc a xs → i < length xs → count_below (suc (get_or xs i 0)) xs ≡ suc i
unfolding count_below
below_after a i [] t h = absurd (omega arith)
below_after a zero (x ∷ xs) t h = rw (lt-ltb x (suc x) (omega arith), count_higher (suc x) (suc x) xs (omega arith) t.1)
below_after a (suc i) (x ∷ xs) t h =
    let l : suc x ≤ get_or xs i 0 = omega (arith, asc_from_lem (suc x) xs i t.1 (omega arith)) in
    rw (lt-ltb x (suc (get_or xs i 0)) (omega arith), below_after (suc x) i xs t.1 (omega arith)) (omega arith)

-- the last of k from index j on
last_of_lem : (k j : ℕ) (xs : List ℕ) → 0 < k → j + k < length xs → last_of (take k (drop j xs)) ≡ get_or xs (j + k - 1) 0
last_of_lem k j xs h l =
    let n : length (take k (drop j xs)) ≡ k = length-take-le k (drop j xs) (omega (arith, length-drop j xs)) in
    let e : j + (k - 1) ≡ j + k - 1 = omega arith in
    rw n (get_or-take k (drop j xs) (k - 1) 0 (omega arith) ∙ get_or-drop j xs (k - 1) 0 ∙ ap (λ (i : ℕ). get_or xs i 0) e)

in_parts : {A : Type 0} (k j : ℕ) (xs : List A) → take k (drop j xs) ++ drop (j + k) xs ≡ drop j xs
in_parts k j xs = ap (λ l. take k (drop j xs) ++ l) (sym (drop-drop k j xs)) ∙ take-append-drop k (drop j xs)

-- ---- the calls

module _ (bytes : List ℕ) (c : Opened) (q : Pairs) (pairs : length q.ids ≡ length q.values) (asc : Asc 0 q.ids) (lim : Below (suc max_id) q.ids)
    (listed : (k t : ℕ) → t ≤ suc max_id → pairs_from k bytes c t ≡ list_readout q k t) (k : ℕ) (some : 0 < k) where
  abbrev left : ℕ → Pairs
  left j = record { ids = drop j q.ids; values = drop j q.values }

  same : (f t j : ℕ) → t ≤ suc max_id → count_below t q.ids ≡ j → length q.ids ≤ j + f → readings_from f k bytes c t ≡ left j
  unfolding readings_from list_readout
  same zero t j h e l = rw (drop_of_length-le q.ids {i = j} (omega arith), drop_of_length-le q.values {i = j} (omega arith))
  same (suc f) t j h e l =
      below_or (j + k) (length q.ids)
      (λ m.
      let i : j + k - 1 < length q.ids = omega arith in
      let x : ℕ = get_or q.ids (j + k - 1) 0 in
      let s : suc (j + k - 1) ≡ j + k = omega arith in
      let more = same f (suc x) (j + k) (in_range (suc max_id) (j + k - 1) q.ids lim i) (below_after 0 (j + k - 1) q.ids asc i ∙ s) (omega arith) in
      rw (listed k t h, e, lt-leb (length q.ids) (j + k) m, last_of_lem k j q.ids some m, more, in_parts k j q.ids, in_parts k j q.values))
      (λ m.
      rw (
        listed k t h,
        e,
        le-leb (length q.ids) (j + k) m,
        take_all k (drop j q.ids) (omega (arith, length-drop j q.ids)),
        take_all k (drop j q.values) (omega (arith, length-drop j q.values)),
        append-nil (drop j q.ids),
        append-nil (drop j q.values),
      ))

-- ---- accepted columns

module _ (known : List Edition) (laws : LawfulReader known) (bytes : List ℕ) (c : Opened) (q : Pairs) (o : open_column known bytes ≡ done c)
    (a : accepted bytes c ≡ done q) where
  -- as many calls as there are pairs are enough
  pub accepted_readings : (f k : ℕ) → 0 < k → length q.ids ≤ f → readings_from f k bytes c 0 ≡ q
  accepted_readings f k h l =
      let v = (is_read known laws bytes c q o a).valid in
      same bytes c q v.lengths v.ascending v.range (accepted_steps known laws bytes c q o a) k h f 0 0 (omega arith) (count_zero q.ids)
      (omega arith)

-- of bytes that the check accepts, and the list that they hold
pub checked_readings : (bytes : List ℕ) (n : ℕ) (e : check editions bytes ≡ done n) (f k : ℕ) → 0 < k
    → let h = checked_answers editions (lawful_reader editions) bytes n e in
    length h.pairs.ids ≤ f → readings_from f k bytes h.opened 0 ≡ h.pairs
checked_readings bytes n e =
    let h = checked_answers editions (lawful_reader editions) bytes n e in
    accepted_readings editions (lawful_reader editions) bytes h.opened h.pairs h.is_opened h.is_accepted
