-- A value put among entries that ascend, at its place: those from there on move up by one; and so the distinct values. Assumes nothing.
use Rattle.std.specs.List.{copy_within}
use Rattle.std.proofs.lemmas.List.{take_more, drop-take}
use Rattle.std.proofs.lemmas.List.Edits.{take-paste}
use Rattle.std.proofs.Math.Seq.{take-set-lt, set-append_seam}
use Rattle.format.specs.Kit.{◌≡◌, refl, sym, ap, ◌∙◌, subst, true, false, List, [], ◌∷◌, ◌++◌, append_assoc, ℕ, suc, ◌+◌, ◌-◌, ◌<◌, ◌≤◌, add-one, arith}
use Rattle.format.specs.Kit.{ℤ, pos, lt_z, length, get_or, take, drop, set, length-take-le, drop-cons}
use Rattle.format.specs.Kit.{drop_of_length-le, length-append, length-drop, take-take}
use Rattle.format.specs.Table.{insert, insert_all, table_of, code_in, ascends}
use Rattle.laws.proofs.Ascending.{order_or, lt_not, lt_irrefl, insert_ascends}
use Rattle.laws.proofs.Cases.{true_or, below_or}
use Rattle.tables.specs.Holds.{Stands, Holds}

-- ---- entries that move up

-- the entries from k on move up by one, and v is stored at k
pub moved_up : (t : List ℤ) (n k : ℕ) (v : ℤ) → k ≤ n → n < length t
    → take (n + 1) (set (copy_within t k n (k + 1)) k v) ≡ take k t ++ (v ∷ drop k (take n t))
moved_up t n k v h room =
    let x : ℤ = get_or t k (pos 0) in
    let after : List ℤ = copy_within t k n (k + 1) in
    let all : n + 1 ≡ k + 1 + (n - k) = omega arith in
    let same : k + (n - k) ≡ n = omega arith in
    let rest : drop k (take n t) ≡ take (n - k) (drop k t) = ap (λ (m : ℕ). drop k (take m t)) (sym same) ∙ drop-take k (n - k) t in
    let head : take (k + 1) t ≡ take k t ++ (x ∷ []) = take_more t k (pos 0) (omega arith) in
    let stands : take (n + 1) after ≡ take k t ++ (x ∷ drop k (take n t)) =
    ap (λ (m : ℕ). take m after) all
    ∙ take-paste t (k + 1) (drop k t) (n - k) (omega arith) (omega (arith, length-drop k t))
    ∙ ap (λ (l : List ℤ). l ++ take (n - k) (drop k t)) head
    ∙ append_assoc (take k t) (x ∷ []) (take (n - k) (drop k t))
    ∙ ap (λ (l : List ℤ). take k t ++ (x ∷ l)) (sym rest) in
    take-set-lt (n + 1) after k v (omega arith)
    ∙ ap (λ (l : List ℤ). set l k v) stands
    ∙ ap (λ (m : ℕ). set (take k t ++ (x ∷ drop k (take n t))) m v) (sym (length-take-le k t (omega arith)))
    ∙ set-append_seam (take k t) x (drop k (take n t)) v

-- ---- put in at its place

-- it is there: nothing changes
pub insert_there : (us : List ℤ) (v : ℤ) → Stands us (code_in us v) v → insert v us ≡ us
unfolding insert code_in
insert_there [] v s = absurd (omega (arith, s.0))
insert_there (u ∷ us) v s =
    true_or (lt_z u v)
    (λ h.
    let t : Stands (u ∷ us) (suc (code_in us v)) v = rw h at s in
    rw h (ap {B = List ℤ} (λ (l : List ℤ). u ∷ l) (insert_there us v (omega (arith, t.0), t.1))))
    (λ h.
    let t : Stands (u ∷ us) 0 v = rw h at s in
    rw (h, subst (λ (z : ℤ). lt_z z u ≡ false) t.1 (lt_irrefl u)))

-- else it stands before the entries that are not below it
pub insert_new : (us : List ℤ) (v : ℤ) → (Stands us (code_in us v) v → ⊥) → insert v us ≡ take (code_in us v) us ++ (v ∷ drop (code_in us v) us)
unfolding insert code_in
insert_new [] v s = refl
insert_new (u ∷ us) v s =
    order_or u v
    (λ h.
    let t : Stands (u ∷ us) (suc (code_in us v)) v → ⊥ = rw h at s in
    rw h (ap {B = List ℤ} (λ (l : List ℤ). u ∷ l) (insert_new us v (λ x. t (omega (arith, x.0), x.1)))))
    (λ h. absurd (s (rw (subst (λ (z : ℤ). lt_z u z ≡ false) h (lt_irrefl u)) (omega arith, h))))
    (λ h. rw (lt_not v u h, h))

-- ---- lengths

pub insert_grows : (v : ℤ) (us : List ℤ) → length us ≤ length (insert v us)
unfolding insert
insert_grows v [] = omega arith
insert_grows v (u ∷ us) =
    true_or (lt_z u v)
    (λ h. rw h (omega (arith, insert_grows v us)))
    (λ h. true_or (lt_z v u) (λ k. rw (h, k) (omega arith)) (λ k. rw (h, k) (omega arith)))

pub all_grows : (us vs : List ℤ) → length us ≤ length (insert_all us vs)
unfolding insert_all
all_grows us [] = omega arith
all_grows us (v ∷ vs) = omega (arith, insert_grows v us, all_grows (insert v us) vs)

-- ---- the first n entries, with one value more

module _ (t : List ℤ) (n k : ℕ) (v : ℤ) (fits : n ≤ length t) (at : k ≡ code_in (take n t) v) (most : k ≤ length (take n t)) where
  us : List ℤ
  us = take n t

  count : length us ≡ n
  unfolding us
  count = length-take-le n t fits

  -- it was there
  pub was_there : Stands (take n t) k v → Holds (length t) (insert v (take n t)) n t
  unfolding us
  was_there s =
      let same : insert v us ≡ us = insert_there us v (subst (λ (j : ℕ). Stands us j v) at s) in
      record { size = refl; few = λ h. (sym count ∙ ap length (sym same), sym same); many = λ h. absurd (omega (arith, ap length same, count)) }

  new : (Stands (take n t) k v → ⊥) → insert v (take n t) ≡ take k (take n t) ++ (v ∷ drop k (take n t))
  unfolding us
  new s =
      insert_new us v (λ x. s (subst (λ (j : ℕ). Stands us j v) (sym at) x)) ∙ ap (λ (j : ℕ). take j us ++ (v ∷ drop j us)) (sym at)

  one_more : (Stands (take n t) k v → ⊥) → length (insert v (take n t)) ≡ n + 1
  unfolding us
  one_more s =
      let e = ap length (new s) ∙ length-append (take k us) (v ∷ drop k us) in
      omega (arith, e, length-take-le k us most, length-drop k us, count)

  -- there is no room for it
  pub no_room : (Stands (take n t) k v → ⊥) → n ≡ length t → Holds (length t) (insert v (take n t)) (n + 1) t
  no_room s e = record { size = refl; few = λ h. absurd (omega (arith, one_more s)); many = λ h. omega arith }

  -- it is put in
  pub now_there : (t' : List ℤ) → length t' ≡ length t → (Stands (take n t) k v → ⊥) → n < length t
      → take (n + 1) t' ≡ take k t ++ (v ∷ drop k (take n t)) → Holds (length t) (insert v (take n t)) (n + 1) t'
  now_there t' l s h e =
      record {
        size = l;
        few = λ j. (
          sym (one_more s),
          e ∙ ap (λ (x : List ℤ). x ++ (v ∷ drop k (take n t)))
              (sym (take-take k n t (omega (arith, most, length-take-le n t fits)))) ∙ sym (new s),
        );
        many = λ j. absurd (omega (arith, one_more s));
      }

-- ---- all values, one after the other

-- the first n entries ascend, and with the values from i on they are the table of all
pub record Gathered (room : ℕ) (vs t : List ℤ) (n i : ℕ) : Type 0 where
  pub size : length t ≡ room
  pub fits : n ≤ room
  pub up : ascends (take n t) ≡ true
  pub all : insert_all (take n t) (drop i vs) ≡ table_of vs
  pub inside : i ≤ length vs

pub gathered_none : (t vs : List ℤ) → Gathered (length t) vs t 0 0
unfolding table_of ascends
gathered_none t vs = record { size = refl; fits = omega arith; up = refl; all = refl; inside = omega arith }

module _ {room : ℕ} {vs t : List ℤ} {n i : ℕ} (g : Gathered room vs t n i) (v : ℤ) (more : i < length vs) (is : get_or vs i (pos 0) ≡ v)
    (t' : List ℤ) (r : ℕ) (h : Holds room (insert v (take n t)) r t') where
  step : insert_all (insert v (take n t)) (drop (i + 1) vs) ≡ table_of vs
  unfolding insert_all
  step =
      rw add-one (sym (ap (insert_all (take n t)) (drop-cons vs i (pos 0) more ∙ ap {B = List ℤ} (λ (x : ℤ). x ∷ drop (suc i) vs) is)) ∙ g.all)

  pub gathered_many : room < r → Holds room (table_of vs) r t'
  gathered_many l =
      below_or room (length (insert v (take n t)))
      (λ k.
      let long = omega_le step (all_grows (insert v (take n t)) (drop (i + 1) vs)) in
      record { size = h.size; few = λ j. absurd (omega (arith, long)); many = λ j. h.many k })
      (λ k. absurd (omega (arith, (h.few k).0)))
    where
      omega_le : {l m : List ℤ} {x : ℕ} → l ≡ m → x ≤ length l → x ≤ length m
      omega_le e k = rw (← e) k

  pub gathered_more : r ≤ room → Gathered room vs t' r (i + 1)
  gathered_more l =
      below_or room (length (insert v (take n t)))
      (λ k. absurd (omega (arith, h.many k)))
      (λ k.
      let same = (h.few k).1 in
      record {
        size = h.size;
        fits = l;
        up = rw same (insert_ascends v (take n t) g.up);
        all = rw same step;
        inside = omega arith;
      })

pub gathered_end : {room : ℕ} {vs t : List ℤ} {n i : ℕ} → Gathered room vs t n i → length vs ≤ i → Holds room (table_of vs) n t
unfolding insert_all
gathered_end {room} {vs} {t} {n} {i} g l =
    let none_left : drop i vs ≡ [] = drop_of_length-le vs l in
    let same : take n t ≡ table_of vs = ap (insert_all (take n t)) (sym none_left) ∙ g.all in
    let count : length (take n t) ≡ n = length-take-le n t (omega (arith, g.size, g.fits)) in
    record {
      size = g.size;
      few = λ h. (sym count ∙ ap length same, same);
      many = λ h. absurd (omega (arith, ap length same, count, g.fits));
    }
