-- Runs of stores: in two parts, two that do not meet, from the front; and a loop that fills a buffer (`Fill`). Assumes nothing.
use Rattle.format.specs.Kit.{◌≡◌, refl, sym, ap, ◌∙◌, List, [], ◌∷◌, ◌++◌, append_assoc, ℕ, suc, ◌+◌, ◌-◌, ◌≤◌, ◌<◌, zero-add, arith, length, set, take}
use Rattle.format.specs.Kit.{drop, length-append, sets, sets-eq, set_comm, length-sets, put_mid, Post-is}
use Rattle.format.specs.Stores.{Fill}

-- ---- a run in two parts

pub sets_append : {A : Type 0} (l : List A) (i : ℕ) (xs ys : List A) → sets l i (xs ++ ys) ≡ sets (sets l i xs) (i + length xs) ys
sets_append l i [] ys = let e : i + 0 ≡ i = omega arith in rw e
sets_append l i (x ∷ xs) ys =
    let e : i + suc (length xs) ≡ suc i + length xs = omega arith in
    rw e (sets_append (set l i x) (suc i) xs ys)

-- the same with the seam known by an equation
pub sets_then : {A : Type 0} (l : List A) (i j : ℕ) (xs ys : List A) → i + length xs ≡ j → sets l i (xs ++ ys) ≡ sets (sets l i xs) j ys
sets_then l i j xs ys e = sets_append l i xs ys ∙ ap (λ (k : ℕ). sets (sets l i xs) k ys) e

-- ---- two runs that do not meet

set_sets : {A : Type 0} (l : List A) (i : ℕ) (x : A) (j : ℕ) (ys : List A) → i < j → sets (set l i x) j ys ≡ set (sets l j ys) i x
set_sets l i x j [] h = refl
set_sets {A} l i x j (y ∷ ys) h =
    ap (λ (m : List A). sets m (suc j) ys) (set_comm l i j x y (λ e. omega arith)) ∙ set_sets (set l j y) i x (suc j) ys (omega arith)

pub sets_comm : {A : Type 0} (l : List A) (i : ℕ) (xs : List A) (j : ℕ) (ys : List A) → i + length xs ≤ j
    → sets (sets l i xs) j ys ≡ sets (sets l j ys) i xs
sets_comm l i [] j ys h = refl
sets_comm {A} l i (x ∷ xs) j ys h =
    sets_comm (set l i x) (suc i) xs j ys (omega arith) ∙ ap (λ (m : List A). sets m (suc i) xs) (set_sets l i x j ys (omega arith))

-- ---- from the front: what is stored, and then the rest as it was

pub sets_front : {A : Type 0} (l xs : List A) → length xs ≤ length l → sets l 0 xs ≡ xs ++ drop (length xs) l
sets_front l xs h = sets-eq xs l 0 (omega arith) ∙ ap (λ (n : ℕ). xs ++ drop n l) (zero-add (length xs))

-- ---- a part that was lent, and is put back

pub part_put : {A : Type 0} (l part : List A) (at end : ℕ) → end ≡ at + length part → end ≤ length l → put_mid at (end - at) l part ≡ sets l at part
part_put {A} l part at end e h =
    ap (λ (rest : List A). take at l ++ (part ++ rest)) (Post-is at end l (omega arith) ∙ ap (λ (k : ℕ). drop k l) e)
    ∙ sym (append_assoc (take at l) part (drop (at + length part) l))
    ∙ sym (sets-eq part l at (omega arith))

-- ---- a loop that fills a buffer: what is still to be stored from place i on gives what the whole gives from the first place on

pub begun : {A : Type 0} (d : List A) (at : ℕ) (whole rest : List A) → whole ≡ rest → Fill d at whole d at rest
begun d at whole rest e = record { same = ap (sets d at) (sym e); next = ap (λ (xs : List _). at + length xs) (sym e); kept = refl }

module _ {A : Type 0} (d : List A) (at : ℕ) (whole l : List A) (i : ℕ) (rest : List A) (f : Fill d at whole l i rest) where
  -- a part more
  pub part_more : (m : List A) (j : ℕ) (xs more : List A) → rest ≡ xs ++ more → m ≡ sets l i xs → j ≡ i + length xs → Fill d at whole m j more
  part_more m j xs more e a b =
      record {
        same = cc (sets_append l i xs more);
        next = omega (arith, f.next, ap length e, length-append xs more);
        kept = ap length a ∙ length-sets l i xs ∙ f.kept;
      }

  -- one more
  pub one_more : (x : A) (more : List A) → rest ≡ x ∷ more → Fill d at whole (set l i x) (i + 1) more
  one_more x more e = part_more (set l i x) (i + 1) (x ∷ []) more e refl refl

  -- there is room for one more, and for a part more
  pub room : (xs more : List A) → rest ≡ xs ++ more → at + length whole ≤ length d → i + length xs ≤ length l
  room xs more e h = omega (arith, f.next, ap length e, length-append xs more, f.kept)

  -- nothing is left
  pub filled : rest ≡ [] → l ≡ sets d at whole
  filled e = ap (sets l i) (sym e) ∙ f.same

  pub reached : rest ≡ [] → i ≡ at + length whole
  reached e = omega (arith, f.next, ap length e)
