-- What the check accepts is the column of the list that the reading gives, and of no other. Assumes nothing.
use Rattle.format.specs.Kit.{◌≡◌, refl, sym, ap, ap₂, ◌∙◌, subst, Bool, true, false, List, [], ◌∷◌, Option, none, some, bind-eq-some_iff}
use Rattle.format.specs.Kit.{map-eq-some_iff, Option·some-injective, ℕ, zero, suc, zero-le, arith, eqb, leb, ltb, ℤ, length, leb-true, eqb-true}
use Rattle.format.specs.Kit.{ltb-true}
use Rattle.format.specs.Limits.{max_id}
use Rattle.format.specs.Refusals.{Outcome, done, refused, and_then, need, given, DAMAGED}
use Rattle.format.specs.Bytes.{same}
use Rattle.format.specs.Pairs.{Pairs, Below, Asc, Each, Fits}
use Rattle.format.specs.Valid.{Valid}
use Rattle.format.specs.Editions.{Edition, Knows, codec}
use Rattle.format.specs.Column.{Head, column, head_of}
use Rattle.format.specs.Writer.{not_above, order_fault, range_fault, write_if, write_as}
use Rattle.format.specs.Opening.{Opened, open_column, value_part, value_in}
use Rattle.format.specs.Says.{Within}
use Rattle.format.specs.Check.{all_values, pairs_in, is_done, is_column, accepted}
use Rattle.laws.proofs.Tests.{result, needed, needed_none, given_some, passed, both_true}
use Rattle.laws.proofs.Open.{opened_ok}
use Rattle.laws.proofs.Lawful.{Lawful, LawfulReader}
use Rattle.laws.proofs.RoundTrip.{the_head, the_column, opened, pairs_back}
use Rattle.laws.proofs.Cases.{true_or}

pub same_eq : (l m : List ℕ) → same l m ≡ true → l ≡ m
unfolding same
same_eq [] [] e = refl
same_eq [] (y ∷ ys) e = absurd (let z : ◌≡◌ {A = ℕ} 0 1 = cc in omega arith)
same_eq (x ∷ xs) [] e = absurd (let z : ◌≡◌ {A = ℕ} 0 1 = cc in omega arith)
same_eq (x ∷ xs) (y ∷ ys) e =
    let b : (eqb x y ≡ true) × (same xs ys ≡ true) = both_true (eqb x y) (same xs ys) e in
    ap₂ {C = List ℕ} (λ (a : ℕ) (l : List ℕ). a ∷ l) (eqb-true x y b.0) (same_eq xs ys b.1)

order_asc : (i a : ℕ) (ids : List ℕ) → not_above i a ids ≡ none → Asc (suc a) ids
unfolding not_above
order_asc i a [] e = tt
order_asc i a (x ∷ xs) e =
    true_or (ltb a x)
    (λ h. (ltb-true a x h, order_asc (suc i) x xs (rw h at e)))
    (λ h. absurd (let z : ◌≡◌ {A = ℕ} 0 1 = cc (rw h at e) in omega arith))

pub ordered : (ids : List ℕ) → order_fault ids ≡ none → Asc 0 ids
unfolding order_fault
ordered [] e = tt
ordered (x ∷ xs) e = (zero-le, order_asc 1 x xs e)

pub ranged : (i : ℕ) (ids : List ℕ) → range_fault i ids ≡ none → Below 2147352576 ids
unfolding range_fault
ranged i [] e = tt
ranged i (x ∷ xs) e =
    true_or (leb x max_id)
    (λ h. (omega (arith, leb-true x max_id h), ranged (suc i) xs (rw h at e)))
    (λ h. absurd (let z : ◌≡◌ {A = ℕ} 0 1 = cc (rw h at e) in omega arith))

-- values that are all there fit, if each that is there does
fitting : (n : ℕ) (f : ℕ → Option ℤ) (vs : List ℤ) → ((i : ℕ) (v : ℤ) → f i ≡ some v → Fits v) → all_values n f ≡ some vs → Each Fits vs
unfolding all_values bind-eq-some_iff
fitting zero f vs fits e = subst (Each Fits) (Option·some-injective [] vs e) tt
fitting (suc n) f vs fits e =
    let s = (bind-eq-some_iff (f 0) _).0 e in
    let t = (map-eq-some_iff _ (all_values n (λ i. f (suc i)))).0 s.2 in
    subst (Each Fits) t.2 (fits 0 s.0 s.1, fitting n (λ i. f (suc i)) t.0 (λ i v. fits (suc i) v) t.1)

-- what is read of opened bytes fits
read_fits : (bytes : List ℕ) (c : Opened) (q : Pairs) → Lawful (codec c.head.edition) → pairs_in bytes c ≡ some q → Each Fits q.values
unfolding pairs_in value_in
read_fits bytes c q law e =
    let s = (map-eq-some_iff _ _).0 e in
    subst (λ (q : Pairs). Each Fits q.values) s.2
    (fitting _ (value_in c.head (value_part bytes c)) s.0 (law.fit c.head.count c.head.fields (value_part bytes c)) s.1)

is_done_lem : (o : Outcome (List ℕ)) (bytes : List ℕ) → is_done o bytes ≡ true → o ≡ done bytes
unfolding is_done
is_done_lem (done out) bytes e = ap {B = Outcome (List ℕ)} (λ (l : List ℕ). done l) (same_eq out bytes e)
is_done_lem (refused why w) bytes e = absurd (let z : ◌≡◌ {A = ℕ} 0 1 = cc in omega arith)

-- the writer takes nothing else
pub record Taken (ed : Edition) (p : ℕ) (ids : List ℕ) (vs : List ℤ) (out : List ℕ) : Type 0 where
  pub lengths : length ids ≡ length vs
  pub limits : Within p ids
  pub taken : (codec ed).takes vs ≡ true
  pub same_bytes : column ed p ids vs ≡ out

pub written_taken : (ed : Edition) (p : ℕ) (ids : List ℕ) (vs : List ℤ) (room : ℕ) (out : List ℕ) → write_as ed p ids vs room ≡ done out → Taken ed p ids vs out
unfolding write_as write_if
written_taken ed p ids vs room out e =
    let s1 = needed _ _ _ _ out e in
    let s2 = needed _ _ _ _ out s1.1 in
    let s3 = needed_none _ _ _ out s2.1 in
    let s4 = needed_none _ _ _ out s3.1 in
    let s5 = needed _ _ _ _ out s4.1 in
    let s6 = needed _ _ _ _ out s5.1 in
    record {
      lengths = eqb-true (length ids) (length vs) s1.0;
      limits = record { power = s2.0; ascending = ordered ids s3.0; range = ranged 0 ids s4.0 };
      taken = s5.0;
      same_bytes = ap (result []) s6.1;
    }

-- of signed 64-bit values
pub written_valid : (ed : Edition) (p : ℕ) (ids : List ℕ) (vs : List ℤ) (room : ℕ) (out : List ℕ) → Each Fits vs
    → write_as ed p ids vs room ≡ done out → Valid ed p ids vs × (column ed p ids vs ≡ out)
written_valid ed p ids vs room out fit e =
    let t = written_taken ed p ids vs room out e in (
      record {
        lengths = t.lengths;
        power = t.limits.power;
        ascending = t.limits.ascending;
        range = t.limits.range;
        fit = fit;
        taken = t.taken;
      },
      t.same_bytes,
    )

-- a column of the edition and the power that a header has
abbrev pub IsColumn : List ℕ → Head → Pairs → Type 0
IsColumn bytes h q = Valid h.edition h.power q.ids q.values × (column h.edition h.power q.ids q.values ≡ bytes)

-- what is accepted is the column of what is read
pub accepted_is : (bytes : List ℕ) (c : Opened) (q : Pairs) → Lawful (codec c.head.edition) → accepted bytes c ≡ done q → IsColumn bytes c.head q
unfolding accepted is_column
accepted_is bytes c q law e =
    let s = passed _ _ q e in
    let n = needed _ _ _ _ q s.2 in
    subst (IsColumn bytes c.head) (ap (result q) n.1)
    (written_valid c.head.edition c.head.power s.0.ids s.0.values (length bytes) bytes
    (read_fits bytes c s.0 law (given_some _ _ _ _ s.1))
    (is_done_lem _ bytes n.0))

-- ---- nothing but DAMAGED refuses opened bytes

-- no refusal but this one, with 0
abbrev pub OnlyBy : {A : Type 0} → ℕ → Outcome A → Type 0
OnlyBy why (done a) = Unit {0}
OnlyBy why (refused x y) = (x ≡ why) × (y ≡ 0)

pub accepted_only : (bytes : List ℕ) (c : Opened) → OnlyBy DAMAGED (accepted bytes c)
unfolding accepted and_then given need
accepted_only bytes c = by_pairs (pairs_in bytes c)
  where
    by_test : (t : Bool) (q : Pairs) → OnlyBy DAMAGED (need t DAMAGED 0 (done q))
    by_test true q = tt
    by_test false q = (refl, refl)

    by_pairs : (o : Option Pairs)
        → OnlyBy DAMAGED (and_then (given o DAMAGED 0) (λ q. need (is_column bytes c.head.edition c.head.power q) DAMAGED 0 (done q)))
    by_pairs none = (refl, refl)
    by_pairs (some q) = by_test (is_column bytes c.head.edition c.head.power q) q

-- ---- there is just one list

-- a column's bytes are opened as that column is
pub opened_as_lem : (known : List Edition) (bytes : List ℕ) (c : Opened) (ed : Edition) → Lawful (codec ed) → Knows known ed → (p : ℕ) (ids : List ℕ) (vs : List ℤ)
    → Valid ed p ids vs → open_column known bytes ≡ done c → column ed p ids vs ≡ bytes → the_column ed p ids vs ≡ c
opened_as_lem known bytes c ed law k p ids vs ok o e = ap (result c) (sym (opened ed law p ids vs ok known k) ∙ ap (open_column known) e ∙ o)

-- what a lawful reader opens and accepts is the column of what it reads, opened as that column is, with its count
pub record IsRead (bytes : List ℕ) (c : Opened) (q : Pairs) : Type 0 where
  pub law : Lawful (codec c.head.edition)
  pub valid : Valid c.head.edition c.head.power q.ids q.values
  pub bytes_are : column c.head.edition c.head.power q.ids q.values ≡ bytes
  pub opened_is : the_column c.head.edition c.head.power q.ids q.values ≡ c
  pub count : length q.ids ≡ c.head.count

pub is_read : (known : List Edition) → LawfulReader known → (bytes : List ℕ) (c : Opened) (q : Pairs)
    → open_column known bytes ≡ done c → accepted bytes c ≡ done q → IsRead bytes c q
unfolding the_column head_of the_head
is_read known laws bytes c q o a =
    let k = (opened_ok known bytes c o).knows in
    let law = laws c.head.edition k in
    let s = accepted_is bytes c q law a in
    let same = opened_as_lem known bytes c c.head.edition law k c.head.power q.ids q.values s.0 o s.1 in
    record { law = law; valid = s.0; bytes_are = s.1; opened_is = same; count = ap (λ (c : Opened). c.head.count) same }

-- two lists whose columns are the same bytes, for a lawful reader of both editions
module _ (known : List Edition) (laws : LawfulReader known) (ed ed' : Edition) (k : Knows known ed) (k' : Knows known ed') (p p' : ℕ) (ids ids' : List ℕ)
    (vs vs' : List ℤ) (ok : Valid ed p ids vs) (ok' : Valid ed' p' ids' vs') (e : column ed p ids vs ≡ column ed' p' ids' vs') where
  pub same_opened : the_column ed p ids vs ≡ the_column ed' p' ids' vs'
  same_opened = opened_as_lem known _ _ ed (laws ed k) k p ids vs ok (opened ed' (laws ed' k') p' ids' vs' ok' known k') e

  pub same_pairs : ◌≡◌ {A = Pairs} (record { ids = ids; values = vs }) (record { ids = ids'; values = vs' })
  same_pairs = cc (pairs_back ed (laws ed k) p ids vs ok, same_opened, pairs_back ed' (laws ed' k') p' ids' vs' ok')
