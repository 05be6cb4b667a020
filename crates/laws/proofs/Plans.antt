-- Document 02, [12]: what the small check and the planner mean. A table that the check takes is the values' own; the planner proposes it, and plain
-- where there is none; shorter by the bytes that the values decide is shorter by the whole column; the check can be made from the table and n.
-- Assumes nothing.
use Rattle.format.specs.Kit.{◌≡◌, refl, sym, ap, ◌∙◌, subst, true, false, List, [], ◌∷◌, ℕ, ◌+◌, arith}
use Rattle.format.specs.Kit.{◌≤◌, leb, ltb, ℤ, length, length-append, le-leb, lt-ltb, ltb-true, le-ltb, ltb-false}
use Rattle.format.specs.Limits.{max_count}
use Rattle.format.specs.Refusals.{done}
use Rattle.format.specs.Bytes.{bytes_of}
use Rattle.format.specs.HeaderNumbers.{number, groups}
use Rattle.format.specs.Bits.{packed_bytes}
use Rattle.format.specs.Values.{stored}
use Rattle.format.specs.Ids.{id_section, jumps}
use Rattle.format.specs.Pairs.{Each, Fits}
use Rattle.format.specs.Codec.{Codec, scaled, width_by}
use Rattle.format.specs.Editions.{Edition, plain, table, number_of, high_first, codec}
use Rattle.format.specs.Column.{head_of, head_numbers, column}
use Rattle.format.specs.Table.{table_of, table_fields, table_bytes, all_in, value_share, shorter, table_ok, tabled}
use Rattle.format.specs.Plan.{plan_ok, plan_of, planned, plan_edition, chosen}
use Rattle.format.specs.Writer.{write_if, write_as, write_planned}
use Rattle.laws.proofs.Bits.{length_packed}
use Rattle.laws.proofs.Values.{length_stored}
use Rattle.laws.proofs.Ascending.{all_each, table_is}
use Rattle.laws.proofs.SameMembers.{each_in, in_each, same_fields}
use Rattle.laws.proofs.Table.{table_facts, length_section}
use Rattle.laws.proofs.Cases.{true_or}
use Rattle.laws.proofs.Tests.{needed, needed_none}

-- ---- one table for a list of values

-- a table that the small check takes is that of the distinct values, ascending
pub taken_table : (other : Codec) (us vs : List ℤ) → table_ok other us vs ≡ true → us ≡ table_of vs
taken_table other us vs e = let f = table_facts other us vs e in table_is us vs f.up f.holds f.used

-- the planner proposes a table wherever the check takes one,
pub proposes : (us vs : List ℤ) → table_ok (codec plain) us vs ≡ true → plan_of vs ≡ us
unfolding plan_of
proposes us vs e =
    let t = taken_table (codec plain) us vs e in
    rw (subst (λ (l : List ℤ). table_ok (codec plain) l vs ≡ true) t e) (sym t)

-- else plain,
pub proposes_plain : (vs : List ℤ) → ((us : List ℤ) → table_ok (codec plain) us vs ≡ false) → plan_of vs ≡ []
unfolding plan_of
proposes_plain vs f = rw (f (table_of vs))

-- and what it proposes passes
pub plan_passes : (vs : List ℤ) → plan_ok (plan_of vs) vs ≡ true
unfolding plan_of plan_ok
plan_passes vs = true_or (table_ok (codec plain) (table_of vs) vs) (λ e. rw e (by (table_of vs) e)) (λ e. rw e refl)
  where
    by : (us : List ℤ) → table_ok (codec plain) us vs ≡ true → plan_ok us vs ≡ true
    by [] e = refl
    by (u ∷ us) e = e

-- the call's plan is the planner's, for as many values as a column can hold,
pub planned_is : (vs : List ℤ) → length vs ≤ max_count → planned vs ≡ plan_of vs
unfolding planned
planned_is vs few = rw (le-leb (length vs) max_count few)

-- and passes whatever their number
pub planned_passes : (vs : List ℤ) → plan_ok (planned vs) vs ≡ true
unfolding planned plan_ok
planned_passes vs = true_or (leb (length vs) max_count) (λ e. rw e (plan_passes vs)) (λ e. rw e refl)

-- an accepted plan gives an edition that takes the values
pub plan_takes : (us vs : List ℤ) → plan_ok us vs ≡ true → (codec (plan_edition us)).takes vs ≡ true
unfolding plan_ok plan_edition codec scaled tabled
plan_takes [] vs e = refl
plan_takes (u ∷ us) vs e = subst (λ (l : List ℤ). table_ok (codec plain) l vs ≡ true) (taken_table (codec plain) (u ∷ us) vs e) e

-- and its values are signed 64-bit numbers, if the entries are
pub taken_fit : (us vs : List ℤ) → table_ok (codec plain) us vs ≡ true → Each Fits us → Each Fits vs
taken_fit us vs e fit =
    let f = table_facts (codec plain) us vs e in
    in_each Fits vs (λ x m. each_in Fits us fit x (all_each us vs f.holds x m))

-- ---- shorter is shorter by the whole column

-- what the ids decide of a column's length, the same in each edition
id_share : ℕ → List ℕ → ℕ
id_share p ids =
    length (bytes_of number (length ids ∷ p ∷ length (id_section p ids) ∷ length (jumps p ids) ∷ [])) + length (id_section p ids)

column_length : (ed : Edition) (p : ℕ) (ids : List ℕ) (vs : List ℤ)
    → length (column ed p ids vs) ≡ length (number (number_of ed)) + id_share p ids + value_share ((codec ed).fields vs) (length ((codec ed).section vs))
unfolding column head_of head_numbers bytes_of id_share value_share
column_length ed p ids vs = simp length-append (omega arith)

pub shorter_column : (p : ℕ) (ids : List ℕ) (vs : List ℤ)
    → shorter (codec plain) (table_of vs) vs ≡ ltb (length (column table p ids vs)) (length (column plain p ids vs))
unfolding shorter codec tabled number_of number groups
shorter_column p ids vs =
    let t = column_length table p ids vs in
    let q = column_length plain p ids vs in
    rw (t, q) (same_test _ _ (1 + id_share p ids))
  where
    same_test : (a b k : ℕ) → ltb a b ≡ ltb (k + a) (k + b)
    same_test a b k =
        true_or (ltb a b)
        (λ e. e ∙ sym (lt-ltb (k + a) (k + b) (omega (arith, ltb-true a b e))))
        (λ e. e ∙ sym (le-ltb (k + a) (k + b) (omega (arith, ltb-false a b e))))

-- ---- from the table and n alone

-- edition 1 says of values what it says of their table, if each has what the other has
pub plain_of_table : (us vs : List ℤ) → all_in us vs ≡ true → all_in vs us ≡ true → (codec plain).fields us ≡ (codec plain).fields vs
unfolding codec
plain_of_table us vs a b = same_fields high_first us vs (all_each us vs a) (all_each vs us b)

length_plain : (vs : List ℤ) → length ((codec plain).section vs) ≡ packed_bytes (length vs) ((codec plain).fields vs).width
unfolding codec scaled high_first
length_plain vs = length_packed _ (stored vs) ∙ ap (λ (n : ℕ). packed_bytes n (width_by high_first vs)) (length_stored vs)

-- so which column is shorter can be told without the values
pub shorter_by_table : (us vs : List ℤ) → all_in us vs ≡ true → all_in vs us ≡ true → let f = (codec plain).fields us in
    shorter (codec plain) us vs
    ≡ ltb (value_share (table_fields (length us)) (table_bytes (length us) (length vs))) (value_share f (packed_bytes (length vs) f.width))
unfolding shorter
shorter_by_table us vs a b = rw (length_section us vs, length_plain vs, plain_of_table us vs a b)

-- ---- the writer

-- told edition 4 it writes by the planner's plan
pub chosen_plan : (vs : List ℤ) → chosen table vs ≡ plan_edition (plan_of vs)
unfolding chosen plan_of plan_edition codec tabled
chosen_plan vs = true_or (table_ok (codec plain) (table_of vs) vs) (λ e. rw e (by (table_of vs) e)) (λ e. rw e refl)
  where
    by : (us : List ℤ) → table_ok (codec plain) us vs ≡ true → table ≡ plan_edition us
    by [] e = absurd (omega (arith, (table_facts (codec plain) [] vs e).least))
    by (u ∷ us) e = refl

pub chosen_takes : (ed : Edition) (vs : List ℤ) → (codec (chosen ed vs)).takes vs ≡ true
unfolding chosen plan_ok plan_edition
chosen_takes ed vs = true_or ((codec ed).takes vs) (λ e. rw e e) (λ e. rw e (plan_takes [] vs refl))

-- a plan that the small check takes is written as its edition says (that any other gets PLAN, exactly: `seventeen-exactly` in WritersSay.antt)
pub planned_write : (p : ℕ) (ids : List ℕ) (vs us : List ℤ) (room : ℕ) → plan_ok us vs ≡ true
    → write_planned p ids vs us room ≡ write_as (plan_edition us) p ids vs room
unfolding write_planned write_as
planned_write p ids vs us room e = rw (e, plan_takes us vs e)

-- by the planner's plan it writes what it writes if it is told edition 4
pub own_planned : (p : ℕ) (ids : List ℕ) (vs : List ℤ) (room : ℕ) → length vs ≤ max_count
    → write_planned p ids vs (planned vs) room ≡ write_as (chosen table vs) p ids vs room
own_planned p ids vs room few =
    planned_write p ids vs (planned vs) room (planned_passes vs)
    ∙ ap (λ (ed : Edition). write_as ed p ids vs room) (ap plan_edition (planned_is vs few) ∙ sym (chosen_plan vs))

-- what is written by a plan has passed the small check
pub planned_taken : (p : ℕ) (ids : List ℕ) (vs us : List ℤ) (room : ℕ) (b : List ℕ) → write_planned p ids vs us room ≡ done b → plan_ok us vs ≡ true
unfolding write_planned write_if
planned_taken p ids vs us room b e =
    let s1 = needed _ _ _ _ b e in
    let s2 = needed _ _ _ _ b s1.1 in
    let s3 = needed_none _ _ _ b s2.1 in
    let s4 = needed_none _ _ _ b s3.1 in
    (needed _ _ _ _ b s4.1).0
