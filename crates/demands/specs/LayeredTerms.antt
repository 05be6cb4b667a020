-- The demands' terms for a page of ids with a correction on top. Lists afterwards have a '. Assumes nothing.
use Rattle.std.specs.Prelude.{◌≡◌, ◌%◌, ◌^◌}
use Rattle.format.specs.Kit.{List, map, ℕ, ℤ, length}
use Rattle.format.specs.Refusals.{Outcome, done}
use Rattle.format.specs.Layered.{LayeredLook}
use Rattle.format.specs.LayeredPage.{layered_ordinal, layered_value, layered_kind, layered_column, sum_of, layered_reply, layered_after, lists_place}
use Rattle.format.specs.LayeredPage.{machine_formula, correction_formula}
use Rattle.format.specs.Says.{LayeredPageSays}
use Rattle.layered.specs.Answers.{layered_reply_of}
use Rattle.demands.specs.Terms.{Holds, pairs_of}
use Rattle.std.specs.declared.result.Result.{Result}
use Rattle.answers.specs.declared.Refusal as Re
use Rattle.layered.specs.declared.LayeredWords as Lw

-- the outcome of the case that the table has for the input, where `look` is the single layered look-up
pub record LayeredPageTold (look : ℕ → LayeredLook) (ids os os' : List ℕ) (vs vs' : List ℤ) (ks ks' cs cs' : List ℕ) (r : Result Lw.LayeredWords Re.Refusal) : Type 0 where
  pub outcome : Outcome (List LayeredLook)
  pub says : LayeredPageSays look ids (length os) (length vs) (length ks) (length cs) outcome
  pub reply : layered_reply_of r ≡ layered_reply outcome
  pub ordinals_after : os' ≡ layered_after layered_ordinal outcome os
  pub values_after_is : vs' ≡ layered_after layered_value outcome vs
  pub kinds_after : ks' ≡ layered_after layered_kind outcome ks
  pub columns_after : cs' ≡ layered_after layered_column outcome cs

-- on bytes that hold lists: the sums of the words by the formula, each column's by its own list and rank power, and in each place the two lists' answer for
-- its id, the correction's pair winning, ids above the limit included
pub record LayeredPageAnswers {m c : List ℕ} {i j : ℕ} (x : Holds m i) (y : Holds c j) (ids os os' : List ℕ) (vs vs' : List ℤ) (ks ks' cs cs' : List ℕ)
    (r : Result Lw.LayeredWords Re.Refusal) : Type 0 where
  pub words : layered_reply_of r
      ≡ done (sum_of (machine_formula x.power (pairs_of x) (pairs_of y)) ids % 2 ^ 64, sum_of (correction_formula y.power (pairs_of y)) ids % 2 ^ 64)
  pub ordinals : os' ≡ layered_after layered_ordinal (done (map (lists_place x.power (pairs_of x) y.power (pairs_of y)) ids)) os
  pub values : vs' ≡ layered_after layered_value (done (map (lists_place x.power (pairs_of x) y.power (pairs_of y)) ids)) vs
  pub kinds : ks' ≡ layered_after layered_kind (done (map (lists_place x.power (pairs_of x) y.power (pairs_of y)) ids)) ks
  pub columns : cs' ≡ layered_after layered_column (done (map (lists_place x.power (pairs_of x) y.power (pairs_of y)) ids)) cs
