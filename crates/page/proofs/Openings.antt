-- A look-up by an opening, by its tests; and that it is the look-up from bytes, and from a column opened before. Assumes nothing.
use Rattle.format.specs.Kit.{◌≡◌, refl, sym, ap, ap₂, ◌∙◌, true, false, List, [], ◌∷◌, map, ℕ, leb}
use Rattle.format.specs.Limits.{max_id}
use Rattle.format.specs.Refusals.{Outcome, done, refused, and_then, need, ID}
use Rattle.answers.specs.Replies.{refused_as}
use Rattle.answers.specs.declared.Refusal.{Refusal}
use Rattle.format.specs.Editions.{editions}
use Rattle.format.specs.Opening.{Opened, open_column, head_ok, length_ok}
use Rattle.format.specs.LookUp.{halved, steps, look_up, look_up_in}
use Rattle.laws.proofs.Cases.{true_or}
use Rattle.column.specs.Opened.{column_of, opened_of, judged_as}
use Rattle.column.specs.declared.Column.{Column}
use Rattle.lookup.proofs.Calls.{opened_fits}
use Rattle.page.specs.Openings.{look_by, Fit}
use Rattle.std.specs.Prelude.{Ok, Err}
use Rattle.std.specs.declared.result.Result.{Result}
use Rattle.answers.specs.declared.Refusal as Re

module _ (bytes : List ℕ) (id : ℕ) where
  pub above_by : (o : Outcome Opened) → leb id max_id ≡ false → look_by bytes o id ≡ refused ID 0
  unfolding look_by need
  above_by o h = rw h

  module _ (h : leb id max_id ≡ true) where
    pub steps_by : (c : Opened) → look_by bytes (done c) id ≡ steps halved bytes c id
    unfolding look_by need and_then
    steps_by c = rw h

    pub refused_by_lem : (why : Refusal) → look_by bytes (refused_as why) id ≡ refused_as why
    unfolding look_by need and_then
    refused_by_lem why = rw h

-- ---- the two calls

pub up_by : (bytes : List ℕ) (id : ℕ) → look_by bytes (open_column editions bytes) id ≡ look_up editions bytes id
unfolding look_by look_up
up_by bytes id = refl

pub in_by : (bytes : List ℕ) (c : Opened) (id : ℕ) → look_by bytes (judged_as bytes c) id ≡ look_up_in bytes c id
unfolding look_by look_up_in need and_then
in_by bytes c id =
    true_or (head_ok c.head)
    (λ h. true_or (length_ok bytes c) (λ l. rw (h, l) refl) (λ l. rw (h, l) refl))
    (λ h. rw h refl)

-- so a page by the bytes' own opening is the page from bytes
pub answers_by : (bytes : List ℕ) (o : Outcome Opened) → o ≡ open_column editions bytes → (ids : List ℕ)
    → map (look_by bytes o) ids ≡ map (look_up editions bytes) ids
answers_by bytes o e [] = refl
answers_by bytes o e (id ∷ ids) =
    ap₂ (λ x l. x ∷ l) (ap (λ (q : Outcome Opened). look_by bytes q id) e ∙ up_by bytes id) (answers_by bytes o e ids)

-- an opening of these bytes fits them
pub open_fits : (bytes : List ℕ) (r : Result Column Re.Refusal) → opened_of r ≡ open_column editions bytes → Fit bytes r
open_fits bytes (Ok c) e = opened_fits bytes (column_of c) (sym e)
open_fits bytes (Err why) e = tt
