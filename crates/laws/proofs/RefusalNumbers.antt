-- Document 01, "Refusal numbers", and document 02: the refusals of each call are those of its list (format/specs/Refusals.antt), and no other number is ever
-- given, on any input. Assumes nothing.
use Rattle.format.specs.Kit.{◌≡◌, refl, sym, subst, ◌∙◌, Bool, true, false, ◌&&◌, List, [], ◌∷◌, ℕ, ℤ, eqb, eqb-true}
use Rattle.format.specs.Refusals.{Outcome, refused, need, HEADER, BUFFER, write_numbers, planned_numbers, set_write_numbers, open_numbers, check_numbers}
use Rattle.format.specs.Refusals.{read_numbers, look_up_numbers, next_numbers, between_numbers, look_up_in_numbers, next_in_numbers, between_in_numbers}
use Rattle.format.specs.Refusals.{pair_at_numbers, pair_at_in_numbers, set_check_numbers, set_find_numbers}
use Rattle.format.specs.Editions.{Edition, among}
use Rattle.format.specs.Plan.{plan}
use Rattle.format.specs.Writer.{write_if, write_as, write_planned, write}
use Rattle.format.specs.Opening.{Opened, open_column}
use Rattle.format.specs.Check.{check, reading}
use Rattle.format.specs.LookUp.{look_up, look_up_in}
use Rattle.format.specs.Next.{next, next_in}
use Rattle.format.specs.FirstBetween.{first_between, first_between_in}
use Rattle.format.specs.BetweenFrom.{first_between_from, first_between_from_in}
use Rattle.format.specs.ReadFrom.{read_from, read_from_in}
use Rattle.format.specs.PairAt.{pair_at, pair_at_in}
use Rattle.format.specs.Page.{page}
use Rattle.format.specs.Layered.{Layer, machine, correction, LayeredLook, refused_by, look_up_layered, look_up_layered_in}
use Rattle.format.specs.LayeredPage.{page_by}
use Rattle.format.specs.LayeredReading.{column_from, column_from_in, refused_read, read_layered, read_layered_in}
use Rattle.format.specs.Orders.{Order}
use Rattle.format.specs.Judge.{judge_section}
use Rattle.format.specs.SetBytes.{set_write}
use Rattle.format.specs.SetCalls.{set_check, set_find}
use Rattle.format.proofs.Only.{Only, only, at_done, at_need, at_none, at_given, at_then, of_open, of_accepted, of_steps, of_next, of_read, of_pair}
use Rattle.format.proofs.Only.{of_answering, of_between, of_between_from, of_set}
use Rattle.laws.proofs.Cases.{true_or, false_true}
use Rattle.laws.proofs.Tests.{both_true}
use Rattle.laws.proofs.Plans.{chosen_takes}
use Rattle.laws.proofs.Layered.{layered_says, layered_in_says}
use Rattle.laws.proofs.LayeredCalls.{layered_read_says, layered_read_in_says}

-- one of these numbers
abbrev pub OneOf : List ℕ → ℕ → Type 0
OneOf ns why = among ns why ≡ true

abbrev pub Refusals : {A : Type 0} → List ℕ → Outcome A → Type 0
Refusals ns o = (why w : ℕ) → o ≡ refused why w → OneOf ns why

-- ---- the writers: told an edition's number, by a plan, of a set; and the planner

-- a test that holds gives no refusal
at_taken : {A : Type 0} (P : ℕ → Type 0) (t : Bool) (why w : ℕ) (next : Outcome A) → t ≡ true → Only P next → Only P (need t why w next)
unfolding Only need
at_taken P true why w next h n = n
at_taken P false why w next h n = false_true h

-- 17 is not among them
pub write_refusals : (k p : ℕ) (ids : List ℕ) (vs : List ℤ) (room : ℕ) → Refusals write_numbers (write k p ids vs room)
unfolding write write_as write_if among
write_refusals k p ids vs room why w =
    only (OneOf write_numbers) _ why w
    (at_need _ _ _ _ _ refl (at_then _ _ _ (at_given _ _ _ _ refl) (λ ed.
    at_need _ _ _ _ _ refl (at_need _ _ _ _ _ refl (at_none _ _ _ _ refl (at_none _ _ _ _ refl
    (at_taken _ _ _ _ _ (chosen_takes ed vs) (at_need _ _ _ _ _ refl (at_done _ _)))))))))

pub planned_refusals : (p : ℕ) (ids : List ℕ) (vs us : List ℤ) (room : ℕ) → Refusals planned_numbers (write_planned p ids vs us room)
unfolding write_planned write_if among
planned_refusals p ids vs us room why w =
    only (OneOf planned_numbers) _ why w
    (at_need _ _ _ _ _ refl (at_need _ _ _ _ _ refl (at_none _ _ _ _ refl (at_none _ _ _ _ refl
    (at_need _ _ _ _ _ refl (at_need _ _ _ _ _ refl (at_done _ _)))))))

pub plan_refusals : (vs : List ℤ) (room : ℕ) → Refusals (BUFFER ∷ []) (plan vs room)
unfolding plan among
plan_refusals vs room why w = only (OneOf (BUFFER ∷ [])) _ why w (at_need _ _ _ _ _ refl (at_done _ _))

pub set_write_refusals : (ids : List ℕ) (room : ℕ) → Refusals set_write_numbers (set_write ids room)
unfolding set_write among
set_write_refusals ids room why w =
    only (OneOf set_write_numbers) _ why w (at_none _ _ _ _ refl (at_none _ _ _ _ refl (at_need _ _ _ _ _ refl (at_done _ _))))

-- ---- from bytes, by a reader of any editions

module _ (known : List Edition) (bytes : List ℕ) where
  pub open_refusals : Refusals open_numbers (open_column known bytes)
  unfolding among
  open_refusals why w = only (OneOf open_numbers) _ why w (of_open _ refl refl refl refl refl known bytes)

  pub check_refusals : Refusals check_numbers (check known bytes)
  unfolding check among
  check_refusals why w =
      only (OneOf check_numbers) _ why w
      (at_then _ _ _ (of_open _ refl refl refl refl refl known bytes) (λ c. at_then _ _ _ (of_accepted _ refl bytes c) (λ q. at_done _ _)))

  pub reading_refusals : (idRoom valueRoom : ℕ) → Refusals read_numbers (reading known bytes idRoom valueRoom)
  unfolding reading among
  reading_refusals a b why w =
      only (OneOf read_numbers) _ why w
      (at_then _ _ _ (of_open _ refl refl refl refl refl known bytes) (λ c. at_need _ _ _ _ _ refl (of_accepted _ refl bytes c)))

  pub look_up_refusals : (id : ℕ) → Refusals look_up_numbers (look_up known bytes id)
  unfolding look_up among
  look_up_refusals id why w =
      only (OneOf look_up_numbers) _ why w
      (at_need _ _ _ _ _ refl (at_then _ _ _ (of_open _ refl refl refl refl refl known bytes) (λ c. of_steps _ refl bytes c _ id)))

  pub next_refusals : (last t : ℕ) → Refusals next_numbers (next known bytes last t)
  unfolding next among
  next_refusals last t why w =
      only (OneOf next_numbers) _ why w
      (at_need _ _ _ _ _ refl (at_need _ _ _ _ _ refl
      (at_then _ _ _ (of_open _ refl refl refl refl refl known bytes) (λ c. of_next _ refl bytes c t))))

  -- pairs from an id on, refused as a look-up is
  pub read_from_refusals : (t room : ℕ) → Refusals look_up_numbers (read_from known bytes t room)
  unfolding read_from among
  read_from_refusals t room why w =
      only (OneOf look_up_numbers) _ why w
      (at_need _ _ _ _ _ refl (at_then _ _ _ (of_open _ refl refl refl refl refl known bytes) (λ c. of_read _ refl bytes c t room)))

  pub pair_at_refusals : (i : ℕ) → Refusals pair_at_numbers (pair_at known bytes i)
  unfolding pair_at among
  pair_at_refusals i why w =
      only (OneOf pair_at_numbers) _ why w (at_then _ _ _ (of_open _ refl refl refl refl refl known bytes) (λ c. of_pair _ refl bytes c i))

  pub page_refusals : (ids : List ℕ) (o v k : ℕ) → Refusals (BUFFER ∷ []) (page known bytes ids o v k)
  unfolding page among
  page_refusals ids o v k why w = only (OneOf (BUFFER ∷ [])) _ why w (at_need _ _ _ _ _ refl (at_done _ _))

pub between_refusals : (bytes : List ℕ) (a b : ℤ) → Refusals between_numbers (first_between bytes a b)
unfolding first_between among
between_refusals bytes a b why w =
    only (OneOf between_numbers) _ why w
    (at_then _ _ _ (of_open _ refl refl refl refl refl _ bytes) (λ c. of_between _ refl bytes c a b))

pub between_from_refusals : (bytes : List ℕ) (o : ℕ) (a b : ℤ) → Refusals between_numbers (first_between_from bytes o a b)
unfolding first_between_from among
between_from_refusals bytes o a b why w =
    only (OneOf between_numbers) _ why w
    (at_then _ _ _ (of_open _ refl refl refl refl refl _ bytes) (λ c. of_between_from _ refl bytes c o a b))

-- ---- from a column that was opened before, or any numbers in its place

module _ (bytes : List ℕ) (c : Opened) where
  pub look_up_in_refusals : (id : ℕ) → Refusals look_up_in_numbers (look_up_in bytes c id)
  unfolding look_up_in among
  look_up_in_refusals id why w =
      only (OneOf look_up_in_numbers) _ why w
      (at_need _ _ _ _ _ refl (at_need _ _ _ _ _ refl (at_need _ _ _ _ _ refl (of_steps _ refl bytes c _ id))))

  pub next_in_refusals : (last t : ℕ) → Refusals next_in_numbers (next_in bytes c last t)
  unfolding next_in among
  next_in_refusals last t why w =
      only (OneOf next_in_numbers) _ why w
      (at_need _ _ _ _ _ refl (at_need _ _ _ _ _ refl (at_need _ _ _ _ _ refl (at_need _ _ _ _ _ refl (of_next _ refl bytes c t)))))

  pub between_in_refusals : (a b : ℤ) → Refusals between_in_numbers (first_between_in bytes c a b)
  unfolding first_between_in among
  between_in_refusals a b why w =
      only (OneOf between_in_numbers) _ why w
      (at_need _ _ _ _ _ refl (at_need _ _ _ _ _ refl (at_need _ _ _ _ _ refl (of_between _ refl bytes c a b))))

  pub read_from_in_refusals : (t room : ℕ) → Refusals look_up_in_numbers (read_from_in bytes c t room)
  unfolding read_from_in among
  read_from_in_refusals t room why w =
      only (OneOf look_up_in_numbers) _ why w
      (at_need _ _ _ _ _ refl (at_need _ _ _ _ _ refl (at_need _ _ _ _ _ refl (of_read _ refl bytes c t room))))

  pub pair_at_in_refusals : (i : ℕ) → Refusals pair_at_in_numbers (pair_at_in bytes c i)
  unfolding pair_at_in among
  pair_at_in_refusals i why w =
      only (OneOf pair_at_in_numbers) _ why w (at_need _ _ _ _ _ refl (at_need _ _ _ _ _ refl (of_pair _ refl bytes c i)))

  pub between_from_in_refusals : (o : ℕ) (a b : ℤ) → Refusals between_in_numbers (first_between_from_in bytes c o a b)
  unfolding first_between_from_in among
  between_from_in_refusals o a b why w =
      only (OneOf between_in_numbers) _ why w
      (at_need _ _ _ _ _ refl (at_need _ _ _ _ _ refl (at_need _ _ _ _ _ refl (of_between_from _ refl bytes c o a b))))

-- ---- with a correction on top: by the column that refuses

module _ (m c : List ℕ) (id : ℕ) (why w : ℕ) where
  pub layered_refusals : (known : List Edition) (layer : Layer) → look_up_layered known m c id ≡ refused_by layer why w → OneOf look_up_numbers why
  layered_refusals known correction e = look_up_refusals known c id why w (layered_says known m c id _ e)
  layered_refusals known machine e = look_up_refusals known m id why w (layered_says known m c id _ e).2

  pub layered_in_refusals : (x y : Opened) (layer : Layer) → look_up_layered_in m x c y id ≡ refused_by layer why w → OneOf look_up_in_numbers why
  layered_in_refusals x y correction e = look_up_in_refusals c y id why w (layered_in_says m x c y id _ e)
  layered_in_refusals x y machine e = look_up_in_refusals m x id why w (layered_in_says m x c y id _ e).2

-- a page, by any look-up
pub layered_page_refusals : (look : ℕ → LayeredLook) (ids : List ℕ) (o v k l : ℕ) → Refusals (BUFFER ∷ []) (page_by look ids o v k l)
unfolding page_by among
layered_page_refusals look ids o v k l why w = only (OneOf (BUFFER ∷ [])) _ why w (at_need _ _ _ _ _ refl (at_done _ _))

-- pairs from an id on, each column refused as a look-up is
column_from_refusals : (known : List Edition) (bytes : List ℕ) (t : ℕ) → Refusals look_up_numbers (column_from known bytes t)
unfolding column_from among
column_from_refusals known bytes t why w =
    only (OneOf look_up_numbers) _ why w
    (at_need _ _ _ _ _ refl (at_then _ _ _ (of_open _ refl refl refl refl refl known bytes) (λ c. of_answering _ refl bytes c t)))

column_from_in_refusals : (bytes : List ℕ) (c : Opened) (t : ℕ) → Refusals look_up_in_numbers (column_from_in bytes c t)
unfolding column_from_in among
column_from_in_refusals bytes c t why w =
    only (OneOf look_up_in_numbers) _ why w
    (at_need _ _ _ _ _ refl (at_need _ _ _ _ _ refl (at_need _ _ _ _ _ refl (of_answering _ refl bytes c t))))

module _ (m c : List ℕ) (t room : ℕ) (why w : ℕ) where
  pub layered_read_refusals : (known : List Edition) (layer : Layer) → read_layered known m c t room ≡ refused_read layer why w → OneOf look_up_numbers why
  layered_read_refusals known correction e = column_from_refusals known c t why w (layered_read_says known m c t room _ e)
  layered_read_refusals known machine e = column_from_refusals known m t why w (layered_read_says known m c t room _ e).2

  pub layered_read_in_refusals : (x y : Opened) (layer : Layer) → read_layered_in m x c y t room ≡ refused_read layer why w → OneOf look_up_in_numbers why
  layered_read_in_refusals x y correction e = column_from_in_refusals c y t why w (layered_read_in_says m x c y t room _ e)
  layered_read_in_refusals x y machine e = column_from_in_refusals m x t why w (layered_read_in_says m x c y t room _ e).2

-- ---- of an id section and of a set

-- a reason is no refusal
pub judge_refusals : (o : Order) (p j : ℕ) (s : List ℕ) → Refusals (HEADER ∷ []) (judge_section o p j s)
unfolding judge_section among
judge_refusals o p j s why w = only (OneOf (HEADER ∷ [])) _ why w (at_need _ _ _ _ _ refl (at_done _ _))

module _ (bytes : List ℕ) where
  pub set_check_refusals : Refusals set_check_numbers (set_check bytes)
  unfolding set_check among
  set_check_refusals why w = only (OneOf set_check_numbers) _ why w (at_then _ _ _ (of_set _ refl refl refl bytes) (λ ids. at_done _ _))

  pub set_find_refusals : (id : ℕ) → Refusals set_find_numbers (set_find bytes id)
  unfolding set_find among
  set_find_refusals id why w =
      only (OneOf set_find_numbers) _ why w (at_need _ _ _ _ _ refl (at_then _ _ _ (of_set _ refl refl refl bytes) (λ ids. at_done _ _)))

-- ---- numbers that are not in some list

-- each of ns is one of ms
unfoldable pub within : List ℕ → List ℕ → Bool
within [] ms = true
within (n ∷ ns) ms = among ms n && within ns ms

in_larger : (ns ms : List ℕ) (why : ℕ) → within ns ms ≡ true → OneOf ns why → OneOf ms why
unfolding within among
in_larger [] ms why h e = false_true e
in_larger (n ∷ ns) ms why h e =
    let b = both_true (among ms n) (within ns ms) h in
    true_or (eqb n why)
    (λ t. subst (OneOf ms) (eqb-true n why t) b.0)
    (λ t. in_larger ns ms why b.1 (rw t at e))

-- a number that a larger list has not
pub unlisted : (ns ms : List ℕ) (k : ℕ) → within ns ms ≡ true → among ms k ≡ false → OneOf ns k → ⊥
unlisted ns ms k h t e = false_true (sym t ∙ in_larger ns ms k h e)
