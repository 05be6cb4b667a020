-- Both columns' answers by those of each: where an id is absent in the correction the machine column's, and else the correction's; and the words.
-- Assumes nothing.
use Rattle.format.specs.Kit.{◌≡◌, refl, sym, ap, ap₂, ◌∙◌, true, false, cond, List, [], ◌∷◌, ◌++◌, append_assoc, map, ℕ, suc, ◌+◌, ◌<◌, ◌%◌, ◌^◌, arith}
use Rattle.format.specs.Kit.{eqb, leb, ne_eqb, lt-leb, ◌≤◌, length, drop, length-append, length-map, ℤ}
use lib.Seq.{set-append_seam}
use Rattle.format.specs.Refusals.{Outcome, done, refused}
use Rattle.format.specs.LookUp.{Look, found, absent}
use Rattle.format.specs.Page.{place_kind, place_ordinal, place_value, place_words, page_words}
use Rattle.format.specs.Layered.{LayeredLook, on_top, underneath}
use Rattle.format.specs.LayeredPage.{layered_kind, layered_ordinal, layered_value, layered_column, machine_words, correction_words, sum_of}
use Rattle.laws.proofs.Cases.{true_or, false_true}
use Rattle.laws.proofs.Stores.{sets_front}
use Rattle.page.specs.Placed.{Paged}
use Rattle.layered_page.specs.Absent.{column_by, some_absent, absent_ids, absent_places, put_all, lost_words}
use Rattle.layered_page.specs.Pages.{both, Numbered, Laid, Answers, Under}
use Rattle.layered_page.proofs.Gathered.{put_stored}
use Rattle.layered_page.proofs.Lost.{lost_first}

-- ---- one id: its answer x in the correction, y in the machine column

-- the machine column's answer counts,
pub record FromBelow (x y : Outcome Look) : Type 0 where
  pub ordinal : layered_ordinal (on_top x y) ≡ place_ordinal y
  pub value : layered_value (on_top x y) ≡ place_value y
  pub kind : layered_kind (on_top x y) ≡ place_kind y
  pub machine : machine_words (on_top x y) ≡ place_words y
  pub correction : correction_words (on_top x y) + cond (leb (place_kind y) 1) 0 (place_words x) ≡ place_words x

-- or the correction's
pub record FromAbove (x y : Outcome Look) : Type 0 where
  pub ordinal : layered_ordinal (on_top x y) ≡ place_ordinal x
  pub value : layered_value (on_top x y) ≡ place_value x
  pub kind : layered_kind (on_top x y) ≡ place_kind x
  pub machine : machine_words (on_top x y) ≡ 0
  pub correction : correction_words (on_top x y) ≡ place_words x

abbrev Apart : Outcome Look → Type 0
Apart x = (why w : ℕ) → x ≡ refused why w → 1 < why

from_below : (x y : Outcome Look) → Apart x → Apart y → eqb (place_kind x) 1 ≡ true → FromBelow x y
unfolding on_top underneath place_ordinal place_value place_kind place_words layered_ordinal layered_value layered_kind machine_words correction_words
from_below (done (found o v k)) y a b h = false_true h
from_below (done (absent k)) (done (found o v w)) a b h =
    record { ordinal = refl; value = refl; kind = refl; machine = refl; correction = omega arith }
from_below (done (absent k)) (done (absent w)) a b h = record { ordinal = refl; value = refl; kind = refl; machine = refl; correction = omega arith }
from_below (done (absent k)) (refused why w) a b h =
    record { ordinal = refl; value = refl; kind = refl; machine = refl; correction = rw (lt-leb why 1 (b why w refl)) (omega arith) }
from_below (refused why w) y a b h = false_true (sym (ne_eqb why 1 (λ e. omega (arith, a why w refl))) ∙ h)

from_above : (x y : Outcome Look) → eqb (place_kind x) 1 ≡ false → FromAbove x y
unfolding on_top place_ordinal place_value place_kind place_words layered_ordinal layered_value layered_kind machine_words correction_words
from_above (done (found o v k)) y h = record { ordinal = refl; value = refl; kind = refl; machine = refl; correction = refl }
from_above (done (absent k)) y h = false_true (sym h)
from_above (refused why w) y h = record { ordinal = refl; value = refl; kind = refl; machine = refl; correction = refl }

column_is : (x y : Outcome Look) → Apart x → column_by (place_kind x) ≡ layered_column (on_top x y)
unfolding on_top underneath place_kind layered_column column_by
column_is (done (found o v k)) y a = refl
column_is (done (absent k)) (done (found o v w)) a = refl
column_is (done (absent k)) (done (absent w)) a = refl
column_is (done (absent k)) (refused why w) a = refl
column_is (refused why w) y a = rw (ne_eqb why 1 (λ e. omega (arith, a why w refl))) refl

lost_mod : (c w l n : ℕ) → l ≡ n % 2 ^ 64 → c + n ≡ w → (c + l) % 2 ^ 64 ≡ w % 2 ^ 64
lost_mod c w l n e f = omega arith

-- ---- all ids

module _ (top low : ℕ → Outcome Look) (nt : Numbered top) (nl : Numbered low) where
  abbrev kinds : List ℕ → List ℕ
  kinds ids = map place_kind (map top ids)

  abbrev asked : List ℕ → List ℕ
  asked ids = absent_ids (kinds ids) ids

  pub below : (id : ℕ) → eqb (place_kind (top id)) 1 ≡ true → FromBelow (top id) (low id)
  below id = from_below (top id) (low id) (nt id) (nl id)

  pub above : (id : ℕ) → eqb (place_kind (top id)) 1 ≡ false → FromAbove (top id) (low id)
  above id = from_above (top id) (low id)

  pub columns_are : (ids : List ℕ) → map column_by (kinds ids) ≡ map layered_column (map (both top low) ids)
  columns_are [] = refl
  columns_are (id ∷ ids) = ap₂ (λ (a : ℕ) (l : List ℕ). a ∷ l) (column_is (top id) (low id) (nt id)) (columns_are ids)

  -- what is put in the places of the absent ids is both columns' answer
  module _ {A : Type 0} (f : LayeredLook → A) (g : Outcome Look → A)
      (fb : (id : ℕ) → eqb (place_kind (top id)) 1 ≡ true → f (both top low id) ≡ g (low id))
      (fa : (id : ℕ) → eqb (place_kind (top id)) 1 ≡ false → f (both top low id) ≡ g (top id)) where
    on : (pre l : List A) (x : A) → pre ++ x ∷ l ≡ (pre ++ (x ∷ [])) ++ l
    on pre l x = sym (append_assoc pre (x ∷ []) l)

    more : (pre : List A) (x : A) → suc (length pre) ≡ length (pre ++ (x ∷ []))
    more pre x = omega (arith, length-append pre (x ∷ []))

    laid_from : (pre : List A) (ids : List ℕ)
        → put_all (pre ++ map g (map top ids)) (absent_places (length pre) (kinds ids)) (map g (map low (asked ids))) ≡ pre ++ map f (map (both top low) ids)
    unfolding absent_ids absent_places put_all
    laid_from pre [] = refl
    laid_from pre (id ∷ ids) =
        true_or (eqb (place_kind (top id)) 1)
        (λ h.
        rw (
          h,
          set-append_seam pre (g (top id)) (map g (map top ids)) (g (low id)),
          fb id h,
          on pre (map g (map top ids)) (g (low id)),
          on pre (map f (map (both top low) ids)) (g (low id)),
          more pre (g (low id)),
        )
        (laid_from (pre ++ (g (low id) ∷ [])) ids))
        (λ h.
        rw (h, fa id h, on pre (map g (map top ids)) (g (top id)), on pre (map f (map (both top low) ids)) (g (top id)), more pre (g (top id)))
        (laid_from (pre ++ (g (top id) ∷ [])) ids))

    pub laid : (ids : List ℕ) → put_all (map g (map top ids)) (absent_places 0 (kinds ids)) (map g (map low (asked ids))) ≡ map f (map (both top low) ids)
    laid ids = laid_from [] ids

    -- and where none is absent, the correction's answers are both columns'
    pub none_laid : (ids : List ℕ) → some_absent (kinds ids) ≡ false → map g (map top ids) ≡ map f (map (both top low) ids)
    unfolding some_absent
    none_laid [] h = refl
    none_laid (id ∷ ids) h =
        true_or (eqb (place_kind (top id)) 1)
        (λ e. false_true (sym h ∙ rw e refl))
        (λ e. ap₂ (λ (a : A) (l : List A). a ∷ l) (sym (fa id e)) (none_laid ids (rw e at h)))

  -- ---- the words

  pub machine_sum : (ids : List ℕ) → page_words (map low (asked ids)) ≡ sum_of machine_words (map (both top low) ids)
  unfolding absent_ids page_words sum_of
  machine_sum [] = refl
  machine_sum (id ∷ ids) =
      true_or (eqb (place_kind (top id)) 1)
      (λ h. rw h (omega (arith, (below id h).machine, machine_sum ids)))
      (λ h. rw h (omega (arith, (above id h).machine, machine_sum ids)))

  pub correction_sum : (ids : List ℕ)
      → sum_of correction_words (map (both top low) ids) + lost_words top (map place_kind (map low (asked ids))) (asked ids) ≡ page_words (map top ids)
  unfolding absent_ids page_words sum_of lost_words
  correction_sum [] = refl
  correction_sum (id ∷ ids) =
      true_or (eqb (place_kind (top id)) 1)
      (λ h. rw h (omega (arith, (below id h).correction, correction_sum ids)))
      (λ h. rw h (omega (arith, (above id h).correction, correction_sum ids)))

  -- so a part's answers are both columns'
  pub part_under : {ids asked ps os os' : List ℕ} {vs vs' : List ℤ} {ks ks' : List ℕ} {machine lost : ℕ} → Laid top ids os vs ks
      → asked ≡ absent_ids ks ids → ps ≡ absent_places 0 ks → Answers top low asked ps os os' vs vs' ks ks' machine lost
      → Under top low ids os' vs' ks' machine lost
  part_under {ids} l ea ep t =
      let ek = l.in_kinds in
      let fa = ea ∙ ap (λ (k : List ℕ). absent_ids k ids) ek in
      let fp = ep ∙ ap (absent_places 0) ek in
      record {
        in_ordinals =
            t.in_ordinals ∙ rw (l.in_ordinals, fa, fp) refl
            ∙ laid layered_ordinal place_ordinal (λ id e. (below id e).ordinal) (λ id e. (above id e).ordinal) ids;
        in_values =
            t.in_values ∙ rw (l.in_values, fa, fp) refl ∙ laid layered_value place_value (λ id e. (below id e).value) (λ id e. (above id e).value) ids;
        in_kinds =
            t.in_kinds ∙ rw (ek, fa, fp) refl ∙ laid layered_kind place_kind (λ id e. (below id e).kind) (λ id e. (above id e).kind) ids;
        machine_words_is = t.machine_words_is ∙ ap (λ (n : ℕ). n % 2 ^ 64) (ap (λ (a : List ℕ). page_words (map low a)) fa ∙ machine_sum ids);
        lost_words_is =
            lost_mod _ _ _ _ (t.lost_words_is ∙ ap (λ (a : List ℕ). lost_words top (map place_kind (map low a)) a % 2 ^ 64) fa) (correction_sum ids);
      }

  -- where none is absent
  pub none_machine : (ids : List ℕ) → some_absent (kinds ids) ≡ false → sum_of machine_words (map (both top low) ids) ≡ 0
  unfolding some_absent sum_of
  none_machine [] h = refl
  none_machine (id ∷ ids) h =
      true_or (eqb (place_kind (top id)) 1)
      (λ e. false_true (sym h ∙ rw e refl))
      (λ e. omega (arith, (above id e).machine, none_machine ids (rw e at h)))

  pub none_correction : (ids : List ℕ) → some_absent (kinds ids) ≡ false → sum_of correction_words (map (both top low) ids) ≡ page_words (map top ids)
  unfolding some_absent sum_of page_words
  none_correction [] h = refl
  none_correction (id ∷ ids) h =
      true_or (eqb (place_kind (top id)) 1)
      (λ e. false_true (sym h ∙ rw e refl))
      (λ e. omega (arith, (above id e).correction, none_correction ids (rw e at h)))

-- ---- the machine column's page for the ids asked for, and what it leaves

pub laid_many : {top : ℕ → Outcome Look} {ids os : List ℕ} {vs : List ℤ} {ks : List ℕ} → Laid top ids os vs ks
    → (length os ≡ length ids) × (length vs ≡ length ids) × (length ks ≡ length ids)
laid_many {top} {ids} l = (
  ap length l.in_ordinals ∙ many place_ordinal,
  ap length l.in_values ∙ many place_value,
  ap length l.in_kinds ∙ many place_kind,
)
  where
    many : {A : Type 0} (g : Outcome Look → A) → length (map g (map top ids)) ≡ length ids
    many g = length-map (map top ids) g ∙ length-map ids top

module _ (top low : ℕ → Outcome Look) (asked ps : List ℕ) where
  pub answers_so : {os os' zo bos : List ℕ} {vs vs' zv bvs : List ℤ} {ks ks' zk bks : List ℕ} {machine lost : ℕ}
      → Paged (map low asked) zo bos zv bvs zk bks machine → length ps ≡ length asked → length asked ≤ length zo → length asked ≤ length zv
      → length asked ≤ length zk → os' ≡ put_all os ps bos → vs' ≡ put_all vs ps bvs → ks' ≡ put_all ks ps bks → lost ≡ lost_words top bks asked % 2 ^ 64
      → Answers top low asked ps os os' vs vs' ks ks' machine lost
  answers_so {zk = zk} {bks = bks} p n ro rv rk eo ev ek el =
      record {
        in_ordinals = eo ∙ put_stored _ _ _ _ (omega (arith, n, many place_ordinal)) (omega (arith, many place_ordinal)) p.in_ordinals;
        in_values = ev ∙ put_stored _ _ _ _ (omega (arith, n, many place_value)) (omega (arith, many place_value)) p.in_values;
        in_kinds = ek ∙ put_stored _ _ _ _ (omega (arith, n, many place_kind)) (omega (arith, many place_kind)) p.in_kinds;
        machine_words_is = p.words;
        lost_words_is =
            el
            ∙ ap (λ (k : List ℕ). lost_words top k asked % 2 ^ 64) (p.in_kinds ∙ sets_front zk (map place_kind (map low asked)) (omega (arith, many place_kind)))
            ∙ ap (λ (w : ℕ). w % 2 ^ 64)
            (lost_first top (map place_kind (map low asked)) (drop (length (map place_kind (map low asked))) zk) asked (omega (arith, many place_kind)));
      }
    where
      many : {A : Type 0} (g : Outcome Look → A) → length (map g (map low asked)) ≡ length asked
      many g = length-map (map low asked) g ∙ length-map asked low
