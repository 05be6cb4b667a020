-- A page of ids with a correction on top: a refusal changes nothing, and on bytes that hold lists it answers by them. Assumes nothing.
use Rattle.format.specs.Kit.{◌≡◌, sym, ap, ◌∙◌, List, map, ℕ, ◌≤◌, arith, ℤ, length}
use Rattle.format.specs.Refusals.{Outcome, done, refused}
use Rattle.format.specs.Editions.{editions}
use Rattle.format.specs.Column.{head_of}
use Rattle.format.specs.Layered.{LayeredLook}
use Rattle.format.specs.LayeredPage.{layered_ordinal, layered_value, layered_kind, layered_column, layered_reply, layered_after, layered_page, lists_place, lists_page}
use Rattle.laws.proofs.RoundTrip.{the_head, the_column}
use Rattle.laws.proofs.LayeredPages.{enough, lists_page_lem, reply_sums}
use Rattle.layered.specs.Answers.{layered_reply_of}
use Rattle.demands.specs.Terms.{Holds, pairs_of}
use Rattle.demands.specs.LayeredTerms.{LayeredPageAnswers}
use Rattle.demands.proofs.Lists.{as_read}
use Rattle.std.specs.declared.result.Result.{Result}
use Rattle.answers.specs.declared.Refusal as Re
use Rattle.layered.specs.declared.LayeredWords as Lw

page_refused : (o : Outcome (List LayeredLook)) (why w : ℕ) → layered_reply o ≡ refused why w → o ≡ refused why w
unfolding layered_reply
page_refused (done q) why w e = absurd (let z : ◌≡◌ {A = ℕ} 0 1 = cc in omega arith)
page_refused (refused x y) why w e = cc

module _ (o : Outcome (List LayeredLook)) (os os' : List ℕ) (vs vs' : List ℤ) (ks ks' cs cs' : List ℕ) (r : Result Lw.LayeredWords Re.Refusal) where
  pub layered_page_kept : layered_reply_of r ≡ layered_reply o → os' ≡ layered_after layered_ordinal o os → vs' ≡ layered_after layered_value o vs
      → ks' ≡ layered_after layered_kind o ks → cs' ≡ layered_after layered_column o cs
      → (why w : ℕ) → layered_reply_of r ≡ refused why w → (os' ≡ os) × (vs' ≡ vs) × (ks' ≡ ks) × (cs' ≡ cs)
  unfolding layered_after
  layered_page_kept k ko kv kk kc why w e =
      let f = page_refused o why w (sym k ∙ e) in (
        ko ∙ ap (λ (o : Outcome (List LayeredLook)). layered_after layered_ordinal o os) f,
        kv ∙ ap (λ (o : Outcome (List LayeredLook)). layered_after layered_value o vs) f,
        kk ∙ ap (λ (o : Outcome (List LayeredLook)). layered_after layered_kind o ks) f,
        kc ∙ ap (λ (o : Outcome (List LayeredLook)). layered_after layered_column o cs) f,
      )

module _ (m c ids os os' : List ℕ) (vs vs' : List ℤ) (ks ks' cs cs' : List ℕ) (r : Result Lw.LayeredWords Re.Refusal)
    (kept : layered_reply_of r ≡ layered_reply (layered_page editions m c ids (length os) (length vs) (length ks) (length cs)))
    (ko : os' ≡ layered_after layered_ordinal (layered_page editions m c ids (length os) (length vs) (length ks) (length cs)) os)
    (kv : vs' ≡ layered_after layered_value (layered_page editions m c ids (length os) (length vs) (length ks) (length cs)) vs)
    (kk : ks' ≡ layered_after layered_kind (layered_page editions m c ids (length os) (length vs) (length ks) (length cs)) ks)
    (kc : cs' ≡ layered_after layered_column (layered_page editions m c ids (length os) (length vs) (length ks) (length cs)) cs) where
  by_lists : length ids ≤ length os → length ids ≤ length vs → length ids ≤ length ks → length ids ≤ length cs → (i j : ℕ) (x : Holds m i) (y : Holds c j)
      → layered_page editions m c ids (length os) (length vs) (length ks) (length cs)
      ≡ done (map (lists_place x.power (pairs_of x) y.power (pairs_of y)) ids)
  unfolding lists_page the_column head_of the_head
  by_lists ro rv rk rc i j x y =
      lists_page_lem editions m c (as_read m i x) (as_read c j y) ids (length os) (length vs) (length ks) (length cs)
      ∙ enough (lists_place x.power (pairs_of x) y.power (pairs_of y)) ids (length os) (length vs) (length ks) (length cs) ro rv rk rc

  pub layered_page_answers : length ids ≤ length os → length ids ≤ length vs → length ids ≤ length ks → length ids ≤ length cs
      → (i j : ℕ) (x : Holds m i) (y : Holds c j) → LayeredPageAnswers x y ids os os' vs vs' ks ks' cs cs' r
  unfolding the_column head_of the_head
  layered_page_answers ro rv rk rc i j x y =
      let e = by_lists ro rv rk rc i j x y in
      record {
        words =
            kept
            ∙ reply_sums editions m c (as_read m i x) (as_read c j y) ids (length os) (length vs) (length ks) (length cs) ro rv rk rc;
        ordinals = ko ∙ ap (λ (o : Outcome (List LayeredLook)). layered_after layered_ordinal o os) e;
        values = kv ∙ ap (λ (o : Outcome (List LayeredLook)). layered_after layered_value o vs) e;
        kinds = kk ∙ ap (λ (o : Outcome (List LayeredLook)). layered_after layered_kind o ks) e;
        columns = kc ∙ ap (λ (o : Outcome (List LayeredLook)). layered_after layered_column o cs) e;
      }
