-- The two calls: the correction's page, the columns by its kinds, and what is left at the end. Assumes nothing.
use Rattle.format.specs.Kit.{◌≡◌, refl, sym, ap, ap₂, ◌∙◌, true, false, ◌&&◌, List, [], ◌∷◌, ◌++◌, map, ℕ, zero, suc, ◌%◌, ◌^◌, ◌≤◌, ◌<◌, arith}
use Rattle.format.specs.Kit.{Bool, leb, leb-true, length, length-map, drop, take, take_at, drop_at, sets, ℤ}
use Rattle.format.specs.Refusals.{Outcome, done, refused, need, BUFFER, look_up_numbers, look_up_in_numbers}
use Rattle.format.specs.Editions.{editions, among}
use Rattle.format.specs.Opening.{Opened, open_column, head_ok, length_ok}
use Rattle.format.specs.LookUp.{Look, look_up, look_up_in}
use Rattle.format.specs.Page.{place_kind, place_ordinal, place_value}
use Rattle.format.specs.Layered.{LayeredLook, on_top, look_up_layered, look_up_layered_in}
use Rattle.format.specs.LayeredPage.{layered_kind, layered_ordinal, layered_value, layered_column, machine_words, correction_words, sum_of, page_by}
use Rattle.format.specs.LayeredPage.{layered_reply, layered_after}
use Rattle.laws.proofs.Cases.{true_or, false_true}
use Rattle.laws.proofs.Stores.{sets_front}
use Rattle.laws.proofs.Tests.{both_true}
use Rattle.laws.proofs.LayeredPages.{enough}
use Rattle.laws.proofs.RefusalNumbers.{look_up_refusals, look_up_in_refusals}
use Rattle.answers.specs.declared.Refusal as Re
use Rattle.column.specs.Opened.{column_of, opened_of, judged_as}
use Rattle.column.specs.declared.Column.{Column}
use Rattle.layered.specs.Answers.{layered_reply_of}
use Rattle.page.specs.Openings.{look_by, Fit}
use Rattle.page.specs.Placed.{Paged}
use Rattle.page.proofs.Openings.{up_by, in_by}
use Rattle.layered_page.specs.Absent.{column_by, some_absent}
use Rattle.layered_page.specs.Pages.{both, Numbered, Above, Whole, Leaves}
use Rattle.layered_page.proofs.Answered.{below, above, columns_are, none_laid, none_machine, none_correction}
use Rattle.std.specs.Prelude.{Ok, Err}
use Rattle.std.specs.declared.result.Result.{Result}
use Rattle.layered.specs.declared.LayeredWords as Lw
use Rattle.layered.specs.Answers.{counted}

-- ---- the numbers of refusals

apart : (ns : List ℕ) → among ns 0 ≡ false → among ns 1 ≡ false → (why : ℕ) → among ns why ≡ true → 1 < why
apart ns a b zero h = false_true (sym a ∙ h)
apart ns a b (suc zero) h = false_true (sym b ∙ h)
apart ns a b (suc (suc n)) h = omega arith

pub numbered_up : (bytes : List ℕ) → Numbered (look_up editions bytes)
unfolding among
numbered_up bytes id why w e = apart look_up_numbers refl refl why (look_up_refusals editions bytes id why w e)

pub numbered_in : (bytes : List ℕ) (c : Opened) → Numbered (look_up_in bytes c)
unfolding among
numbered_in bytes c id why w e = apart look_up_in_numbers refl refl why (look_up_in_refusals bytes c id why w e)

-- ---- a look-up by an opening is that of the call

pub same_up : (bytes : List ℕ) (o : Outcome Opened) → o ≡ open_column editions bytes → (id : ℕ) → look_by bytes o id ≡ look_up editions bytes id
same_up bytes o e id = ap (λ (q : Outcome Opened). look_by bytes q id) e ∙ up_by bytes id

pub same_in : (bytes : List ℕ) (c : Opened) (o : Outcome Opened) → o ≡ judged_as bytes c → (id : ℕ) → look_by bytes o id ≡ look_up_in bytes c id
same_in bytes c o e id = ap (λ (q : Outcome Opened). look_by bytes q id) e ∙ in_by bytes c id

pub same_numbered : (f g : ℕ → Outcome Look) → ((id : ℕ) → f id ≡ g id) → Numbered g → Numbered f
same_numbered f g e n id why w h = n id why w (sym (e id) ∙ h)

-- so both columns' are
pub layered_same : (m c : List ℕ) (top low : ℕ → Outcome Look) → ((id : ℕ) → top id ≡ look_up editions c id) → ((id : ℕ) → low id ≡ look_up editions m id)
    → (id : ℕ) → both top low id ≡ look_up_layered editions m c id
unfolding look_up_layered
layered_same m c top low e f id = ap₂ on_top (e id) (f id)

pub layered_in_same : (m : List ℕ) (x : Opened) (c : List ℕ) (y : Opened) (top low : ℕ → Outcome Look) → ((id : ℕ) → top id ≡ look_up_in c y id)
    → ((id : ℕ) → low id ≡ look_up_in m x id) → (id : ℕ) → both top low id ≡ look_up_layered_in m x c y id
unfolding look_up_layered_in
layered_in_same m x c y top low e f id = ap₂ on_top (e id) (f id)

-- a column that was tested fits
pub judged_fits : (bytes : List ℕ) (c : Opened) (r : Result Column Re.Refusal) → opened_of r ≡ judged_as bytes c → Fit bytes r
unfolding need
judged_fits bytes c (Err why) e = tt
judged_fits bytes c (Ok k) e =
    true_or (head_ok c.head)
    (λ h.
    true_or (length_ok bytes c)
    (λ l. let q = the_same (column_of k) c (rw (h, l) at e) in (ap (λ (x : Opened). head_ok x.head) q ∙ h, ap (length_ok bytes) q ∙ l))
    (λ l. absurd (not_both (column_of k) _ _ (rw (h, l) at e))))
    (λ h. absurd (not_both (column_of k) _ _ (rw h at e)))
  where
    the_same : (x y : Opened) → ◌≡◌ {A = Outcome Opened} (done x) (done y) → x ≡ y
    the_same x y e = cc

    not_both : (x : Opened) (why w : ℕ) → ◌≡◌ {A = Outcome Opened} (done x) (refused why w) → ⊥
    not_both x why w e = let z : ◌≡◌ {A = ℕ} 0 1 = cc in omega arith

same_map : {X : Type 0} (f g : ℕ → X) → ((id : ℕ) → f id ≡ g id) → (ids : List ℕ) → map f ids ≡ map g ids
same_map f g e [] = refl
same_map f g e (x ∷ xs) = ap₂ (λ (a : _) (l : List _). a ∷ l) (e x) (same_map f g e xs)

-- ---- the tests

abbrev roomy : ℕ → ℕ → ℕ → ℕ → ℕ → Bool
roomy n o v k c = leb n o && leb n v && leb n k && leb n c

pub few : (look : ℕ → LayeredLook) (ids : List ℕ) (o v k c : ℕ) → roomy (length ids) o v k c ≡ false
    → page_by look ids o v k c ≡ refused BUFFER (length ids)
unfolding page_by need
few look ids o v k c h = rw h refl

pub has_room : (n o v k c : ℕ) → roomy n o v k c ≡ true → (n ≤ o) × (n ≤ v) × (n ≤ k) × (n ≤ c)
has_room n o v k c h =
    let a = both_true _ _ h in
    let b = both_true _ _ a.0 in
    let d = both_true _ _ b.0 in
    (leb-true _ _ d.0, leb-true _ _ d.1, leb-true _ _ b.1, leb-true _ _ a.1)

pub refused_so : (p : Outcome (List LayeredLook)) (n : ℕ) (os : List ℕ) (vs : List ℤ) (ks cs : List ℕ) → p ≡ refused BUFFER n
    → Leaves p (Err (Re.Refusal.Buffer n)) os os vs vs ks ks cs cs
unfolding layered_reply layered_after
refused_so p n os vs ks cs e = rw e (refl, (refl, (refl, (refl, refl))))

-- ---- the correction's page

module _ (top : ℕ → Outcome Look) (ids : List ℕ) where
  many : {A : Type 0} (g : Outcome Look → A) → length (map g (map top ids)) ≡ length ids
  many g = length-map (map top ids) g ∙ length-map ids top

  -- in the first places, before what stood there
  stored : {A : Type 0} (g : Outcome Look → A) (l l' : List A) → length ids ≤ length l → l' ≡ sets l 0 (map g (map top ids))
      → l' ≡ map g (map top ids) ++ drop (length ids) l
  stored {A} g l l' h e =
      e ∙ sets_front l (map g (map top ids)) (omega (arith, many g)) ∙ ap (λ (n : ℕ). map g (map top ids) ++ drop n l) (many g)

  after : {A : Type 0} (g : Outcome Look → A) (l l' : List A) → l' ≡ map g (map top ids) ++ drop (length ids) l
      → drop (length ids) l' ≡ drop (length ids) l
  after g l l' e = ap (drop (length ids)) e ∙ drop_at (map g (map top ids)) _ (length ids) (many g)

  module _ {os os' : List ℕ} {vs vs' : List ℤ} {ks ks' : List ℕ} {w : ℕ} (p : Paged (map top ids) os os' vs vs' ks ks' w)
      (ro : length ids ≤ length os) (rv : length ids ≤ length vs) (rk : length ids ≤ length ks) where
    pub in_os : os' ≡ map place_ordinal (map top ids) ++ drop (length ids) os
    in_os = stored place_ordinal os os' ro p.in_ordinals

    pub in_vs : vs' ≡ map place_value (map top ids) ++ drop (length ids) vs
    in_vs = stored place_value vs vs' rv p.in_values

    pub in_ks : ks' ≡ map place_kind (map top ids) ++ drop (length ids) ks
    in_ks = stored place_kind ks ks' rk p.in_kinds

    pub is_above : Above top ids os' vs' ks'
    is_above =
        record {
          in_ordinals = in_os ∙ ap (λ (l : List ℕ). map place_ordinal (map top ids) ++ l) (sym (after place_ordinal os os' in_os));
          in_values = in_vs ∙ ap (λ (l : List ℤ). map place_value (map top ids) ++ l) (sym (after place_value vs vs' in_vs));
          in_kinds = in_ks ∙ ap (λ (l : List ℕ). map place_kind (map top ids) ++ l) (sym (after place_kind ks ks' in_ks));
        }

    -- its kinds
    pub the_kinds : take (length ids) ks' ≡ map place_kind (map top ids)
    the_kinds = ap (take (length ids)) in_ks ∙ take_at (map place_kind (map top ids)) _ (length ids) (many place_kind)

    -- ---- with the machine column's answers

    module _ (low : ℕ → Outcome Look) (nt : Numbered top) (nl : Numbered low) (look : ℕ → LayeredLook)
        (same : (id : ℕ) → both top low id ≡ look id) (cs cs' : List ℕ) (rc : length ids ≤ length cs)
        (ec : cs' ≡ sets cs 0 (map column_by (take (length ids) ks'))) where
      looks : map (both top low) ids ≡ map look ids
      looks = same_map (both top low) look same ids

      in_cs : cs' ≡ map layered_column (map (both top low) ids) ++ drop (length ids) cs
      in_cs =
          let m : map column_by (take (length ids) ks') ≡ map layered_column (map (both top low) ids) =
          ap (map column_by) the_kinds ∙ columns_are top low nt nl ids in
          let n : length (map layered_column (map (both top low) ids)) ≡ length ids =
          length-map (map (both top low) ids) layered_column ∙ length-map ids (both top low) in
          ec
          ∙ ap (sets cs 0) m
          ∙ sets_front cs (map layered_column (map (both top low) ids)) (omega (arith, n))
          ∙ ap (λ (j : ℕ). map layered_column (map (both top low) ids) ++ drop j cs) n

      -- a list afterwards
      placed : {A : Type 0} (f : LayeredLook → A) (l l' : List A) → l' ≡ map f (map (both top low) ids) ++ drop (length ids) l
          → l' ≡ layered_after f (done (map look ids)) l
      unfolding layered_after
      placed f l l' e =
          e
          ∙ ap (λ (xs : List LayeredLook). map f xs ++ drop (length ids) l) looks
          ∙ ap (λ (n : ℕ). map f (map look ids) ++ drop n l) (sym (length-map ids look))

      leaves : {os'' : List ℕ} {vs'' : List ℤ} {ks'' : List ℕ} (r : Result Lw.LayeredWords Re.Refusal)
          → os'' ≡ map layered_ordinal (map (both top low) ids) ++ drop (length ids) os
          → vs'' ≡ map layered_value (map (both top low) ids) ++ drop (length ids) vs
          → ks'' ≡ map layered_kind (map (both top low) ids) ++ drop (length ids) ks
          → layered_reply_of r ≡ done (sum_of machine_words (map (both top low) ids) % 2 ^ 64, sum_of correction_words (map (both top low) ids) % 2 ^ 64)
          → Leaves (page_by look ids (length os) (length vs) (length ks) (length cs)) r os os'' vs vs'' ks ks'' cs cs'
      unfolding layered_reply
      leaves r eo ev ek er =
          rw (enough look ids (length os) (length vs) (length ks) (length cs) ro rv rk rc) (
            er ∙ ap (λ (xs : List LayeredLook). done (sum_of machine_words xs % 2 ^ 64, sum_of correction_words xs % 2 ^ 64)) looks,
            (placed layered_ordinal os _ eo, (placed layered_value vs _ ev, (placed layered_kind ks _ ek, placed layered_column cs cs' in_cs))),
          )

      -- where the machine column was asked
      pub asked_so : {os'' : List ℕ} {vs'' : List ℤ} {ks'' : List ℕ} (r : Result Lw.LayeredWords Re.Refusal) → Whole top low ids os' os'' vs' vs'' ks' ks'' r
          → Leaves (page_by look ids (length os) (length vs) (length ks) (length cs)) r os os'' vs vs'' ks ks'' cs cs'
      asked_so r t =
          leaves r
          (t.in_ordinals ∙ ap (λ (l : List ℕ). map layered_ordinal (map (both top low) ids) ++ l) (after place_ordinal os os' in_os))
          (t.in_values ∙ ap (λ (l : List ℤ). map layered_value (map (both top low) ids) ++ l) (after place_value vs vs' in_vs))
          (t.in_kinds ∙ ap (λ (l : List ℕ). map layered_kind (map (both top low) ids) ++ l) (after place_kind ks ks' in_ks))
          t.reply

      -- and where it was not
      pub settled_so : some_absent (take (length ids) ks') ≡ false
          → Leaves (page_by look ids (length os) (length vs) (length ks) (length cs)) (Ok (counted 0 w)) os os' vs vs' ks ks' cs cs'
      settled_so h =
          let n : some_absent (map place_kind (map top ids)) ≡ false = sym (ap some_absent the_kinds) ∙ h in
          leaves (Ok (counted 0 w))
          (in_os ∙ ap (λ (l : List ℕ). l ++ drop (length ids) os)
          (none_laid top low nt nl layered_ordinal place_ordinal (λ id e. (below top low nt nl id e).ordinal) (λ id e. (above top low nt nl id e).ordinal) ids n))
          (in_vs ∙ ap (λ (l : List ℤ). l ++ drop (length ids) vs)
          (none_laid top low nt nl layered_value place_value (λ id e. (below top low nt nl id e).value) (λ id e. (above top low nt nl id e).value) ids n))
          (in_ks ∙ ap (λ (l : List ℕ). l ++ drop (length ids) ks)
          (none_laid top low nt nl layered_kind place_kind (λ id e. (below top low nt nl id e).kind) (λ id e. (above top low nt nl id e).kind) ids n))
          (ap₂ (λ (a b : ℕ). done (a, b)) (ap (λ (a : ℕ). a % 2 ^ 64) (sym (none_machine top low nt nl ids n)))
          (p.words ∙ ap (λ (a : ℕ). a % 2 ^ 64) (sym (none_correction top low nt nl ids n))))
