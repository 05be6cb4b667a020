-- A page by its answers: the tests before them, one place or one part after the other, and what is left at the end. Assumes nothing.
use Rattle.format.specs.Kit.{◌≡◌, refl, sym, ap, ap₂, ◌∙◌, subst, List, [], ◌∷◌, ◌++◌, map, ℕ, zero, suc, ◌+◌, ◌-◌, ◌%◌, ◌^◌, ◌≤◌, ◌<◌, arith, ℤ, pos}
use Rattle.format.specs.Kit.{length, drop, get_or, get_or-drop, ext_get_or, sets, length-map, length-append, length-drop, List·getD-append, List·getD-map}
use Rattle.format.specs.Kit.{get_or-append-add}
use Rattle.format.specs.Refusals.{Outcome, done, refused, BUFFER}
use Rattle.format.specs.Editions.{editions}
use Rattle.format.specs.LookUp.{Look, look_up}
use Rattle.format.specs.Page.{place_kind, place_ordinal, place_value, place_words, page, page_words, page_reply, page_after}
use Rattle.answers.specs.Replies.{refusal_number}
use Rattle.answers.specs.declared.Refusal as Re
use Rattle.laws.proofs.Cases.{below_or, equal_or}
use Rattle.laws.proofs.Paged.{enough, stored}
use Rattle.laws.proofs.Stores.{sets_front}
use Rattle.page.specs.Placed.{Holds, Stored, Room, Paged, Leaves}
use Rattle.page.specs.Parts.{Lists, place_in, Kept, total, answer_of, words_at, answered_at, Filled}
use Rattle.page.specs.declared.Held.{Held}
use Rattle.page.proofs.Parts.{total_join, other, here, keeps, kept_both, holds_so}
use Rattle.std.specs.Prelude.{Ok, Err}

get_D_of_map : {A B : Type 0} (g : B → A) (xs : List B) (i : ℕ) (b : B) (d : A) → i < length xs → get_or (map g xs) i d ≡ g (get_or xs i b)
get_D_of_map g [] i b d h = absurd (omega arith)
get_D_of_map g (x ∷ xs) zero b d h = refl
get_D_of_map g (x ∷ xs) (suc i) b d h = get_D_of_map g xs i b d (omega arith)

-- a refusal number fits in a byte
pub number_small : (why : Re.Refusal) → refusal_number why < 256
number_small Re.Refusal.Lengths = omega arith
number_small Re.Refusal.Power = omega arith
number_small (Re.Refusal.Order i) = omega arith
number_small (Re.Refusal.Range i) = omega arith
number_small (Re.Refusal.Room n) = omega arith
number_small (Re.Refusal.Short n) = omega arith
number_small (Re.Refusal.Number at) = omega arith
number_small Re.Refusal.Edition = omega arith
number_small Re.Refusal.Header = omega arith
number_small Re.Refusal.Length = omega arith
number_small (Re.Refusal.Buffer n) = omega arith
number_small Re.Refusal.Damaged = omega arith
number_small Re.Refusal.Id = omega arith
number_small Re.Refusal.Broken = omega arith
number_small Re.Refusal.Back = omega arith
number_small Re.Refusal.Plan = omega arith

-- ---- one place or one part after the other

-- before id i: the lists at the start, and now with the words
pub record Going (look : ℕ → Outcome Look) (ids : List ℕ) (i : ℕ) (l m : Lists) (w : ℕ) : Type 0 where
  pub kept : Kept l m
  pub above : (j v : ℕ) → i ≤ j → place_in m j v ≡ place_in l j v
  pub each : (j : ℕ) → j < i → answered_at look ids m j
  pub words : w ≡ total (words_at look ids) 0 i % 2 ^ 64
  pub reached : i ≤ length ids

module _ (look : ℕ → Outcome Look) (ids : List ℕ) where
  pub begins : (l : Lists) → Going look ids 0 l l 0
  unfolding total
  begins l =
      record {
        kept = record { in_ordinals = refl; in_values = refl; in_kinds = refl };
        above = λ j v b. refl;
        each = λ j b. absurd (omega arith);
        words = omega arith;
        reached = omega arith;
      }

  module _ {i : ℕ} {l m : Lists} {w : ℕ} (g : Going look ids i l m w) where
    -- the next id's answer is stored
    pub goes_on : {h : Held} {n : Lists} {w' : ℕ} → i < length ids → i < length m.ordinals → i < length m.values → i < length m.kinds
        → Holds (answer_of look ids i) h → Stored h i m.ordinals n.ordinals m.values n.values m.kinds n.kinds
        → w' ≡ (w + h.words) % 2 ^ 64 → Going look ids (i + 1) l n w'
    unfolding total
    goes_on {n = n} b lo lv lk p t e =
        let q : total (words_at look ids) 0 (i + 1) ≡ total (words_at look ids) 0 i + words_at look ids i =
        let s : i + 1 ≡ suc i = omega arith in
        let z : 0 + i ≡ i = omega arith in
        ap (total (words_at look ids) 0) s ∙ ap (λ (x : ℕ). total (words_at look ids) 0 i + words_at look ids x) z in
        let at_i : answered_at look ids n i =
        subst (λ (y : Held). Holds (answer_of look ids i) y) (sym (here t lo lv lk (words_at look ids i))) (holds_so p _ (sym p.words)) in
        record {
          kept = kept_both g.kept (keeps t);
          above = λ j v d. other t j v (λ z. omega arith) ∙ g.above j v (omega arith);
          each = λ j d.
              equal_or j i (λ x. subst (answered_at look ids n) (sym x) at_i)
              (λ x. subst (λ (y : Held). Holds (answer_of look ids j) y) (sym (other t j (words_at look ids j) x)) (g.each j (omega arith)));
          words = omega (arith, e, g.words, q, p.words);
          reached = omega arith;
        }

    -- ids i to e have their answers
    pub part_on : {e : ℕ} {n : Lists} {w' : ℕ} → i ≤ e → e ≤ length ids → Filled look ids i e m n w w' → Going look ids e l n w'
    part_on {e = e} a b v =
        let z : i + (e - i) ≡ e = omega arith in
        let q : total (words_at look ids) 0 i + total (words_at look ids) i (e - i) ≡ total (words_at look ids) 0 e =
        total_join (words_at look ids) i (e - i) ∙ ap (total (words_at look ids) 0) z in
        record {
          kept = kept_both g.kept v.within.kept;
          above = λ j x d. v.within.above j x d ∙ g.above j x (omega arith);
          each = λ j d.
              below_or j i
              (λ x. subst (λ (y : Held). Holds (answer_of look ids j) y) (sym (v.within.below j (words_at look ids j) x)) (g.each j x))
              (λ x. v.each j x d);
          words = omega (arith, g.words, v.words, q);
          reached = b;
        }

-- ---- no id is left

-- a list whose first places hold the answers, and whose others stay
module _ {A : Type 0} (f : Outcome Look → A) (look : ℕ → Outcome Look) (ids : List ℕ) (l m : List A) (d : A) (len : length m ≡ length l)
    (room : length ids ≤ length l) where
  abbrev held : List A
  held = map f (map look ids)

  held_long : length held ≡ length ids
  held_long = length-map (map look ids) f ∙ length-map ids look

  front : sets l 0 held ≡ held ++ drop (length ids) l
  front = sets_front l held (omega (arith, held_long)) ∙ ap (λ (n : ℕ). held ++ drop n l) held_long

  -- an answer, and what stood there before
  first : (j : ℕ) → j < length ids → get_or (held ++ drop (length ids) l) j d ≡ f (answer_of look ids j)
  first j b =
      List·getD-append held _ d j (omega (arith, held_long))
      ∙ get_D_of_map f (map look ids) j (look 0) d (omega (arith, length-map ids look))
      ∙ ap f (List·getD-map look ids j 0)

  beyond : (j : ℕ) → length ids ≤ j → get_or l j d ≡ get_or (held ++ drop (length ids) l) j d
  beyond j q =
      let e : length ids + (j - length ids) ≡ j = omega arith in
      let z : length held + (j - length ids) ≡ j = omega (arith, held_long) in
      ap (λ (x : ℕ). get_or l x d) (sym e)
      ∙ sym (get_or-drop (length ids) l (j - length ids) d)
      ∙ sym (get_or-append-add held (drop (length ids) l) (j - length ids) d)
      ∙ ap (λ (x : ℕ). get_or (held ++ drop (length ids) l) x d) z

  long : length (held ++ drop (length ids) l) ≡ length l
  long = omega (arith, length-append held (drop (length ids) l), held_long, length-drop (length ids) l)

  as_page : ((j : ℕ) → j < length ids → get_or m j d ≡ f (answer_of look ids j)) → ((j : ℕ) → length ids ≤ j → get_or m j d ≡ get_or l j d)
      → m ≡ sets l 0 held
  as_page each rest =
      ext_get_or d m (held ++ drop (length ids) l) (len ∙ sym long)
      (λ j b. below_or j (length ids) (λ q. each j q ∙ sym (first j q)) (λ q. rest j q ∙ beyond j q))
      ∙ sym front

total_front : (f : ℕ → ℕ) (i n : ℕ) → total f i (suc n) ≡ f i + total (λ (j : ℕ). f (suc j)) i n
unfolding total
total_front f i zero = let e : i + 0 ≡ i = omega arith in let a : 0 + f (i + 0) ≡ f (i + 0) = omega arith in
    let b : f i ≡ f i + 0 = omega arith in a ∙ ap f e ∙ b
total_front f i (suc n) =
    let e : i + suc n ≡ suc (i + n) = omega arith in
    let q : total f i (suc n) ≡ f i + total (λ (j : ℕ). f (suc j)) i n = total_front f i n in
    let a : f i + total (λ (j : ℕ). f (suc j)) i n + f (suc (i + n)) ≡ f i + (total (λ (j : ℕ). f (suc j)) i n + f (suc (i + n))) = omega arith in
    ap₂ (λ (x y : ℕ). x + y) q (ap f e) ∙ a

words_page : (look : ℕ → Outcome Look) (ids : List ℕ) → page_words (map look ids) ≡ total (words_at look ids) 0 (length ids)
unfolding page_words total
words_page look [] = refl
words_page look (x ∷ ids) =
    ap (λ (n : ℕ). place_words (look x) + n) (words_page look ids) ∙ sym (total_front (words_at look (x ∷ ids)) 0 (length ids))

pub ends : (look : ℕ → Outcome Look) (ids : List ℕ) {i : ℕ} {l m : Lists} {w : ℕ} → Going look ids i l m w → length ids ≤ i
    → Room (length ids) (length l.ordinals) (length l.values) (length l.kinds)
    → Paged (map look ids) l.ordinals m.ordinals l.values m.values l.kinds m.kinds w
ends look ids {i} {l} {m} g h r =
    let e : length ids ≡ i = omega (arith, g.reached) in
    record {
      in_ordinals = as_page place_ordinal look ids l.ordinals m.ordinals 0 g.kept.in_ordinals r.ordinals_long
          (λ j b. (g.each j (omega arith)).ordinal) (λ j b. ap (λ (y : Held). y.ordinal) (g.above j 0 (omega arith)));
      in_values = as_page place_value look ids l.values m.values (pos 0) g.kept.in_values r.values_long
          (λ j b. (g.each j (omega arith)).value) (λ j b. ap (λ (y : Held). y.value) (g.above j 0 (omega arith)));
      in_kinds = as_page place_kind look ids l.kinds m.kinds 0 g.kept.in_kinds r.kinds_long
          (λ j b. (g.each j (omega arith)).kind) (λ j b. ap (λ (y : Held). y.kind) (g.above j 0 (omega arith)));
      words = g.words ∙ ap (λ (n : ℕ). n % 2 ^ 64) (ap (total (words_at look ids) 0) (sym e) ∙ sym (words_page look ids));
    }

-- ---- the reply and the lists

pub refused_so : (p : Outcome (List (Outcome Look))) (n : ℕ) (os : List ℕ) (vs : List ℤ) (ks : List ℕ) → p ≡ refused BUFFER n
    → Leaves p (Err (Re.Refusal.Buffer n)) os os vs vs ks ks
unfolding page_reply page_after
refused_so p n os vs ks e = rw e (refl, (refl, (refl, refl)))

pub done_so : (bytes ids : List ℕ) (w : ℕ) (os os' : List ℕ) (vs vs' : List ℤ) (ks ks' : List ℕ) → Room (length ids) (length os) (length vs) (length ks)
    → Paged (map (look_up editions bytes) ids) os os' vs vs' ks ks' w
    → Leaves (page editions bytes ids (length os) (length vs) (length ks)) (Ok w) os os' vs vs' ks ks'
unfolding page_reply
done_so bytes ids w os os' vs vs' ks ks' r t =
    rw (enough editions bytes ids (length os) (length vs) (length ks) r.ordinals_long r.values_long r.kinds_long) (
      ap {B = Outcome ℕ} (λ (n : ℕ). done n) t.words,
      (
        t.in_ordinals ∙ stored place_ordinal editions bytes ids os r.ordinals_long,
        (
          t.in_values ∙ stored place_value editions bytes ids vs r.values_long,
          t.in_kinds ∙ stored place_kind editions bytes ids ks r.kinds_long,
        ),
      ),
    )
