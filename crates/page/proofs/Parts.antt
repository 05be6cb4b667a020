-- A part of a page, place by place: sums of words, what a store leaves, and one place more. Assumes nothing.
use Rattle.format.specs.Kit.{◌≡◌, refl, sym, ap, ◌∙◌, subst, List, ℕ, zero, suc, ◌+◌, ◌-◌, ◌%◌, ◌^◌, ◌≤◌, ◌<◌, add-zero, arith, pos, length}
use Rattle.format.specs.Kit.{length-set, get_or-set_same, get_or-set_other}
use Rattle.format.specs.Refusals.{Outcome}
use Rattle.format.specs.LookUp.{Look}
use Rattle.laws.proofs.Cases.{equal_or}
use Rattle.page.specs.Placed.{Holds, Stored}
use Rattle.page.specs.Parts.{Lists, place_in, Kept, Within, total, answer_of, words_at, answered_at, Filled}
use Rattle.page.specs.declared.Held.{Held}

-- ---- sums

total_none : (f : ℕ → ℕ) (i : ℕ) → total f i (i - i) ≡ 0
unfolding total
total_none f i = let e : i - i ≡ 0 = omega arith in ap (total f i) e

pub total_more : (f : ℕ → ℕ) (i k : ℕ) → i ≤ k → total f i (k + 1 - i) ≡ total f i (k - i) + f k
unfolding total
total_more f i k h =
    let e : k + 1 - i ≡ suc (k - i) = omega arith in
    let g : i + (k - i) ≡ k = omega arith in
    ap (total f i) e ∙ ap (λ (x : ℕ). total f i (k - i) + f x) g

pub total_join : (f : ℕ → ℕ) (i n : ℕ) → total f 0 i + total f i n ≡ total f 0 (i + n)
unfolding total
total_join f i zero = let e : total f 0 i + 0 ≡ total f 0 i = omega arith in e ∙ ap (total f 0) (sym (add-zero i))
total_join f i (suc n) =
    let e : i + suc n ≡ suc (i + n) = omega arith in
    let z : 0 + (i + n) ≡ i + n = omega arith in
    let a : total f 0 (i + suc n) ≡ total f 0 (i + n) + f (i + n) = ap (total f 0) e ∙ ap (λ (x : ℕ). total f 0 (i + n) + f x) z in
    let b : total f 0 i + (total f i n + f (i + n)) ≡ total f 0 i + total f i n + f (i + n) = omega arith in
    b ∙ ap (λ (x : ℕ). x + f (i + n)) (total_join f i n) ∙ sym a

-- ---- one store

module _ {h : Held} {k : ℕ} {l m : Lists} (t : Stored h k l.ordinals m.ordinals l.values m.values l.kinds m.kinds) where
  pub other : (j w : ℕ) → (j ≡ k → ⊥) → place_in m j w ≡ place_in l j w
  other j w n =
      rw (
        t.ordinal,
        t.value,
        t.kind,
        get_or-set_other l.ordinals k j h.ordinal 0 n,
        get_or-set_other l.values k j h.value (pos 0) n,
        get_or-set_other l.kinds k j h.kind 0 n,
      ) refl

  pub keeps : Kept l m
  keeps =
      record {
        in_ordinals = ap length t.ordinal ∙ length-set l.ordinals k h.ordinal;
        in_values = ap length t.value ∙ length-set l.values k h.value;
        in_kinds = ap length t.kind ∙ length-set l.kinds k h.kind;
      }

  module _ (a : k < length l.ordinals) (b : k < length l.values) (c : k < length l.kinds) where
    pub here : (w : ℕ) → place_in m k w ≡ record { ordinal = h.ordinal; kind = h.kind; value = h.value; words = w }
    here w =
        rw (
          t.ordinal,
          t.value,
          t.kind,
          get_or-set_same l.ordinals k h.ordinal 0 a,
          get_or-set_same l.values k h.value (pos 0) b,
          get_or-set_same l.kinds k h.kind 0 c,
        ) refl

pub kept_both : {l m n : Lists} → Kept l m → Kept m n → Kept l n
kept_both p q =
    record {
      in_ordinals = q.in_ordinals ∙ p.in_ordinals;
      in_values = q.in_values ∙ p.in_values;
      in_kinds = q.in_kinds ∙ p.in_kinds;
    }

kept_none : (l : Lists) → Kept l l
kept_none l = record { in_ordinals = refl; in_values = refl; in_kinds = refl }

within_on : {h : Held} {i k : ℕ} {l m n : Lists} → Within i k l m → i ≤ k
    → Stored h k m.ordinals n.ordinals m.values n.values m.kinds n.kinds → Within i (k + 1) l n
within_on g a t =
    record {
      kept = kept_both g.kept (keeps t);
      below = λ j w b. other t j w (λ e. omega arith) ∙ g.below j w b;
      above = λ j w b. other t j w (λ e. omega arith) ∙ g.above j w (omega arith);
    }

-- ---- one place more

pub holds_so : {x : Outcome Look} {h : Held} → Holds x h → (w : ℕ) → w ≡ h.words
    → Holds x (record { ordinal = h.ordinal; kind = h.kind; value = h.value; words = w })
holds_so q w e = record { ordinal = q.ordinal; value = q.value; kind = q.kind; words = e ∙ q.words }

pub fills_none : (look : ℕ → Outcome Look) (ids : List ℕ) (i : ℕ) (l : Lists) (w : ℕ) → w < 2 ^ 64 → Filled look ids i i l l w w
fills_none look ids i l w s =
    record {
      within = record { kept = kept_none l; below = λ j x b. refl; above = λ j x b. refl };
      each = λ j a b. absurd (omega arith);
      words = omega (arith, total_none (words_at look ids) i);
    }

pub fills_on : {look : ℕ → Outcome Look} {ids : List ℕ} {i k : ℕ} {l m n : Lists} {v w w' : ℕ} {h : Held} → Filled look ids i k l m v w → i ≤ k
    → (k < length m.ordinals) × (k < length m.values) × (k < length m.kinds) → Holds (answer_of look ids k) h
    → Stored h k m.ordinals n.ordinals m.values n.values m.kinds n.kinds → w' ≡ (w + h.words) % 2 ^ 64
    → Filled look ids i (k + 1) l n v w'
fills_on {look} {ids} {i} {k} {n = n} g a r p t e =
    let q = total_more (words_at look ids) i k a in
    let at-k : answered_at look ids n k =
    subst (λ (y : Held). Holds (answer_of look ids k) y) (sym (here t r.0 r.1 r.2 (words_at look ids k))) (holds_so p _ (sym p.words)) in
    record {
      within = within_on g.within a t;
      each = λ j b d.
          equal_or j k (λ x. subst (answered_at look ids n) (sym x) at-k)
          (λ x. subst (λ (y : Held). Holds (answer_of look ids j) y) (sym (other t j (words_at look ids j) x)) (g.each j b (omega arith)));
      words = omega (arith, e, g.words, q, p.words);
    }
