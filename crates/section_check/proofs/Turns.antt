-- The turns of the judge's loops. Over the blocks the loop keeps a fuel that will do, and that the judge from the start is the judge from here;
-- over equal entries, that those passed were right. Assumes nothing.
use Rattle.format.specs.Kit.{◌≡◌, refl, sym, ap, ap₂, ◌∙◌, Bool, true, false, cond, ◌&&◌, List, [], ◌∷◌, ◌++◌, ℕ, zero, suc, ◌+◌, ◌-◌, ◌*◌, ◌<◌, ◌≤◌}
use Rattle.format.specs.Kit.{arith, add-one, eqb, leb, length, take, drop, replicate, get_or, eq-eqb, ne_eqb, le-leb, lt-leb, lt-ltb, le-ltb}
use Rattle.format.specs.Kit.{leb-true}
use Rattle.format.specs.Limits.{max_block, end_number}
use Rattle.format.specs.Refusals.{Outcome, done, refused, need}
use Rattle.format.specs.Bytes.{same}
use Rattle.format.specs.Ids.{Entry, data_bytes, block_bytes}
use Rattle.format.specs.Orders.{Order, fixed_at, end_in, entry_in}
use Rattle.format.specs.Judge.{cut_off, block_order, place_order, ones_unlike, rank_wrong, end_wrong, places_ok, ones_ok, ranks_ok, first_failed, tests_at, unless_fault}
use Rattle.format.specs.Judge.{Ended, judge_from, judge_entries}
use Rattle.answers.specs.Replies.{reason_number}
use Rattle.answers.specs.declared.Reason.{Reason}
use Rattle.answers.specs.declared.Reason.TheVariants.{CutOff, BlockOrder, PlaceOrder, OnesUnlike, RankWrong, EndWrong, JumpWrong, LeftOver}
use Rattle.laws.proofs.Sizes.{block_total}
use Rattle.laws.proofs.Tests.{both_true}
use Rattle.section_check.proofs.Bytes.{entry_same, end_same}
use Rattle.section_check.specs.Reasons.{head_then, words_reason, block_reason, end_reason, Turn, Repeats}

-- ---- reasons

-- none has number 0
pub some_reason : (why : Reason) → reason_number why ≡ 0 → ⊥
some_reason CutOff e = omega arith
some_reason BlockOrder e = omega arith
some_reason PlaceOrder e = omega arith
some_reason OnesUnlike e = omega arith
some_reason RankWrong e = omega arith
some_reason EndWrong e = omega arith
some_reason JumpWrong e = omega arith
some_reason LeftOver e = omega arith

-- what goes on where there is none
unfoldable pub by_reason : ℕ → ℕ → Outcome Ended → Outcome Ended
by_reason zero at more = more
by_reason (suc r) at more = refused (suc r) at

-- the table of a block that is not the end block, whose head is there
block_table : (b q l n r : Bool) (at : ℕ) (more : Outcome Ended)
    → unless_fault (first_failed ((b, cut_off) ∷ (q, block_order) ∷ (l, place_order) ∷ (n, ones_unlike) ∷ (r, rank_wrong) ∷ (true, end_wrong) ∷ [])) at more
    ≡ by_reason (cond b (cond q (cond l (cond n (cond r 0 rank_wrong) ones_unlike) place_order) block_order) cut_off) at more
unfolding first_failed unless_fault by_reason
block_table false q l n r at more = refl
block_table true false l n r at more = refl
block_table true true false n r at more = refl
block_table true true true false r at more = refl
block_table true true true true false at more = refl
block_table true true true true true at more = refl

-- and that of the end block
end_table : (b x : Bool) (at : ℕ) (more : Outcome Ended)
    → unless_fault (first_failed ((b, cut_off) ∷ (true, block_order) ∷ (true, place_order) ∷ (true, ones_unlike) ∷ (true, rank_wrong) ∷ (x, end_wrong) ∷ [])) at more
    ≡ by_reason (cond b (cond x 0 end_wrong) cut_off) at more
unfolding first_failed unless_fault by_reason
end_table false x at more = refl
end_table true false at more = refl
end_table true true at more = refl

no_reason : (r at : ℕ) (more : Outcome Ended) → r ≡ 0 → by_reason r at more ≡ more
unfolding by_reason
no_reason r at more e = rw e

a_reason : (x r at : ℕ) (more : Outcome Ended) → r ≡ x → (r ≡ 0 → ⊥) → by_reason x at more ≡ refused r at
unfolding by_reason
a_reason x zero at more e h = absurd (h refl)
a_reason x (suc r) at more e h = rw (← e)

-- a block without a reason
pub record Sound (p : ℕ) (s : List ℕ) (at next k c : ℕ) : Type 0 where
  pub fits : at + block_bytes p c ≤ length s
  pub after : next ≤ k
  pub most : k ≤ max_block

passes : (t : Bool) (r n : ℕ) → cond t r (suc n) ≡ 0 → (t ≡ true) × (r ≡ 0)
passes true r n e = (refl, e)
passes false r n e = absurd (omega arith)

module _ (p : ℕ) (s : List ℕ) (at next k c : ℕ) where
  pub head_sound : (more : ℕ) → head_then p s at next k c more ≡ 0 → Sound p s at next k c
  head_sound more e =
      let a = passes _ _ 0 e in
      let b = both_true (leb next k) (leb k max_block) (passes _ _ 1 a.1).0 in
      record { fits = leb-true _ _ a.0; after = leb-true _ _ b.0; most = leb-true _ _ b.1 }

pub sound : (ord : Order) (p : ℕ) (s : List ℕ) (at next k c : ℕ) → block_reason ord p s at next k c ≡ 0 → Sound p s at next k c
unfolding block_reason
sound ord p s at next k c e = head_sound p s at next k c _ e

-- ---- the blocks

pub begin : (ord : Order) (p : ℕ) (s : List ℕ) → Turn (judge_from (suc (length s)) ord p s 0 0 0) ord p s 0 0 0
begin ord p s = record { fuel = suc (length s); enough = omega arith; same = refl }

module _ (whole : Outcome Ended) (ord : Order) (p : ℕ) (s : List ℕ) (at o next : ℕ) (t : Turn whole ord p s at o next) (l : at ≤ length s) where
  fuel_left : t.fuel ≡ suc (t.fuel - 1)
  fuel_left = omega (arith, t.enough)

  here : whole ≡ judge_from (suc (t.fuel - 1)) ord p s at o next
  here = t.same ∙ ap (λ (f : ℕ). judge_from f ord p s at o next) fuel_left

  pub turn_short : length s < at + 4 → refused cut_off at ≡ whole
  unfolding judge_from tests_at first_failed unless_fault
  turn_short h = sym (here ∙ rw (lt-leb (at + 4) (length s) h))

  module _ (h : at + 4 ≤ length s) where
    -- at the end block
    module _ (r : ℕ) (e : fixed_at ord 2 s at ≡ end_number) (q : r ≡ end_reason ord s at) where
      at_end : whole ≡ by_reason (end_reason ord s at) at (done (record { start = at; count = o; next = next }))
      unfolding judge_from tests_at end_reason
      at_end =
          here ∙ rw (le-leb (at + 4) (length s) h, e)
          (end_table (leb (at + 6) (length s)) (same (take 6 (drop at s)) (end_in ord)) at (done (record { start = at; count = o; next = next })))

      pub turn_end : r ≡ 0 → done (record { start = at; count = o; next = next }) ≡ whole
      turn_end z = sym (at_end ∙ no_reason (end_reason ord s at) at _ (sym q ∙ z))

      pub turn_bad_end : (r ≡ 0 → ⊥) → refused r at ≡ whole
      turn_bad_end z = sym (at_end ∙ a_reason (end_reason ord s at) r at _ q z)

    -- at a block of number k and c ids
    module _ (c : ℕ) (k : ℕ) (ek : k ≡ fixed_at ord 2 s at) (hk : k ≡ end_number → ⊥) (ec : c ≡ fixed_at ord 2 s (at + 2) + 1) where
      at_block : whole ≡ by_reason (block_reason ord p s at next k c) at (judge_from (t.fuel - 1) ord p s (at + block_bytes p c) (o + c) (k + 1))
      unfolding judge_from tests_at block_reason
      at_block =
          let y : suc (fixed_at ord 2 s (at + 2)) ≡ c = omega arith in
          here ∙ rw (le-leb (at + 4) (length s) h, ← ek, ne_eqb k end_number hk, y, add-one k)
          (block_table (leb (at + block_bytes p c) (length s)) (leb next k && leb k max_block) (places_ok ord s (at + 4) c) (ones_ok p s (at + 4) c)
          (ranks_ok p s (at + 4) c) at (judge_from (t.fuel - 1) ord p s (at + block_bytes p c) (o + c) (suc k)))

      pub turn_bad : (r : ℕ) → r ≡ block_reason ord p s at next k c → (r ≡ 0 → ⊥) → refused r at ≡ whole
      turn_bad r q z = sym (at_block ∙ a_reason (block_reason ord p s at next k c) r at _ q z)

      pub turn_on : (to : ℕ) → to ≡ at + block_bytes p c → block_reason ord p s at next k c ≡ 0 → Turn whole ord p s to (o + c) (k + 1)
      turn_on to e q =
          rw e
          (record {
            fuel = t.fuel - 1;
            enough = omega (arith, t.enough, fuel_left, block_total p c);
            same = at_block ∙ no_reason (block_reason ord p s at next k c) at _ q;
          })

-- ---- what the tests of a block give

-- a reason is the same, whatever would be left
told : (b q : Bool) (r more : ℕ) → r ≡ cond b (cond q 0 block_order) cut_off → (r ≡ 0 → ⊥) → r ≡ cond b (cond q more block_order) cut_off
told false q r more e h = e
told true false r more e h = e
told true true r more e h = absurd (h e)

module _ (p : ℕ) (s : List ℕ) (at next k c : ℕ) where
  pub head_cut : length s < at + 4 + data_bytes p c → 1 ≡ head_then p s at next k c 0
  head_cut h = rw (lt-leb (at + block_bytes p c) (length s) (omega (arith, block_total p c)))

  module _ (h : at + 4 + data_bytes p c ≤ length s) where
    fit : leb (at + block_bytes p c) (length s) ≡ true
    fit = le-leb (at + block_bytes p c) (length s) (omega (arith, block_total p c))

    pub head_low : k < next → 2 ≡ head_then p s at next k c 0
    head_low l = rw (fit, lt-leb next k l)

    pub head_high : next ≤ k → max_block < k → 2 ≡ head_then p s at next k c 0
    head_high l m = rw (fit, le-leb next k l, lt-leb k max_block m)

    pub head_right : next ≤ k → k ≤ max_block → (more : ℕ) → head_then p s at next k c more ≡ more
    head_right l m more = rw (fit, le-leb next k l, le-leb k max_block m)

  module _ (ord : Order) where
    pub reason_head : (r : ℕ) → r ≡ head_then p s at next k c 0 → (r ≡ 0 → ⊥) → r ≡ block_reason ord p s at next k c
    unfolding block_reason
    reason_head r e h = told (leb (at + block_bytes p c) (length s)) (leb next k && leb k max_block) r _ e h

    -- the head has none
    module _ (o : head_then p s at next k c 0 ≡ 0) where
      left : (more : ℕ) → head_then p s at next k c more ≡ more
      left more = let w = head_sound p s at next k c 0 o in head_right (omega (arith, w.fits, block_total p c)) w.after w.most more

      pub reason_places : places_ok ord s (at + 4) c ≡ false → 3 ≡ block_reason ord p s at next k c
      unfolding block_reason
      reason_places x = sym (left _ ∙ rw x)

      pub reason_words : (r : ℕ) → places_ok ord s (at + 4) c ≡ true → r ≡ words_reason p s (at + 4) c → r ≡ block_reason ord p s at next k c
      unfolding block_reason
      reason_words r x e = sym (left _ ∙ rw x (sym e))

pub end_cut : (ord : Order) (s : List ℕ) (at : ℕ) → length s < at + 6 → 1 ≡ end_reason ord s at
unfolding end_reason
end_cut ord s at h = rw (lt-leb (at + 6) (length s) h)

module _ (ord : Order) (s : List ℕ) (at : ℕ) (u : (i : ℕ) → get_or s i 0 < 256) (h : at + 6 ≤ length s) (e : fixed_at ord 2 s at ≡ end_number) where
  pub end_count : (fixed_at ord 2 s (at + 2) ≡ 0 → ⊥) → 6 ≡ end_reason ord s at
  unfolding end_reason
  end_count k = rw (le-leb (at + 6) (length s) h, end_same ord s u at h, e, ne_eqb (fixed_at ord 2 s (at + 2)) 0 k)

  pub end_place : fixed_at ord 2 s (at + 2) ≡ 0 → (fixed_at ord 2 s (at + 4) ≡ 65535 → ⊥) → 6 ≡ end_reason ord s at
  unfolding end_reason
  end_place f k = rw (le-leb (at + 6) (length s) h, end_same ord s u at h, e, f, ne_eqb (fixed_at ord 2 s (at + 4)) 65535 k)

  pub end_good : fixed_at ord 2 s (at + 2) ≡ 0 → fixed_at ord 2 s (at + 4) ≡ 65535 → 0 ≡ end_reason ord s at
  unfolding end_reason
  end_good f g = rw (le-leb (at + 6) (length s) h, end_same ord s u at h, e, f, g)

-- ---- one entry

module _ (ord : Order) (s : List ℕ) (b o a : ℕ) (u : (i : ℕ) → get_or s i 0 < 256) (h : b + 8 ≤ length s) (ho : o < 4294967296) (ha : a < 4294967296) where
  pub entry_bad : (fixed_at ord 4 s b ≡ o → ⊥) → false ≡ same (take 8 (drop b s)) (entry_in ord (o, a))
  entry_bad k = rw (entry_same ord s u b o a h ho ha, ne_eqb (fixed_at ord 4 s b) o k)

  pub entry_good : (x : ℕ) → fixed_at ord 4 s b ≡ o → x ≡ fixed_at ord 4 s (b + 4) → eqb x a ≡ same (take 8 (drop b s)) (entry_in ord (o, a))
  entry_good x e f = rw (entry_same ord s u b o a h ho ha, eq-eqb (fixed_at ord 4 s b) o e, ← f)

-- ---- entries that repeat, in a loop

abbrev pub Kept : Order → List ℕ → ℕ → ℕ → ℕ → ℕ → ℕ → Type 0
Kept ord s from n o at i =
    (more : List Entry) → judge_entries ord (replicate n (o, at) ++ more) s from ≡ judge_entries ord (replicate (n - i) (o, at) ++ more) s (from + 8 * i)

module _ (ord : Order) (s : List ℕ) (from n o at : ℕ) where
  module _ (i : ℕ) (t : Kept ord s from n o at i) where
    pub kept_on : i < n → same (take 8 (drop (from + 8 * i) s)) (entry_in ord (o, at)) ≡ true → Kept ord s from n o at (i + 1)
    unfolding judge_entries need
    kept_on h e more =
        let f : n - i ≡ suc (n - (i + 1)) = omega arith in
        let g : from + 8 * i + 8 ≡ from + 8 * (i + 1) = omega arith in
        t more ∙ ap (λ (x : ℕ). judge_entries ord (replicate x (o, at) ++ more) s (from + 8 * i)) f ∙ rw (e, g) refl

    pub kept_stop : i < n → same (take 8 (drop (from + 8 * i) s)) (entry_in ord (o, at)) ≡ false → Repeats ord s from n o at i
    unfolding judge_entries need Repeats
    kept_stop h e more =
        let f : n - i ≡ suc (n - (i + 1)) = omega arith in
        t more ∙ ap (λ (x : ℕ). judge_entries ord (replicate x (o, at) ++ more) s (from + 8 * i)) f ∙ rw (e, lt-ltb i n h) refl

    pub kept_end : i ≡ n → Repeats ord s from n o at n
    unfolding Repeats
    kept_end e more =
        let f : n - i ≡ 0 = omega arith in
        t more ∙ ap₂ (λ (x y : ℕ). judge_entries ord (replicate x (o, at) ++ more) s (from + 8 * y)) f e ∙ rw (le-ltb n n (omega arith)) refl
