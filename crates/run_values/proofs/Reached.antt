-- Edition 3's header rules as facts; step 7 in a run, by the bytes that are left for it. Assumes nothing.
use Rattle.format.specs.Kit.{◌≡◌, sym, ap, ◌∙◌, true, false, cond, ◌||◌, List, none, ℕ, ◌+◌, ◌-◌, ◌*◌, ◌^◌, ◌≤◌, ◌<◌, mul-zero, arith, leb, eqb, length, drop}
use Rattle.format.specs.Kit.{length-drop, drop-drop, leb-true, eqb-true, eq-eqb, ne_eqb}
use Rattle.format.specs.Limits.{max_width}
use Rattle.format.specs.Bytes.{untwos}
use Rattle.format.specs.Bits.{gather, fetched}
use Rattle.format.specs.Values.{value_at}
use Rattle.format.specs.Codec.{Fields, signed64}
use Rattle.format.specs.ValueRuns.{directory_length, Summary, in_run}
use Rattle.format.specs.Editions.{runs, codec}
use Rattle.laws.proofs.Cases.{equal_or}
use Rattle.laws.proofs.Tests.{both_true}
use Rattle.laws.proofs.Fits.{fits_size, untwos_fits}
use Rattle.laws.proofs.Editions.{runs_rules}
use Rattle.signed.specs.Sign.{biased, unbiased}
use Rattle.signed.proofs.Signs.{unbiased_biased}
use Rattle.run_values.specs.Summaries.{reaches_in}

-- ---- the header rules

pub record Rules (n : ℕ) (f : Fields) (v : ℕ) : Type 0 where
  pub no_width : f.width ≡ 0
  pub no_smallest : f.smallest ≡ 0
  pub positive : 1 ≤ f.divisor
  pub directory : directory_length n ≤ v

pub rules_kept : (n : ℕ) (f : Fields) (v : ℕ) → (codec runs).fields_ok n f v ≡ true → Rules n f v
rules_kept n f v e =
    let c = both_true _ _ (sym (runs_rules n f v) ∙ e) in
    let b = both_true _ _ c.0 in
    let a = both_true _ _ b.0 in
    record { no_width = eqb-true _ _ a.0; no_smallest = eqb-true _ _ a.1; positive = leb-true _ _ b.1; directory = leb-true _ _ c.1 }

-- ---- a number of the directory

pub turned_value : (x r y : ℕ) → x < 2 ^ 64 → r ≡ biased (untwos x) → x ≡ y → unbiased r ≡ untwos y
turned_value x r y h e f = ap unbiased e ∙ unbiased_biased (untwos x) (fits_size (untwos x) (untwos_fits x h)) ∙ ap untwos f

-- ---- what a number reaches

or_other : (w a b : ℕ) → (eqb w 0 || leb a b) ≡ true → (w ≡ 0 → ⊥) → a ≤ b
or_other w a b e z = leb-true a b (rw (ne_eqb w 0 z) at e)

module _ (room start w k : ℕ) (e : reaches_in room start w k ≡ true) where
  pub narrow : w ≤ max_width
  narrow = leb-true _ _ (both_true (leb w max_width) _ e).0

  pub reach : (w ≡ 0 → ⊥) → k * w + w ≤ 8 * (room - start)
  reach z = or_other w (k * w + w) (8 * (room - start)) (both_true (leb w max_width) _ e).1 z

module _ (len from start w k at : ℕ) (within : from ≤ len) (is : at ≡ cond (eqb w 0) from (from + start)) (e : reaches_in (len - from) start w k ≡ true) where
  pub at_reached : (at ≤ len) × (k * w + w ≤ 8 * (len - at))
  at_reached =
      equal_or w 0
      (λ z.
      let here : at ≡ from = is ∙ rw (eq-eqb w 0 z) in
      let none_taken : k * w ≡ 0 = ap (λ (n : ℕ). k * n) z ∙ mul-zero k in
      (omega arith, omega arith))
      (λ z.
      let here : at ≡ from + start = is ∙ rw (ne_eqb w 0 z) in
      (omega (arith, reach (len - from) start w k e z), omega (arith, reach (len - from) start w k e z)))

-- ---- the value

module _ (s : List ℕ) (from g : ℕ) (x : Summary) (k : ℕ) where
  room_is : length s - from - x.start ≡ length (drop x.start (drop from s))
  room_is = sym (length-drop x.start (drop from s) ∙ ap (λ (n : ℕ). n - x.start) (length-drop from s))

  pub not_reached : reaches_in (length s - from) x.start x.width k ≡ false → none ≡ in_run g (drop from s) x k
  unfolding in_run
  not_reached e = rw (rw room_is at e)

  same_number : (at : ℕ) → at ≡ cond (eqb x.width 0) from (from + x.start)
      → fetched (drop at s) x.width k ≡ fetched (drop x.start (drop from s)) x.width k
  unfolding fetched gather
  same_number at is =
      equal_or x.width 0
      (λ z. rw z)
      (λ z.
      let here : at ≡ from + x.start = is ∙ rw (ne_eqb x.width 0 z) in
      ap (λ (l : List ℕ). fetched l x.width k) (ap (λ (n : ℕ). drop n s) here ∙ sym (drop-drop x.start from s)))

  pub reached : (at : ℕ) → at ≡ cond (eqb x.width 0) from (from + x.start) → reaches_in (length s - from) x.start x.width k ≡ true
      → signed64 (value_at x.smallest g (fetched (drop at s) x.width k)) ≡ in_run g (drop from s) x k
  unfolding in_run
  reached at is e = rw (rw room_is at e) (ap (λ (n : ℕ). signed64 (value_at x.smallest g n)) (same_number at is))
