-- The directory as it is read: its summaries, written again, are its bytes. Assumes nothing.
use Rattle.format.specs.Kit.{◌≡◌, refl, sym, ap, ap₂, ◌∙◌, subst, List, [], ◌∷◌, ◌++◌, ℕ, zero, suc, ◌+◌, ◌*◌, ◌^◌, ◌<◌, ◌≤◌, arith, lit<, length, get_or, take}
use Rattle.format.specs.Kit.{drop, length-take-le, length-drop, drop-drop, drop-cons, take-add, mul-suc}
use Rattle.format.specs.Bytes.{bytes_of, digits, low, low_at, twos, untwos}
use Rattle.format.specs.Pairs.{Below, Fits}
use Rattle.format.specs.ValueRuns.{Summary, summary_bytes, summary_at}
use Rattle.laws.proofs.Digits.{below_take, below_drop, digits_from, from_lt}
use Rattle.laws.proofs.Fits.{twos_untwos, untwos_fits}

-- the summaries of k runs, r and on
unfoldable pub summaries_at : List ℕ → ℕ → ℕ → List Summary
summaries_at s zero r = []
summaries_at s (suc k) r = summary_at s r ∷ summaries_at s k (suc r)

module _ (s : List ℕ) (u : Below 256 s) where
  eight : (at : ℕ) → List ℕ
  eight at = take 8 (drop at s)

  eight_long : (at : ℕ) → at + 8 ≤ length s → length (eight at) ≡ 8
  unfolding eight
  eight_long at h = length-take-le 8 (drop at s) (omega (arith, length-drop at s))

  eight_below : (at : ℕ) → Below 256 (eight at)
  unfolding eight
  eight_below at = below_take 256 8 (drop at s) (below_drop 256 at s u)

  pub long_lt : (at : ℕ) → at + 8 ≤ length s → low_at 8 s at < 2 ^ 64
  unfolding low_at eight
  long_lt at h = subst (λ (n : ℕ). low_at 8 s at < 256 ^ n) (eight_long at h) (from_lt 256 (eight at) (lit< tt) (eight_below at))

  -- a long, written again
  long_again : (at : ℕ) → at + 8 ≤ length s → low 8 (low_at 8 s at) ≡ eight at
  unfolding low_at eight
  long_again at h =
      ap (λ (n : ℕ). digits 256 n (low_at 8 s at)) (sym (eight_long at h)) ∙ digits_from 256 (eight at) (lit< tt) (eight_below at)

  signed_again : (at : ℕ) → at + 8 ≤ length s → low 8 (twos (untwos (low_at 8 s at))) ≡ eight at
  signed_again at h = ap (low 8) (twos_untwos (low_at 8 s at) (long_lt at h)) ∙ long_again at h

  -- what is read of a run
  pub smallest_fits_at : (r : ℕ) → 25 * r + 25 ≤ length s → Fits (summary_at s r).smallest
  unfolding summary_at
  smallest_fits_at r h = untwos_fits (low_at 8 s (25 * r)) (long_lt (25 * r) (omega arith))

  pub greatest_fits_at : (r : ℕ) → 25 * r + 25 ≤ length s → Fits (summary_at s r).greatest
  unfolding summary_at
  greatest_fits_at r h = untwos_fits (low_at 8 s (25 * r + 8)) (long_lt (25 * r + 8) (omega arith))

  next_eight : (at m : ℕ) → take (8 + m) (drop at s) ≡ eight at ++ take m (drop (at + 8) s)
  unfolding eight
  next_eight at m = take-add 8 m (drop at s) ∙ ap (λ (l : List ℕ). take 8 (drop at s) ++ take m l) (drop-drop 8 at s)

  last_one : (at : ℕ) → at < length s → take 1 (drop at s) ≡ get_or s at 0 ∷ []
  last_one at h = ap (take 1) (drop-cons s at 0 h)

  summary_again : (r : ℕ) → 25 * r + 25 ≤ length s → summary_bytes (summary_at s r) ≡ take 25 (drop (25 * r) s)
  unfolding summary_bytes summary_at
  summary_again r h =
      let e : ℕ = 25 * r in
      let a : e + 8 + 8 ≡ e + 16 = omega arith in
      let b : e + 16 + 8 ≡ e + 24 = omega arith in
      rw (signed_again e (omega arith), signed_again (e + 8) (omega arith), long_again (e + 16) (omega arith))
      (sym
      (next_eight e 17
      ∙ ap (λ (l : List ℕ). eight e ++ l)
      (next_eight (e + 8) 9
      ∙ ap (λ (l : List ℕ). eight (e + 8) ++ l)
      (ap (λ (n : ℕ). take 9 (drop n s)) a ∙ next_eight (e + 16) 1
      ∙ ap (λ (l : List ℕ). eight (e + 16) ++ l) (ap (λ (n : ℕ). take 1 (drop n s)) b ∙ last_one (e + 24) (omega arith))))))

  pub directory_again : (k r : ℕ) → 25 * (r + k) ≤ length s → bytes_of summary_bytes (summaries_at s k r) ≡ take (25 * k) (drop (25 * r) s)
  unfolding summaries_at bytes_of
  directory_again zero r h = refl
  directory_again (suc k) r h =
      let n : 25 * suc k ≡ 25 + 25 * k = omega (arith, mul-suc 25 k) in
      let q : 25 * r + 25 ≡ 25 * suc r = omega (arith, mul-suc 25 r) in
      ap₂ (λ (x y : List ℕ). x ++ y) (summary_again r (omega arith)) (directory_again k (suc r) (omega arith))
      ∙ sym
      (ap (λ (m : ℕ). take m (drop (25 * r) s)) n ∙ take-add 25 (25 * k) (drop (25 * r) s)
      ∙ ap (λ (l : List ℕ). take 25 (drop (25 * r) s) ++ take (25 * k) l) (drop-drop 25 (25 * r) s ∙ ap (λ (m : ℕ). drop m s) q))
