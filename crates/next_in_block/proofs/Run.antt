-- Runs of absent places are passed over. Assumes nothing.
use Rattle.format.specs.Kit.{◌≡◌, refl, ◌∙◌, ℕ, zero, suc, ◌+◌, ◌-◌, ◌≤◌, ◌<◌, add-zero, arith}
use Rattle.format.specs.LookUp.{Place, nowhere}
use Rattle.next_in_block.specs.First.{meets_none, meets_by, first_in}

module _ (f : ℕ → Place) (w : ℕ) where
  passed : (j k x : ℕ) → ((y : ℕ) → x ≤ y → y < x + j → f y ≡ nowhere w) → first_in (j + k) f x ≡ first_in k f (x + j)
  unfolding first_in meets_by
  passed zero k x h =
      let e : 0 + k ≡ k = omega arith in
      rw (e, add-zero x)
  passed (suc j) k x h =
      let e : suc j + k ≡ suc (j + k) = omega arith in
      let g : suc x + j ≡ x + suc j = omega arith in
      rw (e, h x (omega arith) (omega arith)) (passed j k (suc x) (λ y a b. h y (omega arith) (omega arith)) ∙ rw g)

  -- the first place that is not passed over decides
  pub first_is : (n x y : ℕ) → x ≤ y → y < x + n → ((z : ℕ) → x ≤ z → z < y → f z ≡ nowhere w)
      → first_in n f x ≡ meets_by y (f y) (first_in (n - (y - x) - 1) f (suc y))
  unfolding first_in
  first_is n x y a b h =
      let e : n ≡ (y - x) + suc (n - (y - x) - 1) = omega arith in
      let g : x + (y - x) ≡ y = omega arith in
      let p = passed (y - x) (suc (n - (y - x) - 1)) x (λ z l m. h z l (omega arith)) in
      (rw (← e) at p) ∙ rw g

  pub none_is : (n x : ℕ) → ((z : ℕ) → x ≤ z → z < x + n → f z ≡ nowhere w) → first_in n f x ≡ meets_none
  unfolding first_in
  none_is n x h = (rw (add-zero n) at (passed n 0 x h))

-- places that give the same
pub same_first : (f g : ℕ → Place) → ((y : ℕ) → f y ≡ g y) → (k x : ℕ) → first_in k f x ≡ first_in k g x
unfolding first_in
same_first f g h zero x = refl
same_first f g h (suc k) x = rw (h x, same_first f g h k (suc x))
