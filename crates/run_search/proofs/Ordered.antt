-- The order of signed numbers, tested in their biased forms. Assumes nothing.
use Rattle.format.specs.Kit.{◌≡◌, sym, ap, ap₂, ◌∙◌, ◌&&◌, ℕ, suc, ◌-◌, ◌^◌, ◌≤◌, ◌<◌, arith, leb, ltb, ℤ, le_z, lt_z, mag, le-leb, lt-leb, le-ltb, lt-ltb}
use Rattle.format.specs.FirstBetween.{between}
use Rattle.laws.proofs.Cases.{below_or}
use Rattle.signed.specs.Sign.{biased, unbiased}
use Rattle.signed.proofs.Signs.{un_low, un_high, unbiased_biased}

leb_as : (a b c d : ℕ) → (a ≤ b → c ≤ d) → (b < a → d < c) → leb c d ≡ leb a b
leb_as a b c d f g = below_or b a (λ h. rw (lt-leb a b h, lt-leb c d (g h))) (λ h. rw (le-leb a b h, le-leb c d (f h)))

pub le_Z_unbiased : (x y : ℕ) → le_z (unbiased x) (unbiased y) ≡ leb x y
le_Z_unbiased x y =
    below_or x (2 ^ 63)
    (λ h. below_or y (2 ^ 63)
    (λ k. rw (un_low x h, un_low y k) (leb_as x y (2 ^ 63 - suc y) (2 ^ 63 - suc x) (λ l. omega arith) (λ l. omega arith)))
    (λ k. rw (un_low x h, un_high y k) (sym (le-leb x y (omega arith)))))
    (λ h. below_or y (2 ^ 63)
    (λ k. rw (un_high x h, un_low y k) (sym (lt-leb x y (omega arith))))
    (λ k. rw (un_high x h, un_high y k) (leb_as x y (x - 2 ^ 63) (y - 2 ^ 63) (λ l. omega arith) (λ l. omega arith))))

ltb_as : (a b c d : ℕ) → (a < b → c < d) → (b ≤ a → d ≤ c) → ltb c d ≡ ltb a b
ltb_as a b c d f g = below_or a b (λ h. rw (lt-ltb a b h, lt-ltb c d (f h))) (λ h. rw (le-ltb a b h, le-ltb c d (g h)))

pub lt_Z_unbiased : (x y : ℕ) → lt_z (unbiased x) (unbiased y) ≡ ltb x y
lt_Z_unbiased x y =
    below_or x (2 ^ 63)
    (λ h. below_or y (2 ^ 63)
    (λ k. rw (un_low x h, un_low y k) (ltb_as x y (2 ^ 63 - suc y) (2 ^ 63 - suc x) (λ l. omega arith) (λ l. omega arith)))
    (λ k. rw (un_low x h, un_high y k) (sym (lt-ltb x y (omega arith)))))
    (λ h. below_or y (2 ^ 63)
    (λ k. rw (un_high x h, un_low y k) (sym (le-ltb x y (omega arith))))
    (λ k. rw (un_high x h, un_high y k) (ltb_as x y (x - 2 ^ 63) (y - 2 ^ 63) (λ l. omega arith) (λ l. omega arith))))

-- a value of 64 bits
pub between_is : (low high b : ℕ) (v : ℤ) → mag v < 2 ^ 63 → b ≡ biased v → between (unbiased low) (unbiased high) v ≡ (leb low b && leb b high)
between_is low high b v f e =
    ap (between (unbiased low) (unbiased high)) (sym (ap unbiased e ∙ unbiased_biased v f)) ∙ ap₂ ◌&&◌ (le_Z_unbiased low b) (le_Z_unbiased b high)
