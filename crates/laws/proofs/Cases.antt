-- One order or the other, equal or not, true or false, as continuations: a recursive call may stand in them, as it may not in a `where`.
-- Assumes nothing.
use Rattle.format.specs.Kit.{◌≡◌, refl, Bool, true, false, ℕ, ◌<◌, ◌≤◌, lt_of_not-le, dec_le, ℕ_discrete, arith}

pub below_or {ℓ} : {X : Type ℓ} (a b : ℕ) → (a < b → X) → (b ≤ a → X) → X
below_or a b f g = elim (dec_le b a) [ yes h ↦ g h | no h ↦ f (lt_of_not-le h) ]

pub equal_or {ℓ} : {X : Type ℓ} (a b : ℕ) → (a ≡ b → X) → ((a ≡ b → ⊥) → X) → X
equal_or a b f g = elim (ℕ_discrete a b) [ yes h ↦ f h | no h ↦ g h ]

pub true_or {ℓ} : {X : Type ℓ} (t : Bool) → (t ≡ true → X) → (t ≡ false → X) → X
true_or true f g = f refl
true_or false f g = g refl

-- and not both
pub false_true {ℓ} : {X : Type ℓ} → false ≡ true → X
false_true e = absurd (let z : ◌≡◌ {A = ℕ} 0 1 = cc in omega arith)
