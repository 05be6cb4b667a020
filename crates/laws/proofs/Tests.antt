-- Chains of tests: what a chain that was passed says of each of its tests, and what its tests say of a chain. Assumes nothing.
use Rattle.format.specs.Kit.{◌≡◌, refl, Bool, true, false, ◌&&◌, ◌||◌, Option, none, some, ℕ, arith}
use Rattle.format.specs.Refusals.{Outcome, done, refused, and_then, need, given, need_none}

-- ---- steps that may refuse

module _ {A : Type 0} where
  abbrev pub result : A → Outcome A → A
  result d (done a) = a
  result d (refused why w) = d

  pub needed : (t : Bool) (why w : ℕ) (next : Outcome A) (a : A) → need t why w next ≡ done a → (t ≡ true) × (next ≡ done a)
  unfolding need
  needed true why w next a e = (refl, e)
  needed false why w next a e = absurd (let z : ◌≡◌ {A = ℕ} 0 1 = cc in omega arith)

  pub needed_none : (o : Option ℕ) (why : ℕ) (next : Outcome A) (a : A) → need_none o why next ≡ done a → (o ≡ none) × (next ≡ done a)
  unfolding need_none
  needed_none none why next a e = (refl, e)
  needed_none (some i) why next a e = absurd (let z : ◌≡◌ {A = ℕ} 0 1 = cc in omega arith)

pub given_some : {A : Type 0} (o : Option A) (why w : ℕ) (a : A) → given o why w ≡ done a → o ≡ some a
unfolding given
given_some (some x) why w a e = cc
given_some none why w a e = absurd (let z : ◌≡◌ {A = ℕ} 0 1 = cc in omega arith)

pub passed : {A B : Type 0} (o : Outcome A) (f : A → Outcome B) (b : B) → and_then o f ≡ done b → (a : A) × (o ≡ done a) × (f a ≡ done b)
unfolding and_then
passed (done a) f b e = (a, refl, e)
passed (refused why w) f b e = absurd (let z : ◌≡◌ {A = ℕ} 0 1 = cc in omega arith)

-- a chain that was stopped: at its first step, or after it
pub stopped : {A B X : Type 0} (o : Outcome A) (f : A → Outcome B) (why w : ℕ) → and_then o f ≡ refused why w → (o ≡ refused why w → X)
    → ((a : A) → o ≡ done a → f a ≡ refused why w → X) → X
unfolding and_then
stopped (done a) f why w e now later = later a refl e
stopped (refused v x) f why w e now later = now (cc)

pub need_stopped : {A X : Type 0} (t : Bool) (k v : ℕ) (next : Outcome A) (why w : ℕ) → need t k v next ≡ refused why w → (why ≡ k → X)
    → (next ≡ refused why w → X) → X
unfolding need
need_stopped true k v next why w e now later = later e
need_stopped false k v next why w e now later = now (cc)

pub given_stopped : {A : Type 0} (o : Option A) (k v why w : ℕ) → given o k v ≡ refused why w → why ≡ k
unfolding given
given_stopped (some a) k v why w e = absurd (let z : ◌≡◌ {A = ℕ} 0 1 = cc in omega arith)
given_stopped none k v why w e = cc

-- ---- both, either, neither

pub both_true : (a b : Bool) → a && b ≡ true → (a ≡ true) × (b ≡ true)
both_true true b e = (refl, e)
both_true false b e = absurd (let z : ◌≡◌ {A = ℕ} 0 1 = cc in omega arith)

pub true_both : (a b : Bool) → a ≡ true → b ≡ true → a && b ≡ true
true_both true b e f = f
true_both false b e f = e

pub or_left : (a b : Bool) → a ≡ true → a || b ≡ true
or_left true b e = refl
or_left false b e = absurd (let z : ◌≡◌ {A = ℕ} 0 1 = cc in omega arith)

pub or_right : (a b : Bool) → b ≡ true → a || b ≡ true
or_right true b e = refl
or_right false b e = e

pub neither : (a b : Bool) → a || b ≡ false → (a ≡ false) × (b ≡ false)
neither true b e = absurd (let z : ◌≡◌ {A = ℕ} 0 1 = cc in omega arith)
neither false b e = (refl, e)
