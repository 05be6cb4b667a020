-- The place and the value as the answer. Assumes nothing.
use Rattle.format.specs.Kit.{◌≡◌, refl, List, Option, none, some, ℕ, ◌+◌, ◌*◌, ℤ}
use Rattle.format.specs.Refusals.{done, refused, and_then, given, BROKEN}
use Rattle.format.specs.Opening.{Opened, value_of}
use Rattle.format.specs.Next.{candidate_at}
use Rattle.pair_at.specs.Held.{pair_left}

module _ (bytes : List ℕ) (c : Opened) (ordinal k : ℕ) (o : Option ℕ) where
  pub no_place : o ≡ none → refused BROKEN 0 ≡ pair_left bytes c ordinal k o
  unfolding and_then given
  no_place e = rw e refl

  module _ (r : ℕ) (e : o ≡ some r) where
    pub no_value : value_of bytes c ordinal ≡ none → refused BROKEN 0 ≡ pair_left bytes c ordinal k o
    unfolding and_then given
    no_value f = rw (e, f) refl

    pub a_pair : (v : ℤ) → value_of bytes c ordinal ≡ some v → done (candidate_at (k * 65536 + r) ordinal v) ≡ pair_left bytes c ordinal k o
    unfolding and_then given
    a_pair v f = rw (e, f) refl
