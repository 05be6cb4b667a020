-- The bound of a rank table, from which document 02, [7] follows: no block is longer than 9220 bytes (block-le in crate laws, Bounds.antt).
-- Assumes nothing.
use Rattle.format.specs.Kit.{◌≡◌, refl, Bool, true, false, ℕ, ◌-◌, ◌^◌, ◌≤◌, zero-le, arith, eqb, pow_mono}
use Rattle.format.specs.Ids.{rank_bytes}

pub rank_le : (p : ℕ) → (eqb p 0 ≡ false → 7 ≤ p) → rank_bytes p ≤ 1024
unfolding rank_bytes
rank_le p h = go (eqb p 0) refl
  where
    go : (q : Bool) → eqb p 0 ≡ q → rank_bytes p ≤ 1024
    go true e = rw e zero-le
    go false e =
        let most : 2 ^ (17 - p) ≤ 1024 = pow_mono {j = 10} (omega (arith, h e)) in
        rw e (omega arith)
