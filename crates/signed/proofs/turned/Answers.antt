-- `signed::turned` meets its contract. Assumes nothing.
use Rattle.format.specs.Kit.{◌≡◌, refl, ℕ, ◌+◌, ◌%◌, ◌^◌, ◌<◌, ◌≤◌, arith, dec_lt}
use Rattle.format.specs.Bytes.{twos, untwos}
use Rattle.laws.proofs.Fits.{untwos_low, untwos_high}
use Rattle.signed.specs.Sign.{biased, unbiased}
use Rattle.signed.proofs.Signs.{un_low, un_high}
use Rattle.signed.proofs.turned.Goals as goal

turn : (x y : ℕ) → x < 2 ^ 64 → y ≡ (x + 2 ^ 63) % 2 ^ 64 → (y ≡ biased (untwos x)) × (y ≡ twos (unbiased x))
unfolding twos
turn x y f e = by (dec_lt x (2 ^ 63))
  where
    by : Dec (x < 2 ^ 63) → (y ≡ biased (untwos x)) × (y ≡ twos (unbiased x))
    by (yes h) = (rw (untwos_low x h) (omega arith), rw (un_low x h) (omega arith))
    by (no n) = let h : 2 ^ 63 ≤ x = omega arith in (rw (untwos_high x h) (omega arith), rw (un_high x h) (omega arith))

pub returns : goal.returns
returns c = turn c.args.x _ c.ranges.x.fits refl
