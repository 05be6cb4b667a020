-- The value of a stored number, worked out in biased forms.
-- Assumes nothing.
use Rattle.format.specs.Kit.{◌≡◌, ap, ◌∙◌, none, some, ℕ, ◌+◌, ◌*◌, ◌^◌, ◌≤◌, ◌<◌, mul_comm, arith, lt-ltb, le-ltb, ℤ, pos, ◌+ℤ◌, mag}
use Rattle.format.specs.Values.{value_at}
use Rattle.format.specs.Codec.{signed64}
use Rattle.signed.specs.Sign.{biased, unbiased}
use Rattle.signed.proofs.Signs.{biased-+, biased-+-out, unbiased-+}

module _ (m : ℤ) (g x b : ℕ) (f : mag m < 2 ^ 63) (e : b ≡ biased m) where
  pub inside : b + x * g < 2 ^ 64 → some (unbiased (b + x * g)) ≡ signed64 (value_at m g x)
  unfolding signed64 value_at
  inside h =
      let s : b + x * g ≡ biased m + g * x = omega (arith, mul_comm x g) in
      let k : biased m + g * x < 2 ^ 64 = omega arith in
      rw (lt-ltb (mag (m +ℤ pos (g * x))) (2 ^ 63) (biased-+ m (g * x) f k).0)
      (ap some (ap unbiased s ∙ unbiased-+ m (g * x) f k))

  pub outside : 2 ^ 64 ≤ b + x * g → none ≡ signed64 (value_at m g x)
  unfolding signed64 value_at
  outside h = rw (le-ltb (mag (m +ℤ pos (g * x))) (2 ^ 63) (biased-+-out m (g * x) f (omega (arith, mul_comm x g))))
