-- The biased form of a signed number of 64 bits, v + 2^63: a number without sign, in the same order. Assumes nothing.
use Rattle.std.specs.Prelude.{◌+◌, ◌-◌, ◌^◌}
use Rattle.format.specs.Kit.{cond, ℕ, suc, ltb, ℤ, pos, negsuc}

abbrev pub biased : ℤ → ℕ
biased (pos n) = 2 ^ 63 + n
biased (negsuc n) = 2 ^ 63 - suc n

abbrev pub unbiased : ℕ → ℤ
unbiased x = cond (ltb x (2 ^ 63)) (negsuc (2 ^ 63 - suc x)) (pos (x - 2 ^ 63))
