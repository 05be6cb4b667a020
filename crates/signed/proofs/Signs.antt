-- Laws of the biased form: it is another way to write a signed number of 64 bits; order, differences and sums are the same in it.
-- Assumes nothing.
use Rattle.format.specs.Kit.{◌≡◌, refl, ap, ◌∙◌, not, ℕ, zero, suc, ◌+◌, ◌-◌, ◌^◌, ◌<◌, ◌≤◌, add-sub_cancel_left, arith, dec_lt, lt-ltb, le-ltb, T, leb→le}
use Rattle.format.specs.Kit.{nleb→lt, ℤ, pos, negsuc, sub_ℕ, ◌+ℤ◌, mag, le_z}
use mir.Syntax.{w64}
use mir.Val.{to_z, of_z}
use mir.Facts.{to_z-of_z}
use Rattle.format.specs.Bytes.{twos}
use Rattle.format.specs.Values.{over}
use Rattle.signed.specs.Sign.{biased, unbiased}

-- ---- each form by its test

pub un_low : (x : ℕ) → x < 2 ^ 63 → unbiased x ≡ negsuc (2 ^ 63 - suc x)
un_low x h = rw (lt-ltb x (2 ^ 63))

pub un_high : (x : ℕ) → 2 ^ 63 ≤ x → unbiased x ≡ pos (x - 2 ^ 63)
un_high x h = rw (le-ltb x (2 ^ 63))

-- ---- laws

-- the two forms are inverse to each other, for numbers of 64 bits (`mag z` is n both for n and for -(n + 1))
pub unbiased_biased : (z : ℤ) → mag z < 2 ^ 63 → unbiased (biased z) ≡ z
unbiased_biased (pos n) h = un_high (2 ^ 63 + n) (omega arith) ∙ ap pos (add-sub_cancel_left (2 ^ 63) n)
unbiased_biased (negsuc n) h = un_low (2 ^ 63 - suc n) (omega arith) ∙ ap negsuc (omega arith)

pub biased_unbiased : (x : ℕ) → biased (unbiased x) ≡ x
biased_unbiased x = by (dec_lt x (2 ^ 63))
  where
    by : Dec (x < 2 ^ 63) → biased (unbiased x) ≡ x
    by (yes h) = rw (un_low x h) (omega arith)
    by (no f) = let h : 2 ^ 63 ≤ x = omega arith in rw (un_high x h) (omega arith)

-- a form of 64 bits is that of a number of 64 bits
pub unbiased_size : (x : ℕ) → x < 2 ^ 64 → mag (unbiased x) < 2 ^ 63
unbiased_size x h = by (dec_lt x (2 ^ 63))
  where
    by : Dec (x < 2 ^ 63) → mag (unbiased x) < 2 ^ 63
    by (yes l) = rw (un_low x l) (omega arith)
    by (no f) = let l : 2 ^ 63 ≤ x = omega arith in rw (un_high x l) (omega arith)

-- a difference of whole numbers, by their order
sub_yes : (a b : ℕ) → a < b → sub_ℕ a b ≡ negsuc (b - suc a)
sub_yes a b h = rw (lt-ltb a b)

sub_no : (a b : ℕ) → b ≤ a → sub_ℕ a b ≡ pos (a - b)
sub_no a b h = rw (le-ltb a b)

-- the order of signed numbers is that of their biased forms
pub biased_le : (y z : ℤ) → T (le_z y z) → biased y ≤ biased z
biased_le (pos a) (pos b) h = omega (arith, leb→le a b h)
biased_le (pos a) (negsuc b) h = absurd h
biased_le (negsuc a) (pos b) h = omega arith
biased_le (negsuc a) (negsuc b) h = omega (arith, leb→le b a h)

pub biased_ge : (y z : ℤ) → T (not (le_z y z)) → biased z ≤ biased y
biased_ge (pos a) (pos b) h = omega (arith, nleb→lt a b h)
biased_ge (pos a) (negsuc b) h = omega arith
biased_ge (negsuc a) (pos b) h = absurd h
biased_ge (negsuc a) (negsuc b) h = omega (arith, nleb→lt b a h)

-- and so are their differences
pub biased_over : (m v : ℤ) → mag m < 2 ^ 63 → mag v < 2 ^ 63 → biased m ≤ biased v → over m v ≡ biased v - biased m
biased_over (pos zero) (pos b) f g h = omega arith
biased_over (pos (suc a)) (pos b) f g h = let k : suc a ≤ b = omega arith in rw (sub_no b (suc a) k) (omega arith)
biased_over (pos a) (negsuc b) f g h = absurd (omega arith)
biased_over (negsuc a) (pos b) f g h = omega arith
biased_over (negsuc a) (negsuc b) f g h = let k : suc b ≤ suc a = omega arith in rw (sub_no (suc a) (suc b) k) (omega arith)

-- a signed number of 64 bits is what the machine reads back from its bits: a callee's promise on a signed argument speaks of the left side
pub read_back : (z : ℤ) → mag z < 2 ^ 63 → to_z w64 (of_z w64 z) ≡ z
read_back z h = to_z-of_z {w = w64} (record { sfits = h })

-- the machine's bits of a signed number are its two's complement
pub bits_twos : (z : ℤ) → of_z w64 z ≡ twos z
unfolding twos
bits_twos (pos n) = refl
bits_twos (negsuc n) = refl

-- a number added to a signed one is added to its biased form: it stays a number of 64 bits exactly where the form stays below 2^64
pub biased-+ : (z : ℤ) (p : ℕ) → mag z < 2 ^ 63 → biased z + p < 2 ^ 64 → (mag (z +ℤ pos p) < 2 ^ 63) × (biased (z +ℤ pos p) ≡ biased z + p)
biased-+ (pos n) p f h = omega arith
biased-+ (negsuc n) p f h = by (dec_lt p (suc n))
  where
    by : Dec (p < suc n) → (mag (sub_ℕ p (suc n)) < 2 ^ 63) × (biased (sub_ℕ p (suc n)) ≡ 2 ^ 63 - suc n + p)
    by (yes l) = rw (sub_yes p (suc n) l) (omega arith)
    by (no l) = let k : suc n ≤ p = omega arith in rw (sub_no p (suc n) k) (omega arith)

pub biased-+-out : (z : ℤ) (p : ℕ) → mag z < 2 ^ 63 → 2 ^ 64 ≤ biased z + p → 2 ^ 63 ≤ mag (z +ℤ pos p)
biased-+-out (pos n) p f h = omega arith
biased-+-out (negsuc n) p f h = let k : suc n ≤ p = omega arith in rw (sub_no p (suc n) k) (omega arith)

pub unbiased-+ : (z : ℤ) (p : ℕ) → mag z < 2 ^ 63 → biased z + p < 2 ^ 64 → unbiased (biased z + p) ≡ z +ℤ pos p
unbiased-+ z p f h = let k = biased-+ z p f h in rw (← k.1) (unbiased_biased (z +ℤ pos p) k.0)
