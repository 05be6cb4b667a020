-- What the header rules of edition 4 say of a section, and step 7 in the code's words. Assumes nothing.
use Rattle.format.specs.Kit.{◌≡◌, refl, ap, true, List, none, some, Option·some-injective, ℕ, ◌+◌, ◌*◌, ◌-◌, ◌<◌, ◌≤◌, arith, ℤ, length}
use Rattle.format.specs.Kit.{length-drop, drop, take, take_all, lt-ltb, le-ltb, le-leb}
use Rattle.format.specs.Codec.{Fields, signed64}
use Rattle.format.specs.Bytes.{low_at, untwos}
use Rattle.format.specs.Bits.{packed_bytes, fetched}
use Rattle.format.specs.Values.{fits64}
use Rattle.format.specs.Editions.{table, plain, codec, high_first}
use Rattle.format.specs.Table.{tabled, table_value}
use Rattle.format.specs.Check.{all_values}
use Rattle.laws.proofs.Cases.{true_or, below_or}
use Rattle.laws.proofs.Bits.{within}
use Rattle.laws.proofs.Table.{TableRules, table_rules, code_narrow}

pub rules_are : (n : ℕ) (f : Fields) (v : ℕ) → (codec table).fields_ok n f v ≡ true → TableRules n f v
unfolding codec
rules_are n f v e = table_rules (codec plain) n f v e

pub value_is : (n : ℕ) (f : Fields) (s : List ℕ) (i : ℕ) → (codec table).value n f s i ≡ table_value f.divisor f.width s i
unfolding codec tabled
value_is n f s i = refl

-- the values of a section, with w for the header's width
pub values_are : (n : ℕ) (f : Fields) (s : List ℕ) (w : ℕ) → w ≡ f.width
    → all_values n (table_value f.divisor w s) ≡ all_values n ((codec table).value n f s)
unfolding codec tabled
values_are n f s w e = ap (λ (k : ℕ). all_values n (table_value f.divisor k s)) e

module _ {n : ℕ} {f : Fields} (s : List ℕ) (r : TableRules n f (length s)) where
  pub narrow : f.width ≤ 8
  narrow = omega (arith, r.width_is, code_narrow f.divisor r.most)

  -- the table is within the section, and so are the codes after it
  pub table_within : 8 * f.divisor ≤ length s
  table_within = omega (arith, r.bytes)

  pub code_within : (i : ℕ) → i < n → i * f.width + f.width ≤ 8 * (length s - 8 * f.divisor)
  code_within i h =
      let w : packed_bytes n f.width ≡ length s - 8 * f.divisor = omega (arith, r.bytes, ap (packed_bytes n) r.width_is) in
      omega (arith, within i f.width n h, w)

-- codes stand as edition 1's numbers do, at any of its widths
pub high_width : (w : ℕ) → w ≤ 64 → high_first.width_ok w ≡ true
unfolding high_first
high_width w h = le-leb w 64 h

pub high_fetch : (s : List ℕ) (w i : ℕ) → high_first.fetch s w i ≡ fetched s w i
unfolding high_first
high_fetch s w i = refl

-- ---- step 7

-- the part that is lent is all that follows
pub rest_is : (s : List ℕ) (a : ℕ) → take (length s - a) (drop a s) ≡ drop a s
rest_is s a = take_all (length s - a) (drop a s) (omega (arith, length-drop a s))

signed_is : (u v : ℤ) → signed64 u ≡ some v → u ≡ v
unfolding signed64
signed_is u v e =
    true_or (fits64 u)
    (λ t. Option·some-injective u v (rw t at e))
    (λ t. absurd (let z : none ≡ some v = rw t at e in let y : ◌≡◌ {A = ℕ} 0 1 = cc in omega arith))

-- a value that is there has its code within the table
pub there_code : (t w : ℕ) (s : List ℕ) (i : ℕ) (v : ℤ) → table_value t w s i ≡ some v → let x = fetched (drop (8 * t) s) w i in
    (x < t) × (untwos (low_at 8 s (8 * x)) ≡ v)
unfolding table_value
there_code t w s i v e =
    let x : ℕ = fetched (drop (8 * t) s) w i in
    below_or x t
    (λ h. (h, signed_is _ v (rw (lt-ltb x t h) at e)))
    (λ h. absurd (let z : none ≡ some v = rw (le-ltb x t h) at e in let y : ◌≡◌ {A = ℕ} 0 1 = cc in omega arith))
