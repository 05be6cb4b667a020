-- A word gathered from ids. The loop's invariant holds since the ids ascend: each bit is above those gathered, so that their sum is no more than
-- the word's low bits. Assumes nothing.
use Rattle.format.specs.Kit.{◌≡◌, refl, sym, ap, ap₂, ◌∙◌, subst, List, [], ◌∷◌, ℕ, suc, ◌+◌, ◌-◌, ◌*◌, ◌/◌, ◌%◌, ◌^◌, ◌≤◌, ◌<◌, zero-le, mul-add}
use Rattle.format.specs.Kit.{pow-suc, zero-add, mul-zero, add-one, arith, lit<, pow-add, pow_mono, length, get_or, drop_of_length-le, drop-cons}
use Rattle.format.specs.Pairs.{Asc}
use Rattle.format.specs.Runs.{bits_above}
use Rattle.laws.proofs.Places.{asc_weaken, bits_nil}
use Rattle.block_writer.specs.Part.{places_from, bits_from, From, Gone}

-- ---- places

pub places_cons : (xs : List ℕ) (m : ℕ) → m < length xs → places_from xs m ≡ get_or xs m 0 % 65536 ∷ places_from xs (m + 1)
unfolding places_from
places_cons xs m h = rw (add-one m, drop-cons xs m 0 h)

pub places_end : (xs : List ℕ) (m : ℕ) → length xs ≤ m → places_from xs m ≡ []
unfolding places_from
places_end xs m h = rw (drop_of_length-le xs h)

bits_cons : (x r : ℕ) (rs : List ℕ) → bits_above x (r ∷ rs) ≡ 2 ^ (r - x) + bits_above x rs
unfolding bits_above
bits_cons x r rs = refl

-- the lowest bit stands n further up
bits_up : (x n a : ℕ) (rs : List ℕ) → x + n ≤ a → Asc a rs → bits_above x rs ≡ 2 ^ n * bits_above (x + n) rs
bits_up x n a [] h t = bits_nil x ∙ sym (ap (λ (m : ℕ). 2 ^ n * m) (bits_nil (x + n)) ∙ mul-zero (2 ^ n))
bits_up x n a (r ∷ rs) h t =
    let e : r - x ≡ n + (r - (x + n)) = omega (arith, t.0) in
    bits_cons x r rs
    ∙ ap₂ ◌+◌ (ap (λ (m : ℕ). 2 ^ m) e ∙ pow-add 2 n (r - (x + n))) (bits_up x n (suc r) rs (omega (arith, t.0)) t.1)
    ∙ sym (ap (λ (m : ℕ). 2 ^ n * m) (bits_cons (x + n) r rs) ∙ mul-add (2 ^ n) (2 ^ (r - (x + n))) (bits_above (x + n) rs))

-- ---- a word: bits below `free` are gathered, and the places left stand at `free` or above
pub record Gathered (xs : List ℕ) (from k bits m : ℕ) : Type 0 where
  pub free : ℕ
  pub free_le : free ≤ 64
  pub small : bits < 2 ^ free
  pub inside : m ≤ length xs
  pub ascending : Asc (64 * k + free) (places_from xs m)
  pub sum : bits_from xs from k ≡ bits + bits_from xs m k

module _ {xs : List ℕ} {from k : ℕ} where
  pub start : From xs from k → Gathered xs from k 0 from
  start f =
      record {
        free = 0;
        free_le = zero-le;
        small = lit< tt;
        inside = f.inside;
        ascending = asc_weaken (omega arith) (places_from xs from) f.ascending;
        sum = sym (zero-add (bits_from xs from k));
      }

  module _ {bits m : ℕ} (g : Gathered xs from k bits m) where
    pub small_64 : bits < 2 ^ 64
    small_64 = omega (arith, g.small, pow_mono {j = 64} g.free_le)

    -- nothing is left of the word
    pub done : Asc (64 * k + 64) (places_from xs m) → (bits ≡ bits_from xs from k % 2 ^ 64) × Gone xs from k 1 m
    done t =
        let up : bits_from xs m k ≡ 2 ^ 64 * bits_above (64 * k + 64) (places_from xs m) =
        bits_up (64 * k) 64 (64 * k + 64) (places_from xs m) (omega arith) t in
        let e : 64 * k + 64 ≡ 64 * (k + 1) = omega arith in
        let s : bits < 2 ^ 64 = small_64 in (
          omega (arith, g.sum),
          record {
            from = record { inside = g.inside; ascending = subst (λ (n : ℕ). Asc n (places_from xs m)) e t };
            rest = ap (λ (n : ℕ). bits_above n (places_from xs m)) (sym e) ∙ omega (arith, g.sum);
          },
        )

    pub at_end : length xs ≤ m → Asc (64 * k + 64) (places_from xs m)
    at_end h = rw (places_end xs m h) tt

    module _ {r : ℕ} (h : m < length xs) (er : r ≡ get_or xs m 0 % 65536) where
      its : places_from xs m ≡ r ∷ places_from xs (m + 1)
      its = rw er (places_cons xs m h)

      asc : Asc (64 * k + g.free) (r ∷ places_from xs (m + 1))
      asc = subst (Asc (64 * k + g.free)) its g.ascending

      pub past : (r / 64 ≡ k → ⊥) → Asc (64 * k + 64) (places_from xs m)
      past n =
          let a : 64 * k + g.free ≤ r = asc.0 in
          let b : 64 * k + 64 ≤ r = omega arith in
          rw its (b, asc.1)

      pub low_bits : r / 64 ≡ k → bits < 2 ^ (r % 64)
      low_bits e =
          let a : 64 * k + g.free ≤ r = asc.0 in
          let b : g.free ≤ r % 64 = omega arith in
          omega (arith, g.small, pow_mono b)

      pub more : r / 64 ≡ k → Gathered xs from k (bits + 2 ^ (r % 64)) (m + 1)
      more e =
          let a : suc r ≡ 64 * k + suc (r % 64) = omega arith in
          let b : r - 64 * k ≡ r % 64 = omega arith in
          let p : 2 ^ suc (r % 64) ≡ 2 ^ (r % 64) * 2 = pow-suc 2 (r % 64) in
          let l : bits < 2 ^ (r % 64) = low_bits e in
          let s : bits_from xs m k ≡ 2 ^ (r % 64) + bits_from xs (m + 1) k =
          ap (bits_above (64 * k)) its ∙ bits_cons (64 * k) r (places_from xs (m + 1)) ∙ ap (λ (n : ℕ). 2 ^ n + bits_from xs (m + 1) k) b in
          record {
            free = suc (r % 64);
            free_le = omega arith;
            small = omega arith;
            inside = omega arith;
            ascending = subst (λ (n : ℕ). Asc n (places_from xs (m + 1))) a asc.1;
            sum = omega (arith, g.sum);
          }
