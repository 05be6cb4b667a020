-- Words laid one after another. The loop's invariant holds since a word is the low 64 bits of what is left, and what stays is the rest.
-- Assumes nothing.
use Rattle.format.specs.Kit.{◌≡◌, refl, sym, ap, ap₂, ◌∙◌, subst, List, ℕ, ◌+◌, ◌-◌, ◌*◌, ◌/◌, ◌%◌, ◌^◌, ◌≤◌, ◌<◌, zero-le, add_assoc, add-zero}
use Rattle.format.specs.Kit.{div-one, arith, lit<, ones, length, sets}
use Rattle.format.specs.Bytes.{digits, low}
use Rattle.laws.proofs.Digits.{length_digits, digits_append, digits_mod, pow_pow, div_pow}
use Rattle.laws.proofs.Ones.{ones_join, ones_of_none}
use Rattle.laws.proofs.Stores.{sets_then}
use Rattle.block_writer.specs.Part.{bits_from, From, Gone}

-- n words, and then the bytes of the rest
pub lay : (l : List ℕ) (i j n c v : ℕ) → i + 8 * n ≡ j
    → sets l i (low (8 * n + c) v) ≡ sets (sets l i (low (8 * n) v)) j (low c (v / 2 ^ (64 * n)))
lay l i j n c v e =
    let q : 8 * n * 8 ≡ 64 * n = omega arith in
    ap (sets l i) (digits_append 256 (8 * n) c v)
    ∙ sets_then l i j (low (8 * n) v) (low c (v / 256 ^ (8 * n))) (ap (λ (k : ℕ). i + k) (length_digits 256 (8 * n) v) ∙ e)
    ∙ ap (λ (d : ℕ). sets (sets l i (low (8 * n) v)) j (low c (v / d))) (pow_pow 8 (8 * n) ∙ ap (λ (k : ℕ). 2 ^ k) q)

-- ---- ids that words are made of

gone_none : {xs : List ℕ} {m k : ℕ} → From xs m k → Gone xs m k 0 m
gone_none {xs} {m} {k} f =
    let e : k + 0 ≡ k = add-zero k in
    record {
      from = subst (From xs m) (sym e) f;
      rest = ap (bits_from xs m) e ∙ sym (div-one (bits_from xs m k));
    }

gone_more : {xs : List ℕ} {m k n m1 a m2 : ℕ} → Gone xs m k n m1 → Gone xs m1 (k + n) a m2 → Gone xs m k (n + a) m2
gone_more {xs} {m} {k} {n} {m1} {a} {m2} f g =
    let e : k + n + a ≡ k + (n + a) = add_assoc k n a in
    let q : 64 * n + 64 * a ≡ 64 * (n + a) = omega arith in
    record {
      from = subst (From xs m2) e g.from;
      rest = cc (g.rest, f.rest, div_pow (bits_from xs m k) (64 * n) (64 * a) (64 * (n + a)) q);
    }

-- ---- the loop over words: t of n are laid
pub record Lain (xs : List ℕ) (from k n : ℕ) (out₀ : List ℕ) (at t m sum : ℕ) (out : List ℕ) : Type 0 where
  pub t_le : t ≤ n
  pub gone : Gone xs from k t m
  pub counted : sum ≡ ones (bits_from xs from k % 2 ^ (64 * t))
  pub small : sum ≤ 64 * t
  pub len : length out ≡ length out₀
  pub laid : sets out (at + 8 * t) (low (8 * (n - t)) (bits_from xs from k / 2 ^ (64 * t))) ≡ sets out₀ at (low (8 * n) (bits_from xs from k))

module _ {xs : List ℕ} {from k n : ℕ} {out₀ : List ℕ} {at : ℕ} where
  pub none : From xs from k → Lain xs from k n out₀ at 0 from 0 out₀
  none f =
      record {
        t_le = zero-le;
        gone = gone_none f;
        counted = sym (ones_of_none (bits_from xs from k));
        small = zero-le;
        len = refl;
        laid =
            let e : at + 8 * 0 ≡ at = omega arith in
            let z : n - 0 ≡ n = omega arith in
            rw (e, z) (ap (λ (v : ℕ). sets out₀ at (low (8 * n) v)) (div-one (bits_from xs from k)));
      }

  module _ {t m sum : ℕ} {out : List ℕ} (g : Lain xs from k n out₀ at t m sum out) where
    pub all : n ≤ t → out ≡ sets out₀ at (low (8 * n) (bits_from xs from k))
    unfolding digits
    all h =
        let z : 8 * (n - t) ≡ 0 = omega arith in
        rw z at g.laid

    -- word w is laid, and `one` are its ones
    module _ {w next one : ℕ} {out2 : List ℕ} (h : t < n) (ew : w ≡ bits_from xs m (k + t) % 2 ^ 64) (f : Gone xs m (k + t) 1 next)
        (eo : out2 ≡ sets out (at + 8 * t) (low 8 w)) (len2 : length out2 ≡ length out) (eone : one ≡ ones w) (one_le : one ≤ 64) where
      pub one_more : Lain xs from k n out₀ at (t + 1) next (sum + one) out2
      one_more =
          let v : ℕ = bits_from xs from k in
          let q : 64 * t + 64 ≡ 64 * (t + 1) = omega arith in
          let wv : w ≡ v / 2 ^ (64 * t) % 2 ^ 64 = ew ∙ ap (λ (x : ℕ). x % 2 ^ 64) g.gone.rest in
          record {
            t_le = omega arith;
            gone = gone_more g.gone f;
            counted = ap₂ ◌+◌ g.counted (eone ∙ ap ones wv) ∙ sym (ones_join v (64 * t) 64 (64 * (t + 1)) q);
            small = omega (arith, g.small);
            len = len2 ∙ g.len;
            laid =
                let e : at + 8 * t + 8 * 1 ≡ at + 8 * (t + 1) = omega arith in
                let s : 8 * (n - t) ≡ 8 * 1 + 8 * (n - (t + 1)) = omega arith in
                let low8 : low 8 w ≡ low 8 (v / 2 ^ (64 * t)) = ap (low 8) wv ∙ digits_mod 256 8 (v / 2 ^ (64 * t)) (lit< tt) in
                cc (g.laid, lay out (at + 8 * t) (at + 8 * (t + 1)) 1 (8 * (n - (t + 1))) (v / 2 ^ (64 * t)) e, div_pow v (64 * t) 64 (64 * (t + 1)) q);
          }
