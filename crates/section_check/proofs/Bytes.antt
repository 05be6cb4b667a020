-- Bytes compared as numbers, in either byte order. Assumes nothing.
use Rattle.format.specs.Kit.{◌≡◌, refl, sym, ap, ap₂, ◌∙◌, Bool, true, false, ◌&&◌, and_assoc, List, [], ◌∷◌, ◌++◌, ℕ, ◌+◌, ◌^◌, ◌<◌, ◌≤◌, arith, eqb}
use Rattle.format.specs.Kit.{lit<, length, take, drop, get_or, length-append, length-drop, length-take, length-take-le, take-add, drop-drop, eq-eqb, ne_eqb}
use Rattle.format.specs.Limits.{end_number}
use Rattle.format.specs.Bytes.{same}
use Rattle.format.specs.Ids.{Entry}
use Rattle.format.specs.Orders.{Order, bytes_in, number_in, fixed_at, end_in, entry_in}
use Rattle.format.specs.Pairs.{Below}
use Rattle.laws.proofs.Cases.{equal_or}
use Rattle.laws.proofs.Digits.{below_take, below_drop, below_all}
use Rattle.laws.proofs.RoundTrip.{same_refl}
use Rattle.laws.proofs.Unique.{same_eq}
use Rattle.judge.proofs.Numbers.{length_in, number_back, bytes_back}
use Rattle.judge.proofs.Standing.{entry_eight}

differ : (l m : List ℕ) → (l ≡ m → ⊥) → same l m ≡ false
differ l m h = go (same l m) refl
  where
    go : (t : Bool) → same l m ≡ t → same l m ≡ false
    go true e = absurd (h (same_eq l m e))
    go false e = e

pub entry_short : (ord : Order) (s : List ℕ) (b : ℕ) (e : Entry) → length s < b + 8 → same (take 8 (drop b s)) (entry_in ord e) ≡ false
entry_short ord s b e h =
    differ (take 8 (drop b s)) (entry_in ord e) (λ q. omega (arith, ap length q, length-take 8 (drop b s), length-drop b s, entry_eight ord e))

same_append : (a b c d : List ℕ) → length a ≡ length c → same (a ++ b) (c ++ d) ≡ same a c && same b d
unfolding same
same_append [] b [] d e = refl
same_append [] b (y ∷ c) d e = absurd (omega arith)
same_append (x ∷ a) b [] d e = absurd (omega arith)
same_append (x ∷ a) b (y ∷ c) d e = ap (λ (t : Bool). eqb x y && t) (same_append a b c d (omega arith)) ∙ sym (and_assoc (eqb x y) (same a c) (same b d))

module _ (ord : Order) (s : List ℕ) (all : (i : ℕ) → get_or s i 0 < 256) where
  -- k bytes at a place
  part : (k at n : ℕ) → at + k ≤ length s → n < 256 ^ k → same (take k (drop at s)) (bytes_in ord k n) ≡ eqb (fixed_at ord k s at) n
  unfolding fixed_at
  part k at n h small =
      let l : List ℕ = take k (drop at s) in
      let long : length l ≡ k = length-take-le k (drop at s) (omega (arith, length-drop at s)) in
      let below : Below 256 l = below_take 256 k (drop at s) (below_drop 256 at s (below_all 256 s all)) in
      equal_or (number_in ord l) n
      (λ q.
      let x : l ≡ bytes_in ord k n = sym (bytes_back ord k l long below) ∙ ap (bytes_in ord k) q in
      ap (λ (m : List ℕ). same m (bytes_in ord k n)) x ∙ same_refl (bytes_in ord k n) ∙ sym (eq-eqb (number_in ord l) n q))
      (λ q. differ l (bytes_in ord k n) (λ x. q (ap (number_in ord) x ∙ number_back ord k n small)) ∙ sym (ne_eqb (number_in ord l) n q))

  two_parts : (j k at : ℕ) (a b : List ℕ) → at + j ≤ length s → length a ≡ j
      → same (take (j + k) (drop at s)) (a ++ b) ≡ same (take j (drop at s)) a && same (take k (drop (at + j) s)) b
  two_parts j k at a b h e =
      ap (λ (l : List ℕ). same l (a ++ b)) (take-add j k (drop at s) ∙ ap (λ (l : List ℕ). take j (drop at s) ++ take k l) (drop-drop j at s))
      ∙ same_append (take j (drop at s)) (take k (drop (at + j) s)) a b (length-take-le j (drop at s) (omega (arith, length-drop at s)) ∙ sym e)

  -- an entry as two ints
  pub entry_same : (b o a : ℕ) → b + 8 ≤ length s → o < 4294967296 → a < 4294967296
      → same (take 8 (drop b s)) (entry_in ord (o, a)) ≡ eqb (fixed_at ord 4 s b) o && eqb (fixed_at ord 4 s (b + 4)) a
  unfolding entry_in
  entry_same b o a h ho ha =
      two_parts 4 4 b (bytes_in ord 4 o) (bytes_in ord 4 a) (omega arith) (length_in ord 4 o)
      ∙ ap₂ ◌&&◌ (part 4 b o (omega arith) ho) (part 4 (b + 4) a (omega arith) ha)

  -- the end block as three shorts
  pub end_same : (at : ℕ) → at + 6 ≤ length s
      → same (take 6 (drop at s)) (end_in ord)
      ≡ (eqb (fixed_at ord 2 s at) end_number && eqb (fixed_at ord 2 s (at + 2)) 0) && eqb (fixed_at ord 2 s (at + 4)) 65535
  unfolding end_in
  end_same at h =
      let four : length (bytes_in ord 2 end_number ++ bytes_in ord 2 0) ≡ 4 =
      length-append (bytes_in ord 2 end_number) (bytes_in ord 2 0) ∙ ap₂ ◌+◌ (length_in ord 2 end_number) (length_in ord 2 0) in
      two_parts 4 2 at (bytes_in ord 2 end_number ++ bytes_in ord 2 0) (bytes_in ord 2 65535) (omega arith) four
      ∙ ap₂ ◌&&◌
      (two_parts 2 2 at (bytes_in ord 2 end_number) (bytes_in ord 2 0) (omega arith) (length_in ord 2 end_number)
      ∙ ap₂ ◌&&◌ (part 2 at end_number (omega arith) (lit< tt)) (part 2 (at + 2) 0 (omega arith) (lit< tt)))
      (part 2 (at + 4) 65535 (omega arith) (lit< tt))
