-- What is read as a header number is a number's own bytes: reading takes nothing else. Assumes nothing.
use Rattle.format.specs.Kit.{◌≡◌, refl, sym, ap, ◌∙◌, subst, List, [], ◌∷◌, ◌++◌, ℕ, zero, suc, ◌+◌, ◌-◌, ◌*◌, ◌/◌, ◌%◌, ◌^◌, ◌<◌, ◌≤◌}
use Rattle.format.specs.Kit.{pow-succ', pow-zero, one-le-pow, arith, length, drop, drop-drop, ne_eqb, eq-eqb, le-ltb, lt-ltb}
use Rattle.format.specs.Refusals.{done}
use Rattle.format.specs.HeaderNumbers.{groups, number, Got, got, short, bad, above, read_groups, read_number, got_at, number_at}
use Rattle.format.specs.Pairs.{Below}
use Rattle.laws.proofs.Digits.{below_drop}
use Rattle.laws.proofs.Header.{groups_last, groups_more, read_number_lem}
use Rattle.laws.proofs.Tests.{result}
use Rattle.laws.proofs.Cases.{below_or, equal_or}

pow_pos128 : (f : ℕ) → 1 ≤ 128 ^ f
pow_pos128 f = one-le-pow f 128 (omega arith)

pub record Read (f v k : ℕ) (bs : List ℕ) : Type 0 where
  pub positive : zero < v
  pub small : v < 2 * 128 ^ f
  pub bytes : bs ≡ groups (suc f) v ++ drop k bs

-- what stands above a byte
above_got_inv : (b : ℕ) (o : Got) (v k : ℕ) → above b o ≡ got v k → (v' : ℕ) × (k' : ℕ) × (o ≡ got v' k') × (v ≡ b - 128 + 128 * v') × (k ≡ suc k')
unfolding above
above_got_inv b (got v' k') v k e = (v', k', refl, cc, cc)
above_got_inv b short v k e = absurd (let z : ◌≡◌ {A = ℕ} 0 1 = cc in omega arith)
above_got_inv b (bad j) v k e = absurd (let z : ◌≡◌ {A = ℕ} 0 1 = cc in omega arith)

more_bytes : (f b v v' k k' : ℕ) (bs : List ℕ) → 128 ≤ b → b < 256 → zero < v' → v ≡ b - 128 + 128 * v' → k ≡ suc k' → bs ≡ groups (suc f) v' ++ drop k' bs
    → b ∷ bs ≡ groups (suc (suc f)) v ++ drop k (b ∷ bs)
more_bytes f b v v' k k' bs hb hc hv ev ek e =
    let low : v % 128 + 128 ≡ b = omega arith in
    let up : v / 128 ≡ v' = omega arith in
    rw (groups_more (suc f) v (omega arith), low, up, ek) (ap {B = List ℕ} (λ (l : List ℕ). b ∷ l) e)

pub groups_read : (f : ℕ) (bs : List ℕ) (v k : ℕ) → Below 256 bs → read_groups f bs ≡ got v k → Read f v k bs
unfolding read_groups
groups_read zero [] v k t e = absurd (let z : ◌≡◌ {A = ℕ} 0 1 = cc in omega arith)
groups_read (suc f) [] v k t e = absurd (let z : ◌≡◌ {A = ℕ} 0 1 = cc in omega arith)
groups_read zero (b ∷ bs) v k t e =
    equal_or b 1
    (λ h.
    let r : got 1 1 ≡ got v k = rw (eq-eqb b 1 h) at e in
    let one : 1 ≡ v = cc in
    let k1 : 1 ≡ k = cc in
    record { positive = omega arith; small = omega (arith, pow-zero 128); bytes = rw (← one, ← k1, groups_last 0 1 (omega arith), h) })
    (λ h.
    let r : bad 0 ≡ got v k = rw (ne_eqb b 1 h) at e in
    absurd (let z : ◌≡◌ {A = ℕ} 0 1 = cc in omega arith))
groups_read (suc f) (b ∷ bs) v k t e =
    below_or b 128
    (λ h.
    equal_or b 0
    (λ z. absurd (let r : bad 0 ≡ got v k = rw (lt-ltb b 128 h, eq-eqb b 0 z) at e in let z : ◌≡◌ {A = ℕ} 0 1 = cc in omega arith))
    (λ z.
    let r : got b 1 ≡ got v k = rw (lt-ltb b 128 h, ne_eqb b 0 z) at e in
    let bv : b ≡ v = cc in
    let k1 : 1 ≡ k = cc in
    record {
      positive = omega arith;
      small = omega (arith, pow-succ' 128 f, pow_pos128 f);
      bytes = rw (← bv, ← k1, groups_last (suc f) b h);
    }))
    (λ h.
    let r : above b (read_groups f bs) ≡ got v k = rw (le-ltb b 128 h) at e in
    let i = above_got_inv b (read_groups f bs) v k r in
    let ih : Read f i.0 i.1 bs = groups_read f bs i.0 i.1 t.1 i.2 in
    search (arith, pow-succ', more_bytes))

pub number_read : (bs : List ℕ) (v k : ℕ) → Below 256 bs → read_number bs ≡ got v k → (v < 2 ^ 64) × (bs ≡ number v ++ drop k bs)
unfolding read_number number
number_read [] v k t e = absurd (let z : ◌≡◌ {A = ℕ} 0 1 = cc in omega arith)
number_read (b ∷ bs) v k t e =
    below_or b 128
    (λ h.
    let r : got b 1 ≡ got v k = rw (lt-ltb b 128 h) at e in
    let bv : b ≡ v = cc in
    let k1 : 1 ≡ k = cc in
    (omega arith, rw (← bv, ← k1, groups_last 9 b h)))
    (λ h.
    let r : above b (read_groups 8 bs) ≡ got v k = rw (le-ltb b 128 h) at e in
    let i = above_got_inv b (read_groups 8 bs) v k r in
    let ih : Read 8 i.0 i.1 bs = groups_read 8 bs i.0 i.1 t.1 i.2 in
    (omega (arith, i.3, ih.small, t.0), more_bytes 8 b v i.0 k i.1 bs h t.0 ih.positive i.3 i.4 ih.bytes))

-- ---- at a place of any bytes

-- a number at a place, and the place after it
pub record NumberAt (bytes : List ℕ) (at : ℕ) (r : ℕ × ℕ) : Type 0 where
  pub there : drop at bytes ≡ number r.0 ++ drop r.1 bytes
  pub small : r.0 < 2 ^ 64
  pub next : r.1 ≡ at + length (number r.0)

pub number_is : (bytes : List ℕ) (at : ℕ) (r : ℕ × ℕ) → Below 256 bytes → number_at bytes at ≡ done r → NumberAt bytes at r
unfolding number_at got_at
number_is bytes at r u = go (read_number (drop at bytes)) refl
  where
    go : (g : Got) → read_number (drop at bytes) ≡ g → got_at bytes at g ≡ done r → NumberAt bytes at r
    go (got v k) e d =
        let n = number_read (drop at bytes) v k (below_drop 256 at bytes u) e in
        let again : got v k ≡ got v (length (number v)) = sym e ∙ ap read_number n.1 ∙ read_number_lem v (drop k (drop at bytes)) n.0 in
        let its_length : k ≡ length (number v) = cc in
        subst (NumberAt bytes at) (ap (result (0, 0)) d)
        (record {
          there = n.1 ∙ ap (λ (l : List ℕ). number v ++ l) (drop-drop k at bytes);
          small = n.0;
          next = ap (λ (j : ℕ). at + j) its_length;
        })
    go short e d = absurd (let z : ◌≡◌ {A = ℕ} 0 1 = cc in omega arith)
    go (bad k) e d = absurd (let z : ◌≡◌ {A = ℕ} 0 1 = cc in omega arith)
