-- Lucene 9's widths by arithmetic: the least that is at least b, the one before w, and which there are. Each is a computed test over all
-- widths, and a law that turns it into the rule. Assumes nothing.
use Rattle.format.specs.Kit.{◌≡◌, refl, sym, ◌∙◌, Bool, true, false, not, ◌&&◌, ◌||◌, ℕ, zero, suc, ◌+◌, ◌*◌, ◌/◌, ◌%◌, ◌^◌, ◌<◌, ◌≤◌, arith, eqb, leb, ltb}
use Rattle.format.specs.Kit.{eqb-true, leb-true, le-leb, ltb-true, lt-ltb, lt_of_lt_of_le, pow_mono}
use Rattle.format.specs.Values.{bit_length}
use Rattle.format.specs.Editions.{lucene_widths, first_enough, among}
use Rattle.laws.proofs.Cases.{below_or, equal_or}
use Rattle.laws.proofs.Tests.{both_true}
use Rattle.laws.proofs.Values.{bit_length_lem, bit_length_le}
use Rattle.laws.proofs.Widths.{each, among_passes, one_least, lucene_least}
use Rattle.packings.specs.Packings.{listed_from, listed_before}

-- ---- tests

-- all numbers below n pass
unfoldable up_to : ℕ → (ℕ → Bool) → Bool
up_to zero t = true
up_to (suc n) t = t n && up_to n t

passes : (n : ℕ) (t : ℕ → Bool) → up_to n t ≡ true → (w : ℕ) → w < n → t w ≡ true
unfolding up_to
passes zero t e w h = absurd (omega arith)
passes (suc n) t e w h =
    let b = both_true _ _ e in
    equal_or w n (λ s. rw s b.0) (λ s. passes n t b.1 w (omega arith))

-- a test that is asked where another holds
abbrev asked : Bool → Bool → Bool
asked a b = not a || b

answered : (a b : Bool) → asked a b ≡ true → a ≡ true → b ≡ true
answered true b e h = e
answered false b e h = absurd (let z : ◌≡◌ {A = ℕ} 0 1 = cc in omega arith)

alike : Bool → Bool → Bool
alike true b = b
alike false b = not b

alike_is : (a b : Bool) → alike a b ≡ true → a ≡ b
unfolding alike
alike_is true b e = sym e
alike_is false true e = absurd (let z : ◌≡◌ {A = ℕ} 0 1 = cc in omega arith)
alike_is false false e = refl

-- ---- the least that is at least b

from_listed : up_to 65 (λ b. among lucene_widths (listed_from b)) ≡ true
unfolding up_to lucene_widths among listed_from
from_listed = refl

from_enough : up_to 65 (λ b. leb b (listed_from b)) ≡ true
unfolding up_to listed_from
from_enough = refl

from_least : each (λ v. up_to 65 (λ b. asked (leb b v) (leb (listed_from b) v))) lucene_widths ≡ true
unfolding each up_to lucene_widths listed_from
from_least = refl

pub width_from : (q : ℕ) → q < 2 ^ 64 → first_enough lucene_widths q ≡ listed_from (bit_length q)
width_from q h =
    let b : ℕ = bit_length q in
    let small : b < 65 = omega (arith, bit_length_le q 64 h) in
    one_least lucene_widths q _ _ (lucene_least q h)
    (record {
      listed = passes 65 _ from_listed b small;
      suffices = lt_of_lt_of_le (bit_length_lem q) (pow_mono (leb-true _ _ (passes 65 (λ b. leb b (listed_from b)) from_enough b small)));
      least = λ v a l.
          leb-true _ _
          (answered (leb b v) _ (passes 65 _ (among_passes _ lucene_widths v from_least a) b small) (le-leb b v (bit_length_le q v l)));
    })

-- ---- which there are

bit_each : up_to 65 (λ w. alike (eqb (72340173107564823 / 2 ^ (w % 64) % 2) 1) (among lucene_widths w)) ≡ true
unfolding up_to lucene_widths among alike
bit_each = refl

pub listed_is : (w : ℕ) → w ≤ 64 → eqb (72340173107564823 / 2 ^ (w % 64) % 2) 1 ≡ among lucene_widths w
listed_is w h = alike_is _ _ (passes 65 (λ w. alike (eqb (72340173107564823 / 2 ^ (w % 64) % 2) 1) (among lucene_widths w)) bit_each w (omega arith))

-- numbers of these widths have bits in at most eight bytes
few_bytes : each (λ w. leb w 56 || eqb w 64) lucene_widths ≡ true
unfolding each lucene_widths
few_bytes = refl

either : (a b : Bool) {X : Type 0} → a || b ≡ true → (a ≡ true → X) → (b ≡ true → X) → X
either true b e f g = f refl
either false b e f g = g e

pub in_eight : (w i at skip : ℕ) → among lucene_widths w ≡ true → at * 8 + skip ≡ i * w → skip < 8 → skip + w ≤ 64
in_eight w i at skip a e h =
    either (leb w 56) (eqb w 64) (among_passes _ lucene_widths w few_bytes a)
    (λ l. omega (arith, leb-true w 56 l))
    (λ s. let t : w ≡ 64 = eqb-true w 64 s in let q : at * 8 + skip ≡ i * 64 = e ∙ rw t in omega (arith, t, q))

-- ---- the one before

before_listed : each (λ w. asked (leb 1 w) (among lucene_widths (listed_before w) && ltb (listed_before w) w)) lucene_widths ≡ true
unfolding each lucene_widths among listed_before
before_listed = refl

before_next : each (λ w. each (λ v. asked (ltb v w) (leb v (listed_before w))) lucene_widths) lucene_widths ≡ true
unfolding each lucene_widths listed_before
before_next = refl

module _ (w hi : ℕ) (a : among lucene_widths w ≡ true) (pos : 0 < w) where
  -- the width of hi is w, so the one before does not suffice
  pub before_too_few : hi < 2 ^ 64 → first_enough lucene_widths hi ≡ w → 2 ^ listed_before w ≤ hi
  before_too_few h e =
      let b = both_true _ _ (answered (leb 1 w) _ (among_passes _ lucene_widths w before_listed a) (le-leb 1 w pos)) in
      below_or hi (2 ^ listed_before w)
      (λ l. absurd (omega (arith, (lucene_least hi h).least (listed_before w) b.0 l, e, ltb-true (listed_before w) w b.1)))
      (λ l. l)

  -- the one before does not suffice, and w does: it is the width of hi
  pub after_before : hi < 2 ^ 64 → hi < 2 ^ w → 2 ^ listed_before w ≤ hi → first_enough lucene_widths hi ≡ w
  after_before h small l =
      one_least lucene_widths hi _ _ (lucene_least hi h)
      (record {
        listed = a;
        suffices = small;
        least = λ v b k.
            below_or v w
            (λ m.
            let n : v ≤ listed_before w =
            leb-true _ _ (answered (ltb v w) _ (among_passes _ lucene_widths v (among_passes _ lucene_widths w before_next a) b) (lt-ltb v w m)) in
            absurd (omega (arith, pow_mono {i = v} {j = listed_before w} n)))
            (λ m. m);
      })
