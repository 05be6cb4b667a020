-- Long after long, as far as ids follow each other. Assumes nothing.
use Rattle.format.specs.Kit.{◌≡◌, refl, sym, ◌∙◌, List, ℕ, zero, suc, ◌+◌, ◌-◌, ◌*◌, ◌/◌, ◌≤◌, ◌<◌, arith, ones_in, zero-add, add-zero}
use Rattle.format.specs.Limits.{Power}
use Rattle.format.specs.Ids.{rank_bytes}
use Rattle.read_in_block.specs.Rows.{bits_at, ones_ahead, place_after}
use Rattle.read_in_block.specs.Stretch.{InLong, InLongs, LongsTo}

pub place_most : (n k r : ℕ) → k + n ≤ 1024 → r < 65536 → place_after n k r ≤ 65536
place_most zero k r h l = omega (arith, l)
place_most (suc n) k r h l = omega (arith, h)

-- up to place y: longs whose ids follow each other from there on do so from place r on, and with `ones` more ids
pub record Ahead (p : ℕ) (s : List ℕ) (t r inner y ones : ℕ) : Type 0 where
  pub from : r ≤ y
  pub upto : y ≤ 65536
  pub start : y / 64 ≡ r / 64 → y ≡ r
  pub later : r / 64 < y / 64 → y ≡ 64 * (y / 64)
  pub follow : (n : ℕ) → InLongs p s t n (y / 64) y (inner + ones) → InLongs p s t (y / 64 - r / 64 + n) (r / 64) r inner
  pub count : (n : ℕ) → ones + ones_ahead s (t + rank_bytes p) n (y / 64) y ≡ ones_ahead s (t + rank_bytes p) (y / 64 - r / 64 + n) (r / 64) r

pub ahead_none : (p : ℕ) (s : List ℕ) (t r inner : ℕ) → r < 65536 → Ahead p s t r inner r 0
ahead_none p s t r inner l =
    let z : inner + 0 ≡ inner = omega arith in
    record {
      from = omega arith;
      upto = omega arith;
      start = λ e. refl;
      later = λ h. absurd (omega (arith, h));
      follow = λ n x. let e : r / 64 - r / 64 + n ≡ n = omega arith in rw e (rw z at x);
      count = λ n. let e : r / 64 - r / 64 + n ≡ n = omega arith in rw e (zero-add _);
    }

pub ahead_more : (p : ℕ) (h : Power p) (s : List ℕ) (t r inner y ones more : ℕ) → Ahead p s t r inner y ones → y < 65536
    → InLong p s t (y / 64) y (bits_at s (t + rank_bytes p) (y / 64) y) (inner + ones) → more ≡ ones_in 64 (bits_at s (t + rank_bytes p) (y / 64) y)
    → Ahead p s t r inner (64 * (y / 64) + 64) (ones + more)
unfolding ones_ahead
ahead_more p h s t r inner y ones more a l x e =
    let k : (64 * (y / 64) + 64) / 64 ≡ suc (y / 64) = omega arith in
    let place : 64 * (y / 64) + 64 ≡ 64 * suc (y / 64) = omega arith in
    let one : (n : ℕ) → suc (y / 64) - r / 64 + n ≡ y / 64 - r / 64 + suc n = λ n. omega (arith, a.from) in
    let sum : inner + (ones + more) ≡ inner + ones + more = omega arith in
    record {
      from = omega (arith, a.from);
      upto = omega (arith, l);
      start = λ f. absurd (omega (arith, f, a.from));
      later = λ f. omega arith;
      follow = λ n z. rw (k, one n) (a.follow (suc n) (x, rw (← e) (rw (k, place, sum) at z)));
      count = λ n. rw (k, one n) (rw place (omega (arith, a.count (suc n), e)));
    }

pub ahead_done : (p : ℕ) (s : List ℕ) (t r inner most y ones : ℕ) → Ahead p s t r inner y ones → ones ≤ most
    → LongsTo p s t r inner most (record { ones = ones; place = y })
unfolding ones_ahead
ahead_done p s t r inner most y ones a few =
    let n : ℕ = y / 64 - r / 64 in
    let z : n + 0 ≡ n = omega arith in
    let row = a.follow 0 refl in
    let sum = a.count 0 in
    record {
      number = n;
      upto = omega (arith, a.from, a.upto);
      follow = rw z at row;
      ones = sym (add-zero ones) ∙ (rw z at sum);
      few = few;
      place = place_of n refl;
    }
  where
    place_of : (n : ℕ) → y / 64 - r / 64 ≡ n → y ≡ place_after n (r / 64) r
    place_of zero e = a.start (omega (arith, e, a.from))
    place_of (suc n) e = a.later (omega (arith, e)) ∙ omega (arith, e)
