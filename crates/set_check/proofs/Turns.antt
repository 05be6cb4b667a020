-- A place among a list's shorts, short by short. Assumes nothing.
use Rattle.format.specs.Kit.{List, [], ◌*◌, ◌+◌, ◌-◌, ◌<◌, ◌||◌, ◌≡◌, ◌≤◌, ap₂, arith, cond, drop, eqb, false, ltb, ℕ}
use Rattle.format.specs.Bytes.{low_at}
use Rattle.format.specs.Ids.{count_below}
use Rattle.format.specs.IdsRead.{shorts}
use Rattle.format.specs.Walk.{listed}
use Rattle.laws.proofs.Standing.{short_next}

-- the shorts from index i on
abbrev pub rest_of : List ℕ → ℕ → ℕ → ℕ → List ℕ
rest_of s t c i = shorts (c - i) (drop (t + 2 * i) s)

module _ (s : List ℕ) (t c r : ℕ) where
  pub begins_so : shorts c (drop t s) ≡ rest_of s t c 0
  begins_so =
      let e : c ≡ c - 0 = omega arith in
      let f : t ≡ t + 2 * 0 = omega arith in
      ap₂ (λ (x y : ℕ). shorts x (drop y s)) e f

  pub count_on : (i n x : ℕ) → i < c → x ≡ low_at 2 s (t + 2 * i) → n ≡ cond (ltb x r) 1 0
      → count_below r (rest_of s t c i) ≡ n + count_below r (rest_of s t c (i + 1))
  unfolding count_below
  count_on i n x h e f = rw (short_next s t c i h, f, e)

  pub listed_on : (i x : ℕ) → i < c → x ≡ low_at 2 s (t + 2 * i) → listed r (rest_of s t c i) ≡ eqb x r || listed r (rest_of s t c (i + 1))
  unfolding listed
  listed_on i x h e = rw (short_next s t c i h, e)

  none_left : (i : ℕ) → c ≤ i → rest_of s t c i ≡ []
  unfolding shorts
  none_left i h =
      let e : c - i ≡ 0 = omega arith in
      rw e

  pub count_end : (i : ℕ) → c ≤ i → count_below r (rest_of s t c i) ≡ 0
  unfolding count_below
  count_end i h = rw (none_left i h)

  pub listed_end : (i : ℕ) → c ≤ i → listed r (rest_of s t c i) ≡ false
  unfolding listed
  listed_end i h = rw (none_left i h)
