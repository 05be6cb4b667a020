-- The probes of a sparse block's entries that go by its count: what is left after each, and what the last one tells. Assumes nothing.
use Rattle.format.specs.Kit.{◌≡◌, refl, sym, ap, ◌∙◌, ◌⊎◌, inl, inr, Bool, true, false, cond, ◌&&◌, List, Option, none, some, ℕ, ◌+◌, ◌-◌, ◌*◌, ◌/◌}
use Rattle.format.specs.Kit.{◌<◌, ◌≤◌, arith, ltb, eqb, ltb-true, ltb-false, eqb-true, eqb-false, lt-ltb, le-ltb, drop}
use Rattle.format.specs.Bytes.{low_at}
use Rattle.format.specs.IdsRead.{shorts}
use Rattle.format.specs.LookUp.{Sought, halve, halved}
use Rattle.laws.proofs.Cases.{below_or}
use Rattle.laws.proofs.Halving.{halve_none, halve_hit}
use Rattle.laws.proofs.Probes.{length_shorts}
use Rattle.in_block.specs.Place.{index_or}
use Rattle.in_block.proofs.Entries.{Half, the_entry, goes}

-- lo to hi are left of the c entries, n - 1 of them or n; or the probe is equal, and they stay
pub record Probing (s : List ℕ) (at c r lo hi n : ℕ) : Type 0 where
  pub probes : ℕ
  pub same : (halve r (shorts c (drop at s)) lo hi probes).index ≡ (halve r (shorts c (drop at s)) 0 c 0).index
  pub up : lo ≤ hi
  pub within : hi ≤ c
  pub many : n ≤ hi - lo + 1
  pub few : (hi - lo ≤ n) ⊎ (low_at 2 s (at + 2 * ((lo + hi) / 2)) ≡ r)

module _ (s : List ℕ) (at c r : ℕ) where
  pub begins : Probing s at c r 0 c (c + 1)
  begins = record { probes = 0; same = refl; up = omega arith; within = omega arith; many = omega arith; few = inl (omega arith) }

  module _ {lo hi n : ℕ} (p : Probing s at c r lo hi n) where
    few_left : (low_at 2 s (at + 2 * ((lo + hi) / 2)) ≡ r → ⊥) → hi - lo ≤ n
    few_left d = go p.few
      where
        go : (hi - lo ≤ n) ⊎ (low_at 2 s (at + 2 * ((lo + hi) / 2)) ≡ r) → hi - lo ≤ n
        go (inl h) = h
        go (inr e) = absurd (d e)

    -- ---- a probe

    narrowed : 1 < n → (x lo' hi' : ℕ) → x ≡ low_at 2 s (at + 2 * ((lo + hi) / 2)) → (x ≡ r → ⊥) → Half x r lo ((lo + hi) / 2) hi lo' hi'
        → Probing s at c r lo' hi' (n / 2)
    narrowed l x lo' hi' e d h =
        let f = few_left (λ z. d (e ∙ z)) in
        let g = goes s at lo hi r p.probes c p.within x lo' hi' (omega (arith, p.many)) e h in
        let b = by h f in
        record {
          probes = p.probes + 1;
          same = ap (λ (y : Sought). y.index) g ∙ p.same;
          up = b.0;
          within = b.1;
          many = b.2;
          few = inl b.3;
        }
      where
        by : Half x r lo ((lo + hi) / 2) hi lo' hi' → hi - lo ≤ n → (lo' ≤ hi') × (hi' ≤ c) × (n / 2 ≤ hi' - lo' + 1) × (hi' - lo' ≤ n / 2)
        by (inl t) f = (omega (arith, p.many), omega (arith, p.within), omega (arith, p.many), omega arith)
        by (inr t) f = (omega arith, omega (arith, p.within, p.up), omega (arith, p.many), omega arith)

    pub goes_on : 1 < n → (x lo' hi' : ℕ) → x ≡ low_at 2 s (at + 2 * ((lo + hi) / 2)) → lo' ≡ cond (ltb x r) ((lo + hi) / 2 + 1) lo
        → hi' ≡ cond (ltb r x) ((lo + hi) / 2) hi → Probing s at c r lo' hi' (n / 2)
    goes_on l x lo' hi' e f g =
        below_or x r
        (λ b. narrowed l x lo' hi' e (λ z. omega arith) (inl (b, f ∙ rw (lt-ltb x r b) refl, g ∙ rw (le-ltb r x (omega arith)) refl)))
        (λ b. below_or r x
        (λ a. narrowed l x lo' hi' e (λ z. omega arith) (inr (a, f ∙ rw (le-ltb x r b) refl, g ∙ rw (lt-ltb r x a) refl)))
        (λ a.
        let y : lo' ≡ lo = f ∙ rw (le-ltb x r b) refl in
        let z : hi' ≡ hi = g ∙ rw (le-ltb r x a) refl in
        let q : x ≡ r = omega arith in
        rw (y, z)
        record {
          probes = p.probes;
          same = p.same;
          up = p.up;
          within = p.within;
          many = omega (arith, p.many);
          few = inr (sym e ∙ q);
        }))

    -- ---- the last one

    ends : (o : Option ℕ) → (halve r (shorts c (drop at s)) lo hi p.probes).index ≡ o → halved r (shorts c (drop at s)) ≡ o
    ends o e =
        ap (λ (k : ℕ). (halve r (shorts c (drop at s)) 0 k 0).index) (length_shorts c (drop at s)) ∙ sym p.same ∙ e

    module _ (m x : ℕ) (e : m ≡ cond (ltb lo hi) ((lo + hi) / 2) 0) (f : x ≡ low_at 2 s (at + 2 * m)) where
      pub found : (ltb lo hi && eqb x r) ≡ true → m ≡ index_or (halved r (shorts c (drop at s)))
      found t = go (ltb lo hi) (eqb x r) refl refl
        where
          go : (a b : Bool) → ltb lo hi ≡ a → eqb x r ≡ b → m ≡ index_or (halved r (shorts c (drop at s)))
          go true true i j =
              let l = ltb-true lo hi i in
              let q : m ≡ (lo + hi) / 2 = e ∙ rw i refl in
              let y : low_at 2 s (at + 2 * ((lo + hi) / 2)) ≡ r = ap (λ (k : ℕ). low_at 2 s (at + 2 * k)) (sym q) ∙ sym f ∙ eqb-true x r j in
              let h = halve_hit r (shorts c (drop at s)) lo hi p.probes l (the_entry s at lo hi r p.probes c p.within l ∙ y) in
              q ∙ sym (ap index_or (ends (some ((lo + hi) / 2)) (ap (λ (z : Sought). z.index) h)))
          go true false i j = let z : (ltb lo hi && eqb x r) ≡ false = rw (i, j) refl in let k : ◌≡◌ {A = ℕ} 0 1 = cc in absurd (omega arith)
          go false b i j = let z : (ltb lo hi && eqb x r) ≡ false = rw i refl in let k : ◌≡◌ {A = ℕ} 0 1 = cc in absurd (omega arith)

      pub not_found : n ≤ 1 → (ltb lo hi && eqb x r) ≡ false → 65536 ≡ index_or (halved r (shorts c (drop at s)))
      not_found l t = go (ltb lo hi) (eqb x r) refl refl
        where
          nothing : (halve r (shorts c (drop at s)) lo hi p.probes).index ≡ none → 65536 ≡ index_or (halved r (shorts c (drop at s)))
          nothing h = sym (ap index_or (ends none h))

          go : (a b : Bool) → ltb lo hi ≡ a → eqb x r ≡ b → 65536 ≡ index_or (halved r (shorts c (drop at s)))
          go true true i j = let z : (ltb lo hi && eqb x r) ≡ true = rw (i, j) refl in let k : ◌≡◌ {A = ℕ} 0 1 = cc in absurd (omega arith)
          go true false i j =
              let b = ltb-true lo hi i in
              let q : m ≡ (lo + hi) / 2 = e ∙ rw i refl in
              let y : x ≡ low_at 2 s (at + 2 * ((lo + hi) / 2)) = f ∙ ap (λ (k : ℕ). low_at 2 s (at + 2 * k)) q in
              let d = eqb-false x r j in
              let w = few_left (λ z. d (y ∙ z)) in
              nothing (ap (λ (z : Sought). z.index)
              (below_or x r
              (λ u.
              sym (goes s at lo hi r p.probes c p.within x ((lo + hi) / 2 + 1) hi b y (inl (u, refl, refl)))
              ∙ halve_none r (shorts c (drop at s)) ((lo + hi) / 2 + 1) hi (p.probes + 1) (omega arith))
              (λ u.
              sym (goes s at lo hi r p.probes c p.within x lo ((lo + hi) / 2) b y (inr (omega arith, refl, refl)))
              ∙ halve_none r (shorts c (drop at s)) lo ((lo + hi) / 2) (p.probes + 1) (omega arith))))
          go false b i j =
              nothing (ap (λ (z : Sought). z.index) (halve_none r (shorts c (drop at s)) lo hi p.probes (omega (arith, ltb-false lo hi i))))
