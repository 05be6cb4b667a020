-- One probe of a sparse block's entries: which half is left, and the word that tells what was found. Assumes nothing.
use Rattle.format.specs.Kit.{◌≡◌, refl, sym, ap, ◌∙◌, subst, ◌⊎◌, inl, inr, cond, List, Option, none, some, ℕ, ◌+◌, ◌-◌, ◌*◌, ◌/◌, ◌%◌}
use Rattle.format.specs.Kit.{◌<◌, ◌≤◌, arith, add-one, ltb, get_or, drop, lt-ltb, le-ltb}
use Rattle.format.specs.Bytes.{low_at}
use Rattle.format.specs.IdsRead.{shorts}
use Rattle.format.specs.LookUp.{Sought, halve, halving, halved, in_sparse}
use Rattle.laws.proofs.Cases.{below_or}
use Rattle.laws.proofs.Halving.{halve_none, halve_hit, halve_past, halve_before, probes_12, IndexUnder, index_under}
use Rattle.laws.proofs.Probes.{length_shorts}
use Rattle.laws.proofs.Standing.{short_at}
use Rattle.in_block.specs.Place.{in_one_word, Searched}
use Rattle.in_block.specs.declared.Inner as In

-- ---- the half that is left

abbrev pub Half : (x r lo m hi lo' hi' : ℕ) → Type 0
Half x r lo m hi lo' hi' = ((x < r) × (lo' ≡ m + 1) × (hi' ≡ hi)) ⊎ ((r < x) × (lo' ≡ lo) × (hi' ≡ m))

pub half : (x r lo m hi lo' hi' : ℕ) → (x ≡ r → ⊥) → lo' ≡ cond (ltb x r) (m + 1) lo → hi' ≡ cond (ltb x r) hi m → Half x r lo m hi lo' hi'
half x r lo m hi lo' hi' n e f =
    below_or x r
    (λ l. let t = lt-ltb x r l in inl (l, e ∙ rw t refl, f ∙ rw t refl))
    (λ l. let t = le-ltb x r l in inr (omega arith, e ∙ rw t refl, f ∙ rw t refl))

pub narrower : (x r lo hi lo' hi' : ℕ) → lo < hi → Half x r lo ((lo + hi) / 2) hi lo' hi' → (lo' ≤ hi') × (hi' ≤ hi) × (hi' - lo' < hi - lo)
narrower x r lo hi lo' hi' l (inl t) = (omega arith, omega arith, omega arith)
narrower x r lo hi lo' hi' l (inr t) = (omega arith, omega arith, omega arith)

-- ---- one probe, after n

module _ (s : List ℕ) (at lo hi r n c : ℕ) (h : hi ≤ c) where
  abbrev entries : List ℕ
  entries = shorts c (drop at s)

  abbrev probe : ℕ
  probe = low_at 2 s (at + 2 * ((lo + hi) / 2))

  pub the_entry : lo < hi → get_or entries ((lo + hi) / 2) 0 ≡ probe
  the_entry l = short_at c ((lo + hi) / 2) at s (omega arith)

  pub stops : lo ≡ hi → 16 * 65536 + n ≡ in_one_word (halve r entries lo hi n)
  stops e = rw (halve_none r entries lo hi n (omega arith)) refl

  pub hits : lo < hi → probe ≡ r → (m : ℕ) → m ≡ (lo + hi) / 2 → 16 * m + n + 1 ≡ in_one_word (halve r entries lo hi n)
  hits l e m g = rw (g, halve_hit r entries lo hi n l (the_entry l ∙ e)) (omega arith)

  -- the half that is left
  pub goes : (x lo' hi' : ℕ) → lo < hi → x ≡ probe → Half x r lo ((lo + hi) / 2) hi lo' hi' → halve r entries lo' hi' (n + 1) ≡ halve r entries lo hi n
  goes x lo' hi' l e (inl t) =
      rw (t.1, t.2, add-one n, add-one ((lo + hi) / 2)) (sym (halve_past r entries lo hi n l (rw (the_entry l, ← e) t.0)))
  goes x lo' hi' l e (inr t) = rw (t.1, t.2, add-one n) (sym (halve_before r entries lo hi n l (rw (the_entry l, ← e) t.0)))

-- ---- an index among a sparse block's c entries

pub index_below : (s : List ℕ) (at c r : ℕ) → IndexUnder c (halved r (shorts c (drop at s)))
index_below s at c r =
    subst (λ (n : ℕ). IndexUnder n (halved r (shorts c (drop at s)))) (length_shorts c (drop at s)) (index_under r (shorts c (drop at s)))

-- ---- the word that tells

module _ (s : List ℕ) (at c r w : ℕ) (small : c < 4096) (e : w ≡ in_one_word (halve r (shorts c (drop at s)) 0 c 0)) where
  abbrev h : Sought
  h = halving r (shorts c (drop at s))

  word : w ≡ in_one_word h
  word = e ∙ ap (λ (n : ℕ). in_one_word (halve r (shorts c (drop at s)) 0 n 0)) (sym (length_shorts c (drop at s)))

  few : h.probes ≤ 12
  few = probes_12 r (shorts c (drop at s)) (omega (arith, length_shorts c (drop at s)))

  pub found : w < 16 * 65536 → (Searched h (In.Inner.At (w / 16) 0 (w % 16))) × (w / 16 < c) × (w % 16 ≤ 12)
  unfolding in_sparse
  found l = go h.index refl
    where
      go : (o : Option ℕ) → h.index ≡ o → (Searched h (In.Inner.At (w / 16) 0 (w % 16))) × (w / 16 < c) × (w % 16 ≤ 12)
      go (some i) q =
          let f : w ≡ 16 * i + h.probes = word ∙ rw q refl in
          let u : i < c = rw q at (index_below s at c r) in
          let j : w / 16 ≡ i = omega (arith, few) in
          ((rw (q, j) refl, omega (arith, few)), omega arith, omega (arith, few))
      go none q = let f : w ≡ 16 * 65536 + h.probes = word ∙ rw q refl in absurd (omega arith)

  pub not_found : 16 * 65536 ≤ w → (Searched h (In.Inner.Absent 0 (w % 16))) × Unit {0} × (w % 16 ≤ 12)
  unfolding in_sparse
  not_found l = go h.index refl
    where
      go : (o : Option ℕ) → h.index ≡ o → (Searched h (In.Inner.Absent 0 (w % 16))) × Unit {0} × (w % 16 ≤ 12)
      go (some i) q =
          let f : w ≡ 16 * i + h.probes = word ∙ rw q refl in
          let u : i < c = rw q at (index_below s at c r) in
          absurd (omega (arith, few))
      go none q = let f : w ≡ 16 * 65536 + h.probes = word ∙ rw q refl in ((rw q refl, omega (arith, few)), tt, omega (arith, few))
