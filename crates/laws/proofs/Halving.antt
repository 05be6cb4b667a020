-- The halving of a sparse block's entries (document 02, [8]) by its cases; its probes are few; and on ascending entries it finds what
-- document 01's scan finds. Assumes nothing.
use Rattle.format.specs.Kit.{◌≡◌, refl, sym, ap, ◌∙◌, List, [], ◌∷◌, Option, none, some, ℕ, zero, suc, ◌+◌, ◌-◌, ◌*◌, ◌/◌, ◌^◌, ◌≤◌, ◌<◌}
use Rattle.format.specs.Kit.{add-zero, zero-add, pow-zero, pow-succ', arith, length, get_or, eq-eqb, ne_eqb, lt-ltb, le-ltb}
use Rattle.format.specs.Pairs.{Asc}
use Rattle.format.specs.Values.{bit_length}
use Rattle.format.specs.LookUp.{hit, miss, halve_in, halve, halving, halved, scan, scanned}
use Rattle.laws.proofs.Cases.{below_or, equal_or}
use Rattle.laws.proofs.Values.{bit_length_lem}
use Rattle.laws.proofs.Place.{Finds, scan_finds}

-- ---- one probe, with f more allowed

module _ (f r : ℕ) (xs : List ℕ) (lo hi n : ℕ) where
  none_in : hi ≤ lo → halve_in f r xs lo hi n ≡ miss n
  unfolding halve_in
  none_in h = by f
    where
      by : (g : ℕ) → halve_in g r xs lo hi n ≡ miss n
      by zero = refl
      by (suc g) = rw (le-ltb lo hi h)

  module _ (h : lo < hi) where
    hit_in : get_or xs ((lo + hi) / 2) 0 ≡ r → halve_in (suc f) r xs lo hi n ≡ hit ((lo + hi) / 2) (suc n)
    unfolding halve_in
    hit_in e = rw (lt-ltb lo hi h, eq-eqb (get_or xs ((lo + hi) / 2) 0) r e)

    past_in : get_or xs ((lo + hi) / 2) 0 < r → halve_in (suc f) r xs lo hi n ≡ halve_in f r xs (suc ((lo + hi) / 2)) hi (suc n)
    unfolding halve_in
    past_in e = rw (lt-ltb lo hi h, ne_eqb (get_or xs ((lo + hi) / 2) 0) r (λ z. omega arith), lt-ltb (get_or xs ((lo + hi) / 2) 0) r e)

    before_in : r < get_or xs ((lo + hi) / 2) 0 → halve_in (suc f) r xs lo hi n ≡ halve_in f r xs lo ((lo + hi) / 2) (suc n)
    unfolding halve_in
    before_in e =
        rw (lt-ltb lo hi h, ne_eqb (get_or xs ((lo + hi) / 2) 0) r (λ z. omega arith), le-ltb (get_or xs ((lo + hi) / 2) 0) r (omega arith))

-- a range is empty, or the probe decides
pub by_probe : {P : Type 0} (r : ℕ) (xs : List ℕ) (lo hi : ℕ) → (hi ≤ lo → P) → (lo < hi → get_or xs ((lo + hi) / 2) 0 ≡ r → P)
    → (lo < hi → get_or xs ((lo + hi) / 2) 0 < r → P) → (lo < hi → r < get_or xs ((lo + hi) / 2) 0 → P) → P
by_probe r xs lo hi empty equal past before =
    below_or lo hi
    (λ l.
    equal_or (get_or xs ((lo + hi) / 2) 0) r (equal l) (λ e. below_or (get_or xs ((lo + hi) / 2) 0) r (past l) (λ b. before l (omega arith))))
    empty

-- more are never needed
enough : (f g r : ℕ) (xs : List ℕ) (lo hi n : ℕ) → hi - lo ≤ f → hi - lo ≤ g → halve_in f r xs lo hi n ≡ halve_in g r xs lo hi n
enough zero g r xs lo hi n hf hg = none_in zero r xs lo hi n (omega arith) ∙ sym (none_in g r xs lo hi n (omega arith))
enough (suc f) zero r xs lo hi n hf hg = none_in (suc f) r xs lo hi n (omega arith) ∙ sym (none_in zero r xs lo hi n (omega arith))
enough (suc f) (suc g) r xs lo hi n hf hg =
    let m : ℕ = (lo + hi) / 2 in
    by_probe r xs lo hi
    (λ l. none_in (suc f) r xs lo hi n l ∙ sym (none_in (suc g) r xs lo hi n l))
    (λ l e. hit_in f r xs lo hi n l e ∙ sym (hit_in g r xs lo hi n l e))
    (λ l e. past_in f r xs lo hi n l e ∙ enough f g r xs (suc m) hi (suc n) (omega arith) (omega arith) ∙ sym (past_in g r xs lo hi n l e))
    (λ l e. before_in f r xs lo hi n l e ∙ enough f g r xs lo m (suc n) (omega arith) (omega arith) ∙ sym (before_in g r xs lo hi n l e))

-- ---- the rule in document 02's words

module _ (r : ℕ) (xs : List ℕ) (lo hi n : ℕ) where
  pub halve_none : hi ≤ lo → halve r xs lo hi n ≡ miss n
  unfolding halve
  halve_none h = none_in (hi - lo) r xs lo hi n h

  module _ (h : lo < hi) where
    more : hi - lo ≡ suc (hi - lo - 1)
    more = omega arith

    pub halve_hit : get_or xs ((lo + hi) / 2) 0 ≡ r → halve r xs lo hi n ≡ hit ((lo + hi) / 2) (suc n)
    unfolding halve
    halve_hit e = rw more (hit_in (hi - lo - 1) r xs lo hi n h e)

    pub halve_past : get_or xs ((lo + hi) / 2) 0 < r → halve r xs lo hi n ≡ halve r xs (suc ((lo + hi) / 2)) hi (suc n)
    unfolding halve
    halve_past e =
        rw more
        (past_in (hi - lo - 1) r xs lo hi n h e
        ∙ enough (hi - lo - 1) (hi - suc ((lo + hi) / 2)) r xs (suc ((lo + hi) / 2)) hi (suc n) (omega arith) (omega arith))

    pub halve_before : r < get_or xs ((lo + hi) / 2) 0 → halve r xs lo hi n ≡ halve r xs lo ((lo + hi) / 2) (suc n)
    unfolding halve
    halve_before e =
        rw more
        (before_in (hi - lo - 1) r xs lo hi n h e
        ∙ enough (hi - lo - 1) ((lo + hi) / 2 - lo) r xs lo ((lo + hi) / 2) (suc n) (omega arith) (omega arith))

-- ---- the probes

-- fewer than 2 ^ k entries take at most k
pub few_probes : (k r : ℕ) (xs : List ℕ) (lo hi n : ℕ) → hi - lo < 2 ^ k → (halve r xs lo hi n).probes ≤ n + k
few_probes zero r xs lo hi n h = rw (halve_none r xs lo hi n (omega (arith, pow-zero 2))) (omega arith)
few_probes (suc k) r xs lo hi n h =
    let m : ℕ = (lo + hi) / 2 in
    let p : 2 ^ suc k ≡ 2 * 2 ^ k = pow-succ' 2 k in
    by_probe r xs lo hi
    (λ l. rw (halve_none r xs lo hi n l) (omega arith))
    (λ l e. rw (halve_hit r xs lo hi n l e) (omega arith))
    (λ l e. rw (halve_past r xs lo hi n l e) (omega (arith, few_probes k r xs (suc m) hi (suc n) (omega arith))))
    (λ l e. rw (halve_before r xs lo hi n l e) (omega (arith, few_probes k r xs lo m (suc n) (omega arith))))

-- at most the bit length of the number of entries, so at most 12 for 4095
pub probes_bits : (r : ℕ) (xs : List ℕ) → (halving r xs).probes ≤ bit_length (length xs)
probes_bits r xs = omega (arith, few_probes (bit_length (length xs)) r xs 0 (length xs) 0 (omega (arith, bit_length_lem (length xs))))

pub probes_12 : (r : ℕ) (xs : List ℕ) → length xs < 4096 → (halving r xs).probes ≤ 12
probes_12 r xs h = few_probes 12 r xs 0 (length xs) 0 (omega arith)

-- ---- an index that is found is in the range

abbrev pub IndexUnder : ℕ → Option ℕ → Type 0
IndexUnder c (some i) = i < c
IndexUnder c none = Unit

under_more : (a b : ℕ) → a ≤ b → (o : Option ℕ) → IndexUnder a o → IndexUnder b o
under_more a b h (some i) u = omega arith
under_more a b h none u = tt

index_in : (k r : ℕ) (xs : List ℕ) (lo hi n : ℕ) → hi - lo ≤ k → IndexUnder hi (halve r xs lo hi n).index
index_in zero r xs lo hi n h = rw (halve_none r xs lo hi n (omega arith)) tt
index_in (suc k) r xs lo hi n h =
    let m : ℕ = (lo + hi) / 2 in
    by_probe r xs lo hi
    (λ l. rw (halve_none r xs lo hi n l) tt)
    (λ l e. rw (halve_hit r xs lo hi n l e) (omega arith))
    (λ l e. rw (halve_past r xs lo hi n l e) (index_in k r xs (suc m) hi (suc n) (omega arith)))
    (λ l e. rw (halve_before r xs lo hi n l e) (under_more m hi (omega arith) (halve r xs lo m (suc n)).index (index_in k r xs lo m (suc n) (omega arith))))

pub index_under : (r : ℕ) (xs : List ℕ) → IndexUnder (length xs) (halved r xs)
index_under r xs = index_in (length xs) r xs 0 (length xs) 0 (omega arith)

-- ---- ascending entries

least : (a : ℕ) (xs : List ℕ) (i : ℕ) → Asc a xs → i < length xs → a ≤ get_or xs i 0
least a [] i h l = absurd (omega arith)
least a (x ∷ xs) zero h l = h.0
least a (x ∷ xs) (suc i) h l = omega (arith, h.0, least (suc x) xs i h.1 (omega arith))

rising : (a : ℕ) (xs : List ℕ) (i j : ℕ) → Asc a xs → i < j → j < length xs → get_or xs i 0 < get_or xs j 0
rising a [] i j h m l = absurd (omega arith)
rising a (x ∷ xs) i zero h m l = absurd (omega arith)
rising a (x ∷ xs) zero (suc j) h m l = least (suc x) xs j h.1 (omega arith)
rising a (x ∷ xs) (suc i) (suc j) h m l = rising (suc x) xs i j h.1 (omega arith) (omega arith)

-- the scan finds what stands there, and nothing else
scan_at_lem : (a r k : ℕ) (xs : List ℕ) (i : ℕ) → Asc a xs → i < length xs → get_or xs i 0 ≡ r → scan r k xs ≡ some (k + i)
unfolding scan
scan_at_lem a r k [] i h l e = absurd (omega arith)
scan_at_lem a r k (x ∷ xs) zero h l e = rw (le-ltb x r (omega arith), eq-eqb x r e, add-zero k)
scan_at_lem a r k (x ∷ xs) (suc i) h l e =
    let b : x < r = rw (← e) (least (suc x) xs i h.1 (omega arith)) in
    let f : suc k + i ≡ k + suc i = omega arith in
    rw (lt-ltb x r b) (scan_at_lem (suc x) r (suc k) xs i h.1 (omega arith) e ∙ rw f)

scan_none : (r k : ℕ) (xs : List ℕ) → ((i : ℕ) → i < length xs → get_or xs i 0 ≡ r → ⊥) → scan r k xs ≡ none
unfolding scan
scan_none r k [] h = refl
scan_none r k (x ∷ xs) h =
    below_or x r
    (λ b. rw (lt-ltb x r b) (scan_none r (suc k) xs (λ i l e. h (suc i) (omega arith) e)))
    (λ b. rw (le-ltb x r b, ne_eqb x r (h 0 (omega arith))))

-- ---- both rules agree

module _ (r : ℕ) (xs : List ℕ) (asc : Asc 0 xs) where
  -- with every entry before lo below r, and every one from hi on above
  Under : ℕ → Type 0
  Under lo = (i : ℕ) → i < lo → i < length xs → get_or xs i 0 < r

  Over : ℕ → Type 0
  Over hi = (i : ℕ) → hi ≤ i → i < length xs → r < get_or xs i 0

  nothing_left : (lo hi : ℕ) → hi ≤ lo → Under lo → Over hi → none ≡ scan r 0 xs
  unfolding Under Over
  nothing_left lo hi h under over =
      sym (scan_none r 0 xs
      (λ i m e. below_or i lo (λ b. let z = under i b m in omega arith) (λ b. let z = over i (omega arith) m in omega arith)))

  agree : (k lo hi n : ℕ) → hi - lo ≤ k → hi ≤ length xs → Under lo → Over hi → (halve r xs lo hi n).index ≡ scan r 0 xs
  unfolding Under Over
  agree zero lo hi n f l under over = rw (halve_none r xs lo hi n (omega arith)) (nothing_left lo hi (omega arith) under over)
  agree (suc k) lo hi n f l under over =
      let m : ℕ = (lo + hi) / 2 in
      by_probe r xs lo hi
      (λ h. rw (halve_none r xs lo hi n h) (nothing_left lo hi h under over))
      (λ h e. rw (halve_hit r xs lo hi n h e) (sym (scan_at_lem 0 r 0 xs m asc (omega arith) e ∙ ap {B = Option ℕ} some (zero-add m))))
      (λ h e.
      rw (halve_past r xs lo hi n h e)
      (agree k (suc m) hi (suc n) (omega arith) l
      (λ i b q. equal_or i m (λ z. rw z e) (λ z. omega (arith, rising 0 xs i m asc (omega arith) (omega arith)))) over))
      (λ h e.
      rw (halve_before r xs lo hi n h e)
      (agree k lo m (suc n) (omega arith) (omega arith) under
      (λ i b q. equal_or i m (λ z. rw z e) (λ z. omega (arith, rising 0 xs m i asc (omega arith) q)))))

  pub same_rule : halved r xs ≡ scanned r xs
  unfolding Under Over
  same_rule =
      agree (length xs) 0 (length xs) 0 (omega arith) (omega arith) (λ i b m. absurd (omega arith)) (λ i b m. absurd (omega arith))

pub halved_finds : Finds halved
halved_finds r xs t = same_rule r xs t ∙ scan_finds r xs t
