-- A header number that broke (document 01, refusals 7 and 8; document 02, [4]): the byte that decides is the first one from which no number
-- below 2^64 in its minimal form goes on. Assumes nothing.
use Rattle.format.specs.Kit.{◌≡◌, refl, sym, ap, ◌∙◌, ◌⊎◌, inl, inr, List, [], ◌∷◌, ◌++◌, append-nil, append_assoc, ℕ, zero, suc, ◌+◌, ◌-◌, ◌*◌}
use Rattle.format.specs.Kit.{◌/◌, ◌%◌, ◌<◌, ◌≤◌, arith, length, length-append, drop_of_length-le, ne_eqb, eq-eqb, le-ltb, lt-ltb}
use Rattle.format.specs.HeaderNumbers.{groups, number, Got, got, short, bad, above, read_groups, read_number}
use Rattle.format.specs.Pairs.{Below}
use Rattle.format.specs.Faults.{Begun, Fault, Decides, BadBytes}
use Rattle.laws.proofs.Cases.{below_or, equal_or}
use Rattle.laws.proofs.Digits.{below_append, below_front}
use Rattle.laws.proofs.Header.{groups_last, groups_more, read_number_lem}
use Rattle.laws.proofs.Minimal.{number_read}

-- ---- bytes that go on: the top bit is set

abbrev Going : List ℕ → Type 0
Going [] = Unit {0}
Going (b ∷ bs) = (128 ≤ b) × Going bs

-- with a last byte 1 they are a number
goes_groups : (f : ℕ) (bs : List ℕ) → Going bs → length bs ≤ f → (v : ℕ) × (read_groups f (bs ++ (1 ∷ [])) ≡ got v (suc (length bs)))
unfolding read_groups above
goes_groups zero [] g h = (1, refl)
goes_groups (suc f) [] g h = (1, refl)
goes_groups zero (b ∷ bs) g h = absurd (omega arith)
goes_groups (suc f) (b ∷ bs) g h =
    let more = goes_groups f bs g.1 (omega arith) in
    (b - 128 + 128 * more.0, rw (le-ltb b 128 g.0, more.1))

goes_number : (bs : List ℕ) → Going bs → length bs ≤ 9 → (v : ℕ) × (read_number (bs ++ (1 ∷ [])) ≡ got v (suc (length bs)))
unfolding read_number above
goes_number [] g h = (1, refl)
goes_number (b ∷ bs) g h =
    let more = goes_groups 8 bs g.1 (omega arith) in
    (b - 128 + 128 * more.0, rw (le-ltb b 128 g.0, more.1))

begun : (bs : List ℕ) → Below 256 bs → Going bs → length bs ≤ 9 → Begun bs
begun bs u g h =
    let r = goes_number bs g h in
    let n = number_read (bs ++ (1 ∷ [])) r.0 (suc (length bs)) (below_append 256 bs (1 ∷ []) u (omega arith, tt)) r.1 in
    let l : length (bs ++ (1 ∷ [])) ≤ suc (length bs) = omega (arith, length-append bs (1 ∷ [])) in
    (r.0, 1, [], n.0, sym (n.1 ∙ ap (λ (t : List ℕ). number r.0 ++ t) (drop_of_length-le (bs ++ (1 ∷ [])) l) ∙ append-nil (number r.0)))

-- and all bytes of a number but its last go on
some_bytes : (bs : List ℕ) (b : ℕ) (more : List ℕ) → [] ≡ bs ++ (b ∷ more) → ⊥
some_bytes bs b more e = omega (arith, ap length e, length-append bs (b ∷ more))

groups_going : (f n : ℕ) (bs : List ℕ) (b : ℕ) (more : List ℕ) → groups f n ≡ bs ++ (b ∷ more) → Going bs × (length bs < f)
unfolding groups
groups_going zero n bs b more e = absurd (some_bytes bs b more e)
groups_going (suc f) n [] b more e = (tt, omega arith)
groups_going (suc f) n (x ∷ bs) b more e =
    below_or n 128
    (λ h. absurd (some_bytes bs b more (let s : n ∷ [] ≡ x ∷ (bs ++ (b ∷ more)) = sym (groups_last f n h) ∙ e in cc)))
    (λ h.
    let s : (n % 128 + 128) ∷ groups f (n / 128) ≡ x ∷ (bs ++ (b ∷ more)) = sym (groups_more f n h) ∙ e in
    let first : n % 128 + 128 ≡ x = cc in
    let others : groups f (n / 128) ≡ bs ++ (b ∷ more) = cc in
    let ih = groups_going f (n / 128) bs b more others in
    ((omega arith, ih.0), omega (arith, ih.1)))

-- ---- the byte that decides, as it is read

-- after the first byte, with f bytes left before the tenth
abbrev FaultIn : ℕ → List ℕ → ℕ → Type 0
FaultIn f bs b = (b ≡ 0) ⊎ ((length bs ≡ f) × (b ≡ 1 → ⊥))

not_one : (f : ℕ) (bs : List ℕ) (b : ℕ) → FaultIn f bs b → b ≡ 1 → ⊥
not_one f bs b (inl z) e = omega arith
not_one f bs b (inr k) e = k.1 e

is_zero : (f b : ℕ) → FaultIn (suc f) [] b → b ≡ 0
is_zero f b (inl z) = z
is_zero f b (inr k) = absurd (omega (arith, k.0))

fault_after : (f x : ℕ) (bs : List ℕ) (b : ℕ) → FaultIn (suc f) (x ∷ bs) b → FaultIn f bs b
fault_after f x bs b (inl z) = inl z
fault_after f x bs b (inr k) = inr (omega (arith, k.0), k.1)

fault_before : (f x : ℕ) (bs : List ℕ) (b : ℕ) → FaultIn f bs b → FaultIn (suc f) (x ∷ bs) b
fault_before f x bs b (inl z) = inl z
fault_before f x bs b (inr k) = inr (omega (arith, k.0), k.1)

groups_bad : (f : ℕ) (bs : List ℕ) (b : ℕ) (more : List ℕ) → Going bs → length bs ≤ f → FaultIn f bs b
    → read_groups f (bs ++ (b ∷ more)) ≡ bad (length bs)
unfolding read_groups above
groups_bad zero [] b more g h t = rw (ne_eqb b 1 (not_one zero [] b t))
groups_bad (suc f) [] b more g h t = let z = is_zero f b t in rw (lt-ltb b 128 (omega arith), eq-eqb b 0 z)
groups_bad zero (x ∷ bs) b more g h t = absurd (omega arith)
groups_bad (suc f) (x ∷ bs) b more g h t = rw (le-ltb x 128 g.0, groups_bad f bs b more g.1 (omega arith) (fault_after f x bs b t))

fault_in : (x : ℕ) (bs : List ℕ) (b : ℕ) → Fault (x ∷ bs) b → FaultIn 8 bs b
fault_in x bs b (inl z) = inl z.1
fault_in x bs b (inr k) = inr (omega (arith, k.0), k.1)

fault_of_lem : (x : ℕ) (bs : List ℕ) (b : ℕ) → FaultIn 8 bs b → Fault (x ∷ bs) b
fault_of_lem x bs b (inl z) = inl (omega arith, z)
fault_of_lem x bs b (inr k) = inr (omega (arith, k.0), k.1)

number_bad : (bs : List ℕ) (b : ℕ) (more : List ℕ) → Going bs → length bs ≤ 9 → Fault bs b → read_number (bs ++ (b ∷ more)) ≡ bad (length bs)
unfolding read_number above
number_bad [] b more g h (inl z) = absurd (omega (arith, z.0))
number_bad [] b more g h (inr k) = absurd (omega (arith, k.0))
number_bad (x ∷ bs) b more g h t = rw (le-ltb x 128 g.0, groups_bad 8 bs b more g.1 (omega arith) (fault_in x bs b t))

-- what stands above a byte
above_bad : (b : ℕ) (o : Got) (k : ℕ) → above b o ≡ bad k → (j : ℕ) × (o ≡ bad j) × (suc j ≡ k)
unfolding above
above_bad b (got v j) k e = absurd (let z : ◌≡◌ {A = ℕ} 0 1 = cc in omega arith)
above_bad b short k e = absurd (let z : ◌≡◌ {A = ℕ} 0 1 = cc in omega arith)
above_bad b (bad j) k e = (j, refl, cc)

above_short : (b : ℕ) (o : Got) → above b o ≡ short → o ≡ short
unfolding above
above_short b (got v j) e = absurd (let z : ◌≡◌ {A = ℕ} 0 1 = cc in omega arith)
above_short b short e = refl
above_short b (bad j) e = absurd (let z : ◌≡◌ {A = ℕ} 0 1 = cc in omega arith)

-- bytes that are read as bad at byte k, after a number's first byte
record BadGroups (f k : ℕ) (bs : List ℕ) : Type 0 where
  before : List ℕ
  byte : ℕ
  after : List ℕ
  bytes_are : bs ≡ before ++ (byte ∷ after)
  going : Going before
  few : length before ≤ f
  place : length before ≡ k
  fault : FaultIn f before byte

groups_were_bad : (f : ℕ) (bs : List ℕ) (k : ℕ) → read_groups f bs ≡ bad k → BadGroups f k bs
unfolding read_groups
groups_were_bad zero [] k e = absurd (let z : ◌≡◌ {A = ℕ} 0 1 = cc in omega arith)
groups_were_bad (suc f) [] k e = absurd (let z : ◌≡◌ {A = ℕ} 0 1 = cc in omega arith)
groups_were_bad zero (b ∷ bs) k e =
    equal_or b 1
    (λ h. absurd (let r : got 1 1 ≡ bad k = rw (eq-eqb b 1 h) at e in let z : ◌≡◌ {A = ℕ} 0 1 = cc in omega arith))
    (λ h.
    let r : bad 0 ≡ bad k = rw (ne_eqb b 1 h) at e in
    record { before = []; byte = b; after = bs; bytes_are = refl; going = tt; few = omega arith; place = cc; fault = inr (refl, h) })
groups_were_bad (suc f) (b ∷ bs) k e =
    below_or b 128
    (λ h.
    equal_or b 0
    (λ z.
    let r : bad 0 ≡ bad k = rw (lt-ltb b 128 h, eq-eqb b 0 z) at e in
    record { before = []; byte = b; after = bs; bytes_are = refl; going = tt; few = omega arith; place = cc; fault = inl z })
    (λ z. absurd (let r : got b 1 ≡ bad k = rw (lt-ltb b 128 h, ne_eqb b 0 z) at e in let z : ◌≡◌ {A = ℕ} 0 1 = cc in omega arith)))
    (λ h.
    let r : above b (read_groups f bs) ≡ bad k = rw (le-ltb b 128 h) at e in
    let i = above_bad b (read_groups f bs) k r in
    let ih : BadGroups f i.0 bs = groups_were_bad f bs i.0 i.1 in
    record {
      before = b ∷ ih.before;
      byte = ih.byte;
      after = ih.after;
      bytes_are = ap {B = List ℕ} (λ (l : List ℕ). b ∷ l) ih.bytes_are;
      going = (h, ih.going);
      few = omega (arith, ih.few);
      place = omega (arith, ih.place, i.2);
      fault = fault_before f b ih.before ih.byte ih.fault;
    })

groups_short : (f : ℕ) (bs : List ℕ) → Going bs → length bs ≤ f → read_groups f bs ≡ short
unfolding read_groups above
groups_short zero [] g h = refl
groups_short (suc f) [] g h = refl
groups_short zero (b ∷ bs) g h = absurd (omega arith)
groups_short (suc f) (b ∷ bs) g h = rw (le-ltb b 128 g.0, groups_short f bs g.1 (omega arith))

groups_were_short : (f : ℕ) (bs : List ℕ) → read_groups f bs ≡ short → Going bs × (length bs ≤ f)
unfolding read_groups
groups_were_short zero [] e = (tt, omega arith)
groups_were_short (suc f) [] e = (tt, omega arith)
groups_were_short zero (b ∷ bs) e =
    equal_or b 1
    (λ h. absurd (let r : got 1 1 ≡ short = rw (eq-eqb b 1 h) at e in let z : ◌≡◌ {A = ℕ} 0 1 = cc in omega arith))
    (λ h. absurd (let r : bad 0 ≡ short = rw (ne_eqb b 1 h) at e in let z : ◌≡◌ {A = ℕ} 0 1 = cc in omega arith))
groups_were_short (suc f) (b ∷ bs) e =
    below_or b 128
    (λ h.
    equal_or b 0
    (λ z. absurd (let r : bad 0 ≡ short = rw (lt-ltb b 128 h, eq-eqb b 0 z) at e in let z : ◌≡◌ {A = ℕ} 0 1 = cc in omega arith))
    (λ z. absurd (let r : got b 1 ≡ short = rw (lt-ltb b 128 h, ne_eqb b 0 z) at e in let z : ◌≡◌ {A = ℕ} 0 1 = cc in omega arith)))
    (λ h.
    let r : above b (read_groups f bs) ≡ short = rw (le-ltb b 128 h) at e in
    let ih = groups_were_short f bs (above_short b (read_groups f bs) r) in
    ((h, ih.0), omega (arith, ih.1)))

number_short : (bs : List ℕ) → Going bs → length bs ≤ 9 → read_number bs ≡ short
unfolding read_number above
number_short [] g h = refl
number_short (b ∷ bs) g h = rw (le-ltb b 128 g.0, groups_short 8 bs g.1 (omega arith))

-- ---- what reading a number says, and the other way round

-- all bytes of a number but its last
begun_going : (bs : List ℕ) → Begun bs → Going bs × (length bs ≤ 9)
unfolding number
begun_going bs s = let g = groups_going 10 s.0 bs s.1 s.2 s.4 in (g.0, omega (arith, g.1))

decides : (bs : List ℕ) (b : ℕ) → Below 256 bs → Going bs → length bs ≤ 9 → Fault bs b → Decides bs b
decides bs b u g h t =
    record {
      not_before = begun bs u g h;
      here = λ v more k e.
          let n = sym (read_number_lem v [] k) ∙ ap read_number (append-nil (number v) ∙ e ∙ append_assoc bs (b ∷ []) more) ∙ number_bad bs b more g h t in
          let z : ◌≡◌ {A = ℕ} 0 1 = cc in
          omega arith;
      fault = t;
    }

-- a number that is read as bad at byte k
pub bad_bytes : (bs : List ℕ) (k : ℕ) → Below 256 bs → read_number bs ≡ bad k → BadBytes bs k
unfolding read_number
bad_bytes [] k u e = absurd (let z : ◌≡◌ {A = ℕ} 0 1 = cc in omega arith)
bad_bytes (b ∷ bs) k u e =
    below_or b 128
    (λ h. absurd (let r : got b 1 ≡ bad k = rw (lt-ltb b 128 h) at e in let z : ◌≡◌ {A = ℕ} 0 1 = cc in omega arith))
    (λ h.
    let r : above b (read_groups 8 bs) ≡ bad k = rw (le-ltb b 128 h) at e in
    let i = above_bad b (read_groups 8 bs) k r in
    let g : BadGroups 8 i.0 bs = groups_were_bad 8 bs i.0 i.1 in
    let front : Below 256 g.before = below_front 256 g.before (g.byte ∷ g.after) (rw g.bytes_are at u).1 in
    let t = fault_of_lem b g.before g.byte g.fault in
    record {
      before = b ∷ g.before;
      byte = g.byte;
      after = g.after;
      bytes_are = ap {B = List ℕ} (λ (l : List ℕ). b ∷ l) g.bytes_are;
      place = omega (arith, g.place, i.2);
      decides = decides (b ∷ g.before) g.byte (u.0, front) (h, g.going) (omega (arith, g.few)) t;
    })

pub bad_read : (bs : List ℕ) (b : ℕ) (more : List ℕ) → Decides bs b → read_number (bs ++ (b ∷ more)) ≡ bad (length bs)
bad_read bs b more d = let g = begun_going bs d.not_before in number_bad bs b more g.0 g.1 d.fault

-- bytes that end within a number
pub short_bytes : (bs : List ℕ) → Below 256 bs → read_number bs ≡ short → Begun bs
unfolding read_number
short_bytes [] u e = begun [] tt tt (omega arith)
short_bytes (b ∷ bs) u e =
    below_or b 128
    (λ h. absurd (let r : got b 1 ≡ short = rw (lt-ltb b 128 h) at e in let z : ◌≡◌ {A = ℕ} 0 1 = cc in omega arith))
    (λ h.
    let r : above b (read_groups 8 bs) ≡ short = rw (le-ltb b 128 h) at e in
    let g = groups_were_short 8 bs (above_short b (read_groups 8 bs) r) in
    begun (b ∷ bs) u (h, g.0) (omega (arith, g.1)))

pub short_read : (bs : List ℕ) → Begun bs → read_number bs ≡ short
short_read bs s = let g = begun_going bs s in number_short bs g.0 g.1
