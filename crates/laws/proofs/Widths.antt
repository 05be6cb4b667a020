-- The first of some widths that suffices, and Lucene 9's widths (document 02, [6]). Assumes nothing.
use Rattle.format.specs.Kit.{◌≡◌, refl, sym, subst, Bool, true, ◌&&◌, List, [], ◌∷◌, ℕ, suc, ◌^◌, ◌<◌, ◌≤◌}
use Rattle.format.specs.Kit.{arith, leb, ltb, lt-ltb, ltb-true, ne_eqb, leb-true}
use Rattle.format.specs.Limits.{max_width}
use Rattle.format.specs.Pairs.{Asc}
use Rattle.format.specs.Editions.{lucene_widths, first_enough, among}
use Rattle.laws.proofs.Cases.{equal_or, true_or}
use Rattle.laws.proofs.Tests.{both_true}

-- ---- any widths that rise

-- each of some widths passes a test
unfoldable pub each : (ℕ → Bool) → List ℕ → Bool
each t [] = true
each t (w ∷ ws) = t w && each t ws

-- a test that each of them passes, and 64, is passed by the first that suffices
pub first_passes : (t : ℕ → Bool) (ws : List ℕ) (q : ℕ) → each t ws ≡ true → t max_width ≡ true → t (first_enough ws q) ≡ true
unfolding each first_enough
first_passes t [] q e last = last
first_passes t (w ∷ ws) q e last =
    let b = both_true _ _ e in
    true_or (ltb q (2 ^ w)) (λ l. rw l b.0) (λ l. rw l (first_passes t ws q b.1 last))

-- and by each that is among them
pub among_passes : (t : ℕ → Bool) (ws : List ℕ) (w : ℕ) → each t ws ≡ true → among ws w ≡ true → t w ≡ true
unfolding each among
among_passes t [] w e a = absurd (let z : ◌≡◌ {A = ℕ} 0 1 = cc in omega arith)
among_passes t (x ∷ ws) w e a =
    let b = both_true _ _ e in
    equal_or x w
    (λ s. subst (λ (v : ℕ). t v ≡ true) s b.0)
    (λ s. among_passes t ws w b.1 (rw (ne_eqb x w s) at a))

first_enough_lem : (ws : List ℕ) (q : ℕ) → q < 2 ^ 64 → q < 2 ^ first_enough ws q
unfolding first_enough
first_enough_lem [] q h = h
first_enough_lem (w ∷ ws) q h = true_or (ltb q (2 ^ w)) (λ l. rw l (ltb-true q (2 ^ w) l)) (λ l. rw l (first_enough_lem ws q h))

among_least : (a : ℕ) (ws : List ℕ) (v : ℕ) → Asc a ws → among ws v ≡ true → a ≤ v
unfolding among
among_least a [] v t e = absurd (let z : ◌≡◌ {A = ℕ} 0 1 = cc in omega arith)
among_least a (w ∷ ws) v t e =
    equal_or w v
    (λ s. omega (arith, t.0))
    (λ s. let l : suc w ≤ v = among_least (suc w) ws v t.1 (rw (ne_eqb w v s) at e) in omega (arith, t.0))

-- no width of the list that suffices is smaller
first_least : (a : ℕ) (ws : List ℕ) (q v : ℕ) → Asc a ws → among ws v ≡ true → q < 2 ^ v → first_enough ws q ≤ v
unfolding first_enough among
first_least a [] q v t e h = absurd (let z : ◌≡◌ {A = ℕ} 0 1 = cc in omega arith)
first_least a (w ∷ ws) q v t e h =
    equal_or w v
    (λ s. rw (lt-ltb q (2 ^ w) (subst (λ (n : ℕ). q < 2 ^ n) (sym s) h)) (omega arith))
    (λ s.
    let there : among ws v ≡ true = rw (ne_eqb w v s) at e in
    let l : suc w ≤ v = among_least (suc w) ws v t.1 there in
    true_or (ltb q (2 ^ w)) (λ b. rw b (omega arith)) (λ b. rw b (first_least (suc w) ws q v t.1 there h)))

-- w is one of the list's, suffices, and is the least of the list's that do
pub record LeastOf (ws : List ℕ) (q w : ℕ) : Type 0 where
  pub listed : among ws w ≡ true
  pub suffices : q < 2 ^ w
  pub least : (v : ℕ) → among ws v ≡ true → q < 2 ^ v → w ≤ v

-- there is one only
pub one_least : (ws : List ℕ) (q v w : ℕ) → LeastOf ws q v → LeastOf ws q w → v ≡ w
one_least ws q v w a b = omega (arith, a.least w b.listed b.suffices, b.least v a.listed a.suffices)

-- ---- Lucene 9's

all_listed : each (among lucene_widths) lucene_widths ≡ true
unfolding each lucene_widths among
all_listed = refl

all_narrow : each (λ w. leb w max_width) lucene_widths ≡ true
unfolding each lucene_widths
all_narrow = refl

rising : Asc 0 lucene_widths
unfolding lucene_widths
rising = search arith

last_listed : among lucene_widths max_width ≡ true
unfolding lucene_widths among
last_listed = refl

pub lucene_least : (q : ℕ) → q < 2 ^ 64 → LeastOf lucene_widths q (first_enough lucene_widths q)
lucene_least q h =
    record {
      listed = first_passes (among lucene_widths) lucene_widths q all_listed last_listed;
      suffices = first_enough_lem lucene_widths q h;
      least = λ v. first_least 0 lucene_widths q v rising;
    }

pub lucene_narrow : (w : ℕ) → among lucene_widths w ≡ true → w ≤ max_width
lucene_narrow w a = leb-true w max_width (among_passes (λ w. leb w max_width) lucene_widths w all_narrow a)
