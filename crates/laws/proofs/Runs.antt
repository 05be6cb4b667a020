-- Ids by blocks, and back. Assumes nothing.
use Rattle.format.specs.Kit.{◌≡◌, refl, sym, ap, ap₂, ◌∙◌, subst, List, [], ◌∷◌, ◌++◌, map, ℕ, zero, suc, ◌+◌, ◌*◌, ◌/◌, ◌%◌, ◌<◌, zero-le}
use Rattle.format.specs.Kit.{div-add-mod', zero-lt-suc, add-suc, arith, length, length-append, length-map, eqb, eq-eqb, ne_eqb}
use Rattle.format.specs.Ids.{Run, push, runs}
use Rattle.format.specs.IdsRead.{ids_of}
use Rattle.format.specs.Pairs.{Below, Asc}
use Rattle.format.specs.Runs.{AllFine}
use Rattle.laws.proofs.Places.{asc_weaken}
use Rattle.laws.proofs.Cases.{equal_or, true_or}

-- the ids of runs with one id more in front
ids_push : (b r : ℕ) (gs : List Run) → ids_of (push b r gs) ≡ (b * 65536 + r) ∷ ids_of gs
unfolding push ids_of
ids_push b r [] = refl
ids_push b r (g ∷ gs) = equal_or b g.block (λ e. rw (eq-eqb b g.block e) (ap {B = List ℕ} (λ (x : ℕ). (b * 65536 + r) ∷ (map (λ q. x * 65536 + q) g.places ++ ids_of gs)) e)) (λ e. rw (ne_eqb b g.block e))

pub ids_runs : (ids : List ℕ) → ids_of (runs ids) ≡ ids
unfolding runs ids_of
ids_runs [] = refl
ids_runs (i ∷ is) =
    ids_push (i / 65536) (i % 65536) (runs is)
    ∙ ap₂ {C = List ℕ} (λ (x : ℕ) (y : List ℕ). x ∷ y) (div-add-mod' i 65536) (ids_runs is)

pub length_ids : (g : Run) (gs : List Run) → length (ids_of (g ∷ gs)) ≡ length g.places + length (ids_of gs)
unfolding ids_of
length_ids g gs =
    length-append (map (λ r. g.block * 65536 + r) g.places) (ids_of gs) ∙ ap (λ (n : ℕ). n + length (ids_of gs)) (length-map g.places _)

-- one id more of the first block
pub push_same : (b r : ℕ) (rs : List ℕ) (gs : List Run)
    → push b r (record { block = b; places = rs } ∷ gs) ≡ record { block = b; places = r ∷ rs } ∷ gs
unfolding push
push_same b r rs gs = rw (eq-eqb b b refl)

-- ---- the runs of ascending ids are fine

record Good (g : Run) : Type 0 where
  number : g.block < 32766
  some_place : zero < length g.places
  inside : Below 65536 g.places

abbrev AllGood : List Run → Type 0
AllGood [] = Unit {0}
AllGood (g ∷ gs) = Good g × AllGood gs

good_push : (b r : ℕ) (gs : List Run) → b < 32766 → r < 65536 → AllGood gs → AllGood (push b r gs)
unfolding push
good_push b r [] hb hr t = (record { number = hb; some_place = zero-lt-suc 0; inside = (hr, tt) }, tt)
good_push b r (g ∷ gs) hb hr t =
    true_or (eqb b g.block)
    (λ e. rw e (record { number = hb; some_place = zero-lt-suc _; inside = (hr, t.0.inside) }, t.1))
    (λ e. rw e (record { number = hb; some_place = zero-lt-suc 0; inside = (hr, tt) }, t))

good_runs : (ids : List ℕ) → Below 2147352576 ids → AllGood (runs ids)
unfolding runs
good_runs [] u = tt
good_runs (i ∷ is) u = good_push (i / 65536) (i % 65536) (runs is) (omega (arith, u.0)) (omega arith) (good_runs is u.1)

pub asc_left : (a : ℕ) (xs ys : List ℕ) → Asc a (xs ++ ys) → Asc a xs
asc_left a [] ys t = tt
asc_left a (x ∷ xs) ys t = (t.0, asc_left (suc x) xs ys t.1)

asc_right : (a : ℕ) (xs ys : List ℕ) → Asc a (xs ++ ys) → Asc 0 ys
asc_right a [] ys t = asc_weaken zero-le ys t
asc_right a (x ∷ xs) ys t = asc_right (suc x) xs ys t.1

asc_unmap : (k a : ℕ) (rs : List ℕ) → Asc (k + a) (map (λ r. k + r) rs) → Asc a rs
asc_unmap k a [] t = tt
asc_unmap k a (r ∷ rs) t = (omega (arith, t.0), asc_unmap k (suc r) rs (subst (λ (n : ℕ). Asc n (map (λ r. k + r) rs)) (sym (add-suc k r)) t.1))

asc_places : (k : ℕ) (rs : List ℕ) → Asc 0 (map (λ r. k + r) rs) → Asc 0 rs
asc_places k [] t = tt
asc_places k (r ∷ rs) t = asc_unmap k 0 (r ∷ rs) (omega arith, t.1)

all_fine : (gs : List Run) → AllGood gs → Asc 0 (ids_of gs) → AllFine gs
unfolding ids_of
all_fine [] t u = tt
all_fine (g ∷ gs) t u =
    let m : List ℕ = map (λ r. g.block * 65536 + r) g.places in (
      record {
        number = t.0.number;
        some_place = t.0.some_place;
        inside = t.0.inside;
        ascending = asc_places (g.block * 65536) g.places (asc_left 0 m (ids_of gs) u);
      },
      all_fine gs t.1 (asc_right 0 m (ids_of gs) u),
    )

pub fine_runs : (ids : List ℕ) → Asc 0 ids → Below 2147352576 ids → AllFine (runs ids)
fine_runs ids t u = all_fine (runs ids) (good_runs ids u) (subst (Asc 0) (sym (ids_runs ids)) t)
