-- The values that a section holds, if each is there: those of its stored numbers, and all fit. Assumes nothing.
use Rattle.format.specs.Kit.{◌≡◌, refl, sym, ap₂, ◌∙◌, subst, Bool, true, false, cond, List, [], ◌∷◌, Option, none, some, map-eq-some_iff}
use Rattle.format.specs.Kit.{bind-eq-some_iff, ℕ, zero, suc, ◌^◌, ◌<◌, arith, ℤ, length, get_or}
use Rattle.format.specs.Bits.{tabulate}
use Rattle.format.specs.Values.{fits64}
use Rattle.format.specs.Pairs.{Below, Each, Fits}
use Rattle.format.specs.Codec.{Fields, signed64, scaled}
use Rattle.format.specs.Check.{all_values}
use Rattle.laws.proofs.Orders.{length_tabulate, get_d_tabulate, below_tabulate}
use Rattle.laws.proofs.Scaled.{signed_fits, scaled_value}
use Rattle.packings.specs.declared.Order.{Order}
use Rattle.packings.specs.Packings.{packing_of}
use Rattle.packings.proofs.Packings.{fetch_small}
use Rattle.scaled_values.specs.Held.{numbers_in, value_from, values_from}

signed_is : (u v : ℤ) → signed64 u ≡ some v → u ≡ v
unfolding signed64
signed_is u v e = go (fits64 u) e
  where
    go : (t : Bool) → cond t (some u) none ≡ some v → u ≡ v
    go true e = cc
    go false e = absurd (let z : ◌≡◌ {A = ℕ} 0 1 = cc in omega arith)

pub record Held (f : Fields) (xs : List ℕ) (vs : List ℤ) : Type 0 where
  pub same : values_from f xs ≡ vs
  pub fit : Each Fits vs

tabled : (f : Fields) (n : ℕ) (g : ℕ → ℕ) (k : ℕ → Option ℤ) (vs : List ℤ) → ((i : ℕ) → k i ≡ signed64 (value_from f (g i)))
    → all_values n k ≡ some vs → Held f (tabulate n g) vs
unfolding all_values bind-eq-some_iff tabulate values_from
tabled f zero g k vs is e =
    let same : [] ≡ vs = cc in
    subst (Held f []) same (record { same = refl; fit = tt })
tabled f (suc n) g k vs is e =
    let s = (bind-eq-some_iff (k 0) _).0 e in
    let t = (map-eq-some_iff _ (all_values n (λ i. k (suc i)))).0 s.2 in
    let one : signed64 (value_from f (g 0)) ≡ some s.0 = sym (is 0) ∙ s.1 in
    let more : Held f (tabulate n (λ i. g (suc i))) t.0 = tabled f n (λ i. g (suc i)) (λ i. k (suc i)) t.0 (λ i. is (suc i)) t.1 in
    subst (Held f (tabulate (suc n) g)) t.2
    (record {
      same = ap₂ {C = List ℤ} (λ (v : ℤ) (l : List ℤ). v ∷ l) (signed_is (value_from f (g 0)) s.0 one) more.same;
      fit = (signed_fits (value_from f (g 0)) s.0 one, more.fit);
    })

pub all_held : (o : Order) (n : ℕ) (f : Fields) (s : List ℕ) (vs : List ℤ) → all_values n ((scaled (packing_of o)).value n f s) ≡ some vs
    → Held f (numbers_in o f.width n s) vs
unfolding numbers_in
all_held o n f s vs e = tabled f n ((packing_of o).fetch s f.width) ((scaled (packing_of o)).value n f s) vs (scaled_value (packing_of o) n f s) e

-- ---- the numbers themselves

pub numbers_below : (o : Order) (w n : ℕ) (s : List ℕ) → Below (2 ^ w) (numbers_in o w n s)
unfolding numbers_in
numbers_below o w n s = below_tabulate (2 ^ w) n ((packing_of o).fetch s w) (fetch_small o s w)

pub length_numbers : (o : Order) (w n : ℕ) (s : List ℕ) → length (numbers_in o w n s) ≡ n
unfolding numbers_in
length_numbers o w n s = length_tabulate n ((packing_of o).fetch s w)

-- one fetched alone is the one at its place among all
pub number_at_lem : (o : Order) (w n : ℕ) (s : List ℕ) (i : ℕ) → i < n → get_or (numbers_in o w n s) i 0 ≡ (packing_of o).fetch s w i
unfolding numbers_in
number_at_lem o w n s i h = get_d_tabulate n ((packing_of o).fetch s w) i h
