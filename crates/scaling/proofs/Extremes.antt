-- The smallest and the greatest value, worked out in biased forms.
-- Assumes nothing.
use Rattle.format.specs.Kit.{◌≡◌, refl, sym, ap, ◌∙◌, subst, Bool, true, false, not, cond, List, [], ◌∷◌, ℕ, ◌+◌, ◌^◌, ◌≤◌, ◌<◌, min, max, add-one, arith}
use Rattle.format.specs.Kit.{T, ℤ, pos, length, get_or, drop, drop_of_length-le, drop-cons, mag, le_z}
use Rattle.format.specs.Values.{least_of, most_of, smallest, greatest}
use Rattle.format.specs.Pairs.{Each, Fits}
use Rattle.laws.proofs.Fits.{size_fits}
use Rattle.signed.specs.Sign.{biased, unbiased}
use Rattle.signed.proofs.Signs.{unbiased_biased, biased_unbiased, biased_le, biased_ge}
use Rattle.scaling.specs.Scaled.{EndsAt, EndsOf}
use Rattle.scaling.proofs.Part.{ValueAt}

-- the lesser of two numbers has the lesser biased form, the greater the greater
module _ (b : ℕ) (v : ℤ) (f : mag v < 2 ^ 63) where
  lesser : cond (le_z (unbiased b) v) (unbiased b) v ≡ unbiased (min b (biased v))
  lesser = go (le_z (unbiased b) v) (biased_le (unbiased b) v) (biased_ge (unbiased b) v)
    where
      go : (q : Bool) → (T q → biased (unbiased b) ≤ biased v) → (T (not q) → biased v ≤ biased (unbiased b))
          → cond q (unbiased b) v ≡ unbiased (min b (biased v))
      go true h k = let e : b ≡ min b (biased v) = omega (arith, h tt, biased_unbiased b) in ap unbiased e
      go false h k = let e : biased v ≡ min b (biased v) = omega (arith, k tt, biased_unbiased b) in sym (unbiased_biased v f) ∙ ap unbiased e

  greater : cond (le_z (unbiased b) v) v (unbiased b) ≡ unbiased (max b (biased v))
  greater = go (le_z (unbiased b) v) (biased_le (unbiased b) v) (biased_ge (unbiased b) v)
    where
      go : (q : Bool) → (T q → biased (unbiased b) ≤ biased v) → (T (not q) → biased v ≤ biased (unbiased b))
          → cond q v (unbiased b) ≡ unbiased (max b (biased v))
      go true h k = let e : biased v ≡ max b (biased v) = omega (arith, h tt, biased_unbiased b) in sym (unbiased_biased v f) ∙ ap unbiased e
      go false h k = let e : b ≡ max b (biased v) = omega (arith, k tt, biased_unbiased b) in ap unbiased e

-- the first value is both ends of none
pub ends_start : (vs : List ℤ) (b : ℕ) → b ≡ biased (get_or vs 0 (pos 0)) → mag (get_or vs 0 (pos 0)) < 2 ^ 63 → EndsAt vs 0 b b
unfolding smallest greatest least_of most_of
ends_start [] b e f =
    let u : unbiased b ≡ pos 0 = ap unbiased e ∙ unbiased_biased (pos 0) f in
    record { within = omega arith; low = u; high = u; order = omega arith; fit = λ t. t }
ends_start (v ∷ vs) b e f =
    let u : unbiased b ≡ v = ap unbiased e ∙ unbiased_biased v f in
    record {
      within = omega arith;
      low = ap (λ (z : ℤ). least_of z vs) (ap (λ (z : ℤ). cond (le_z z v) z v) u ∙ same (le_z v v) v);
      high = ap (λ (z : ℤ). most_of z vs) (ap (λ (z : ℤ). cond (le_z z v) v z) u ∙ same (le_z v v) v);
      order = omega arith;
      fit = λ t. t;
    }
  where
    same : (q : Bool) (v : ℤ) → cond q v v ≡ v
    same true v = refl
    same false v = refl

pub ends_more : {vs : List ℤ} {i j l h b : ℕ} → EndsAt vs i l h → ValueAt vs i b → j ≡ i + 1 → EndsAt vs j (min l b) (max h b)
unfolding least_of most_of
ends_more {vs} {i} {j} {l} {h} {b} p r e = subst (λ (k : ℕ). EndsAt vs k (min l b) (max h b)) (sym e) next
  where
    next : EndsAt vs (i + 1) (min l b) (max h b)
    next =
        let v : ℤ = get_or vs i (pos 0) in
        let d : drop i vs ≡ v ∷ drop (i + 1) vs = rw (add-one i) (drop-cons vs i (pos 0) r.inside) in
        let lo : unbiased (min l b) ≡ cond (le_z (unbiased l) v) (unbiased l) v = ap (λ (x : ℕ). unbiased (min l x)) r.is ∙ sym (lesser l v r.size) in
        let hi : unbiased (max h b) ≡ cond (le_z (unbiased h) v) v (unbiased h) = ap (λ (x : ℕ). unbiased (max h x)) r.is ∙ sym (greater h v r.size) in
        record {
          within = omega (arith, r.inside);
          low = ap (λ (z : ℤ). least_of z (drop (i + 1) vs)) lo ∙ ap (least_of (unbiased l)) (sym d) ∙ p.low;
          high = ap (λ (z : ℤ). most_of z (drop (i + 1) vs)) hi ∙ ap (most_of (unbiased h)) (sym d) ∙ p.high;
          order = omega (arith, p.order);
          fit = λ t. p.fit (subst (Each Fits) (sym d) (size_fits v r.size, t));
        }

-- one that is within the ends moves neither
pub ends_kept : {vs : List ℤ} {i j l h b : ℕ} → EndsAt vs i l h → ValueAt vs i b → j ≡ i + 1 → (l ≤ b) × (b ≤ h) → EndsAt vs j l h
ends_kept {vs} {i} {j} {l} {h} {b} p r e t =
    let a : min l b ≡ l = omega (arith, t.0) in
    let c : max h b ≡ h = omega (arith, t.1) in
    subst (λ (x : ℕ). EndsAt vs j x h) a (subst (λ (y : ℕ). EndsAt vs j (min l b) y) c (ends_more p r e))

pub ends_done : {vs : List ℤ} {i l h : ℕ} → EndsAt vs i l h → length vs ≤ i → EndsOf vs l h
unfolding least_of most_of
ends_done {vs} {i} {l} {h} p k =
    let d : drop i vs ≡ [] = rw drop_of_length-le in
    record {
      low = sym (biased_unbiased l) ∙ ap biased (ap (least_of (unbiased l)) (sym d) ∙ p.low);
      high = sym (biased_unbiased h) ∙ ap biased (ap (most_of (unbiased h)) (sym d) ∙ p.high);
      order = p.order;
      fit = p.fit (subst (Each Fits) (sym d) tt);
    }
