-- Parts of a layered reading: none at all, one pair, two parts one after the other. Assumes nothing.
use Rattle.format.specs.Kit.{◌≡◌, refl, sym, ap, ◌∙◌, List, map, ℕ, suc, ◌+◌, ◌-◌, ◌≤◌, ◌<◌, arith, ℤ, set}
use Rattle.format.specs.Stores.{Fill}
use Rattle.laws.proofs.Cases.{below_or}
use Rattle.laws.proofs.Stores.{begun, one_more}
use Rattle.format.specs.LayeredReading.{LayeredPair, LayeredNext, next_pair, LayeredReading, layered_then, layered_steps}
use Rattle.format.specs.LayeredReading.{pair_id, pair_value, pair_column}
use Rattle.layered_reading.specs.Turns.{answered_next, LayeredReads}
use Rattle.laws.proofs.LayeredReadings.{at_pair}

module _ (next : ℕ → LayeredNext) (room i t : ℕ) (ids : List ℕ) (vs : List ℤ) (cs : List ℕ) where
  pub stays : i ≤ room → LayeredReads next room i t ids vs cs i t ids vs cs
  stays h =
      record {
        from = omega arith;
        most = h;
        in_ids = begun ids i _ _ refl;
        in_values = begun vs i _ _ refl;
        in_columns = begun cs i _ _ refl;
        ended = refl;
        some = λ l. absurd (omega arith);
        none = λ l. refl;
      }

  pub takes : (p : LayeredPair) (ids' : List ℕ) (vs' : List ℤ) (cs' : List ℕ) → i < room → next t ≡ next_pair p → ids' ≡ set ids i (pair_id p)
      → vs' ≡ set vs i (pair_value p) → cs' ≡ set cs i (pair_column p) → LayeredReads next room i t ids vs cs (i + 1) (suc p.id) ids' vs' cs'
  unfolding answered_next
  takes p ids' vs' cs' h e a b d =
      let k : room - i ≡ suc (room - (i + 1)) = omega arith in
      let w : layered_steps next (room - i) t ≡ layered_then p (layered_steps next (room - (i + 1)) (suc p.id)) =
      ap (λ (n : ℕ). layered_steps next n t) k ∙ at_pair next (room - (i + 1)) t p e in
      rw (a, b, d)
      (record {
        from = omega arith;
        most = omega arith;
        in_ids = one_more ids i _ ids i _ (begun ids i _ _ refl) (pair_id p) _ (ap (λ (r : LayeredReading). map pair_id r.pairs) w);
        in_values = one_more vs i _ vs i _ (begun vs i _ _ refl) (pair_value p) _ (ap (λ (r : LayeredReading). map pair_value r.pairs) w);
        in_columns = one_more cs i _ cs i _ (begun cs i _ _ refl) (pair_column p) _ (ap (λ (r : LayeredReading). map pair_column r.pairs) w);
        ended = sym (ap (λ (r : LayeredReading). r.ended) w);
        some = λ l. ap answered_next e;
        none = λ l. absurd (omega arith);
      })

-- one after the other
fill_then : {A : Type 0} {d l m : List A} {i j k : ℕ} {xs ys zs : List A} → Fill d i xs l j ys → Fill l j ys m k zs → Fill d i xs m k zs
fill_then f g = record { same = g.same ∙ f.same; next = g.next ∙ f.next; kept = g.kept ∙ f.kept }

pub then : {next : ℕ → LayeredNext} {room i t : ℕ} {ids : List ℕ} {vs : List ℤ} {cs : List ℕ} {i' t' : ℕ} {ids' : List ℕ} {vs' : List ℤ} {cs' : List
    ℕ} {i'' t'' : ℕ}
    {ids'' : List ℕ} {vs'' : List ℤ} {cs'' : List ℕ} → LayeredReads next room i t ids vs cs i' t' ids' vs' cs' → LayeredReads next room i' t' ids' vs'
    cs' i'' t'' ids'' vs'' cs''
    → LayeredReads next room i t ids vs cs i'' t'' ids'' vs'' cs''
then {i = i} {i' = i'} f g =
    record {
      from = omega (arith, f.from, g.from);
      most = g.most;
      in_ids = fill_then f.in_ids g.in_ids;
      in_values = fill_then f.in_values g.in_values;
      in_columns = fill_then f.in_columns g.in_columns;
      ended = g.ended ∙ f.ended;
      some = λ l. below_or i i' f.some (λ m. ap answered_next (sym (f.none (omega (arith, f.from)))) ∙ g.some (omega (arith, f.from)));
      none = λ l. g.none (omega (arith, f.from, g.from)) ∙ f.none (omega (arith, f.from, g.from));
    }
