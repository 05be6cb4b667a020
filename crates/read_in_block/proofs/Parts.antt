-- Parts of a reading: none at all, ids that are passed over, one pair, and two parts one after the other. Assumes nothing.
use Rattle.format.specs.Kit.{◌≡◌, refl, sym, ap, ◌∙◌, List, ℕ, zero, suc, ◌+◌, ◌-◌, ◌≤◌, ◌<◌, arith, ℤ, set}
use Rattle.format.specs.Refusals.{done}
use Rattle.format.specs.Opening.{Opened}
use Rattle.format.specs.Next.{candidate_at, next_steps}
use Rattle.format.specs.Stores.{Fill}
use Rattle.laws.proofs.Cases.{below_or}
use Rattle.laws.proofs.Stores.{begun, one_more}
use Rattle.format.specs.ReadFrom.{Readout, answered, pair_then, goes_on, pairs_from}
use Rattle.read_in_block.specs.Parts.{Reads}

module _ (bytes : List ℕ) (c : Opened) where
  -- the pairs go by what the id is answered
  same_steps : (k t t' : ℕ) → next_steps bytes c t' ≡ next_steps bytes c t → pairs_from k bytes c t' ≡ pairs_from k bytes c t
  unfolding pairs_from
  same_steps zero t t' e = rw e
  same_steps (suc k) t t' e = rw e

  one_step : (k t id o : ℕ) (v : ℤ) → next_steps bytes c t ≡ done (candidate_at id o v)
      → pairs_from (suc k) bytes c t ≡ pair_then id v (pairs_from k bytes c (suc id))
  unfolding pairs_from goes_on
  one_step k t id o v e = rw e

  module _ (room i t : ℕ) (ids : List ℕ) (vs : List ℤ) where
    pub passes : (t' : ℕ) → i ≤ room → next_steps bytes c t' ≡ next_steps bytes c t → Reads bytes c room i t ids vs i t' ids vs
    passes t' h e =
        let w = sym (same_steps (room - i) t t' e) in
        record {
          from = omega arith;
          most = h;
          in_ids = begun ids i _ _ (ap (λ (x : Readout). x.ids) w);
          in_values = begun vs i _ _ (ap (λ (x : Readout). x.values) w);
          ended = ap (λ (x : Readout). x.ended) (sym w);
          some = λ l. absurd (omega arith);
          none = λ l. e;
        }

    pub stays : i ≤ room → Reads bytes c room i t ids vs i t ids vs
    stays h = passes t h refl

    pub takes : (id o : ℕ) (v : ℤ) (ids' : List ℕ) (vs' : List ℤ) → i < room → next_steps bytes c t ≡ done (candidate_at id o v) → ids' ≡ set ids i id
        → vs' ≡ set vs i v → Reads bytes c room i t ids vs (i + 1) (suc id) ids' vs'
    unfolding answered
    takes id o v ids' vs' h e a b =
        let k : room - i ≡ suc (room - (i + 1)) = omega arith in
        let w : pairs_from (room - i) bytes c t ≡ pair_then id v (pairs_from (room - (i + 1)) bytes c (suc id)) =
        ap (λ (n : ℕ). pairs_from n bytes c t) k ∙ one_step (room - (i + 1)) t id o v e in
        rw (a, b)
        (record {
          from = omega arith;
          most = omega arith;
          in_ids = one_more ids i _ ids i _ (begun ids i _ _ refl) id _ (ap (λ (x : Readout). x.ids) w);
          in_values = one_more vs i _ vs i _ (begun vs i _ _ refl) v _ (ap (λ (x : Readout). x.values) w);
          ended = sym (ap (λ (x : Readout). x.ended) w);
          some = λ l. ap answered e;
          none = λ l. absurd (omega arith);
        })

-- one after the other
fill_then : {A : Type 0} {d l m : List A} {i j k : ℕ} {xs ys zs : List A} → Fill d i xs l j ys → Fill l j ys m k zs → Fill d i xs m k zs
fill_then f g = record { same = g.same ∙ f.same; next = g.next ∙ f.next; kept = g.kept ∙ f.kept }

pub then : {bytes : List ℕ} {c : Opened} {room i t : ℕ} {ids : List ℕ} {vs : List ℤ} {i' t' : ℕ} {ids' : List ℕ} {vs' : List ℤ} {i'' t'' : ℕ} {ids'' : List ℕ}
    {vs'' : List ℤ} → Reads bytes c room i t ids vs i' t' ids' vs' → Reads bytes c room i' t' ids' vs' i'' t'' ids'' vs''
    → Reads bytes c room i t ids vs i'' t'' ids'' vs''
then {i = i} {i' = i'} f g =
    record {
      from = omega (arith, f.from, g.from);
      most = g.most;
      in_ids = fill_then f.in_ids g.in_ids;
      in_values = fill_then f.in_values g.in_values;
      ended = g.ended ∙ f.ended;
      some = λ l. below_or i i' f.some
          (λ m. ap answered (sym (f.none (omega (arith, f.from)))) ∙ g.some (omega (arith, f.from)));
      none = λ l. g.none (omega (arith, f.from, g.from)) ∙ f.none (omega (arith, f.from, g.from));
    }
