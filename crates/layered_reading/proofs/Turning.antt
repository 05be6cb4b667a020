-- The invariant of a merge: where it begins, its turns, and where it ends. Assumes nothing.
use Rattle.format.specs.Kit.{◌≡◌, refl, ap, ◌∙◌, List, ℕ, suc, ◌+◌, ◌-◌, ◌≤◌, ◌<◌, add-one, arith, ℤ, pos, length, length-set, length-sets, get_or, take, drop, replicate}
use Rattle.format.specs.Opening.{Opened}
use Rattle.format.specs.Layered.{Layer, correction}
use Rattle.laws.proofs.Cases.{equal_or}
use Rattle.format.specs.Layered.{layer_number}
use Rattle.layered_reading.specs.Parts.{Holds}
use Rattle.layered_reading.proofs.Turns.{stays, takes, then}
use Rattle.layered_reading.proofs.Merging.{Turn, correction_turn, tie_turn, merged_run}
use Rattle.layered_reading.specs.declared.Buffer.{Buffer}
use Rattle.layered_reading.specs.declared.Met.{Met}
use Rattle.layered_reading.specs.Buffers.{Within, Lists, MergesTo, Merges}
use Rattle.layered_reading.specs.Runs.{Put, RunTo, run_target}

module _ (room start from : ℕ) (mi : List ℕ) (mv : List ℤ) (mh : Buffer) (ci : List ℕ) (cv : List ℤ) (ch : Buffer) (ids₀ : List ℕ) (vs₀ : List ℤ)
    (cs₀ : List ℕ) where
  pub record Going (i t a b : ℕ) (ids : List ℕ) (vs : List ℤ) (cs : List ℕ) : Type 0 where
    pub begun : start ≤ i
    pub upto : i ≤ room
    pub in_machine : a ≤ mh.count
    pub in_correction : b ≤ ch.count
    pub unmoved : i ≡ start → (a ≡ mh.at) × (b ≡ ch.at)
    pub long_ids : length ids ≡ length ids₀
    pub long_values : length vs ≡ length vs₀
    pub long_columns : length cs ≡ length cs₀
    pub merges : MergesTo room start from mi mv mh ci cv ch i t a b ids₀ ids vs₀ vs cs₀ cs

module _ {room start from : ℕ} {mi : List ℕ} {mv : List ℤ} {mh : Buffer} {ci : List ℕ} {cv : List ℤ} {ch : Buffer} {ids₀ : List ℕ} {vs₀ : List ℤ} {cs₀ : List ℕ}
    (given : Lists room start ids₀ vs₀ cs₀) (mw : Within mi mv mh) (cw : Within ci cv ch) where
  pub going_begins : Going room start from mi mv mh ci cv ch ids₀ vs₀ cs₀ start from mh.at ch.at ids₀ vs₀ cs₀
  going_begins =
      record {
        begun = omega arith;
        upto = given.upto;
        in_machine = mw.order;
        in_correction = cw.order;
        unmoved = λ e. (refl, refl);
        long_ids = refl;
        long_values = refl;
        long_columns = refl;
        merges = λ m x c y h g. record { reads = stays _ _ _ _ _ _ _ given.upto; lower = h; upper = g };
      }

  -- where a buffer has no pair left, or the lists have no place
  pub going_ends : (w : Met) (ids : List ℕ) (vs : List ℤ) (cs : List ℕ) → Going room start from mi mv mh ci cv ch ids₀ vs₀ cs₀ w.count w.target
      w.machine w.correction ids vs cs
      → (w.count < room → w.machine < mh.count → w.correction < ch.count → ⊥) → Merges room start from mi mv mh ci cv ch w ids₀ ids vs₀ vs cs₀ cs
  going_ends w ids vs cs g stops =
      record {
        upto = g.upto;
        in_machine = g.in_machine;
        in_correction = g.in_correction;
        goes_on = λ h k l.
            equal_or w.count start
            (λ e. absurd (stops (omega arith) (omega (arith, (g.unmoved e).0)) (omega (arith, (g.unmoved e).1))))
            (λ e. omega (arith, g.begun, e));
        merges = g.merges;
      }

  -- one more pair
  module _ {i t a b : ℕ} {ids : List ℕ} {vs : List ℤ} {cs : List ℕ} (g : Going room start from mi mv mh ci cv ch ids₀ vs₀ cs₀ i t a b ids vs cs)
      (room-left : i < room) (am : a < mh.count) (bm : b < ch.count) where
    one_more : (layer : Layer) (id u a' b' : ℕ) (v : ℤ) (ids' : List ℕ) (vs' : List ℤ) (cs' : List ℕ) → u ≡ id + 1 → a' ≤ mh.count → b' ≤ ch.count
        → Put i id v (layer_number layer) ids ids' vs vs' cs cs'
        → ((m : List ℕ) (x : Opened) (c : List ℕ) (y : Opened) → Holds m x t mi mv a mh.count mh.ended → Holds c y t ci cv b ch.count ch.ended
        → Turn m x c y t mi mv a mh.count mh.ended ci cv b ch.count ch.ended layer id v a' b') → Going room start from mi mv mh ci cv ch
        ids₀ vs₀ cs₀ (i + 1) u a' b' ids' vs' cs'
    one_more layer id u a' b' v ids' vs' cs' eu ea eb p turn =
        let e : u ≡ suc id = eu ∙ add-one id in
        record {
          begun = omega (arith, g.begun);
          upto = omega arith;
          in_machine = ea;
          in_correction = eb;
          unmoved = λ z. absurd (omega (arith, g.begun));
          long_ids = ap length p.in_ids ∙ length-set ids i id ∙ g.long_ids;
          long_values = ap length p.in_values ∙ length-set vs i v ∙ g.long_values;
          long_columns = ap length p.in_columns ∙ length-set cs i (layer_number layer) ∙ g.long_columns;
          merges = λ m x c y h k.
              let o = g.merges m x c y h k in
              let q = turn m x c y o.lower o.upper in
              rw e
              (record {
                reads = then o.reads (takes _ room i t ids vs cs (record { layer = layer; id = id; value = v }) ids' vs' cs' room-left q.pair p.in_ids
                    p.in_values p.in_columns);
                lower = q.lower;
                upper = q.upper;
              });
        }

    pub takes_correction : (u a' : ℕ) (ids' : List ℕ) (vs' : List ℤ) (cs' : List ℕ) → (get_or mi a 0 < get_or ci b 0 → ⊥)
        → (get_or mi a 0 ≡ get_or ci b 0 → a' ≡ a + 1) × ((get_or mi a 0 ≡ get_or ci b 0 → ⊥) → a' ≡ a) → u ≡ get_or ci b 0 + 1
        → Put i (get_or ci b 0) (get_or cv b (pos 0)) 1 ids ids' vs vs' cs cs' → Going room start from mi mv mh ci cv ch ids₀ vs₀ cs₀ (i + 1) u a' (b +
        1) ids' vs' cs'
    takes_correction u a' ids' vs' cs' l q e p =
        equal_or (get_or mi a 0) (get_or ci b 0)
        (λ z.
        let d = q.0 z in
        one_more correction (get_or ci b 0) u a' (b + 1) (get_or cv b (pos 0)) ids' vs' cs' e (omega arith) (omega arith) p
        (λ m x c y h k. rw d (tie_turn m x c y t mi mv a _ _ ci cv b _ _ am mw.in_ids mw.in_values bm cw.in_ids cw.in_values h k z)))
        (λ z.
        let d = q.1 z in
        let below : get_or ci b 0 < get_or mi a 0 = omega (arith, l, z) in
        one_more correction (get_or ci b 0) u a' (b + 1) (get_or cv b (pos 0)) ids' vs' cs' e (omega arith) (omega arith) p
        (λ m x c y h k. rw d (correction_turn m x c y t mi mv a _ _ ci cv b _ _ am mw.in_ids mw.in_values bm cw.in_ids cw.in_values h k below)))

  -- a run of the machine column's pairs below it
  module _ {i t a b : ℕ} {ids : List ℕ} {vs : List ℤ} {cs : List ℕ} (g : Going room start from mi mv mh ci cv ch ids₀ vs₀ cs₀ i t a b ids vs cs)
      (bm : b < ch.count) where
    pub takes_run : {end k : ℕ} {ids' : List ℕ} {vs' : List ℤ} {cs' : List ℕ} → i + (end - a) ≤ room → end ≤ mh.count
        → RunTo i a end (get_or ci b 0) k mi mv ids ids' vs vs' cs cs'
        → Going room start from mi mv mh ci cv ch ids₀ vs₀ cs₀ (i + (k - a)) (run_target t (k - a) mi a) k b ids' vs' cs'
    takes_run {end} {k} h n r =
        let ek : a + (k - a) ≡ k = omega (arith, r.from) in
        let el : a + (k - a) - 1 ≡ k - 1 = omega (arith, r.from) in
        record {
          begun = omega (arith, g.begun);
          upto = omega (arith, r.upto);
          in_machine = omega (arith, r.upto);
          in_correction = g.in_correction;
          unmoved = λ z.
              let u = g.unmoved (omega (arith, g.begun)) in
              (omega (arith, u.0, r.from, g.begun), u.1);
          long_ids = ap length r.in_ids ∙ length-sets ids i (take (k - a) (drop a mi)) ∙ g.long_ids;
          long_values = ap length r.in_values ∙ length-sets vs i (take (k - a) (drop a mv)) ∙ g.long_values;
          long_columns = ap length r.in_columns ∙ length-sets cs i (replicate (k - a) 0) ∙ g.long_columns;
          merges = λ m x c y p q.
              let o = g.merges m x c y p q in
              let d =
              merged_run m x c y room mi mv mh ci cv ch b mw bm cw (k - a) i t a ids vs cs (omega (arith, r.upto)) (omega (arith, r.upto))
              (λ l. rw el (r.below (omega arith))) o.lower o.upper in
              let d' = rw ek at d in
              rw (r.in_ids, r.in_values, r.in_columns)
              (record { reads = then o.reads d'.reads; lower = d'.lower; upper = d'.upper });
        }
