-- One turn of a merge of two buffers: the pair that is taken, and what the buffers hold from the id after on. Assumes nothing.
use Rattle.format.specs.Kit.{◌≡◌, refl, Bool, List, ℕ, zero, suc, ◌+◌, ◌-◌, ◌≤◌, ◌<◌, add-one, le_refl, arith, ℤ, pos, length, get_or, set, sets}
use Rattle.format.specs.Kit.{take, drop, drop-cons, replicate}
use Rattle.format.specs.Refusals.{done}
use Rattle.format.specs.Opening.{Opened}
use Rattle.format.specs.Next.{candidate_at, next_steps}
use Rattle.format.specs.Layered.{Layer, machine, correction}
use Rattle.format.specs.LayeredReading.{next_pair, next_of_both}
use Rattle.layered_reading.specs.Parts.{Holds}
use Rattle.laws.proofs.NextKept.{take_correction, take_tie, take_machine, candidate_from}
use Rattle.layered_reading.specs.Runs.{run_target}
use Rattle.layered_reading.specs.declared.Buffer.{Buffer}
use Rattle.layered_reading.specs.Buffers.{Within, Merged}
use Rattle.layered_reading.proofs.Holding.{stays, has_first}
use Rattle.layered_reading.proofs.Turns as Tu
use Rattle.layered_reading.proofs.Turns.{takes, then}

module _ (m : List ℕ) (x : Opened) (c : List ℕ) (y : Opened) (t : ℕ) (mi : List ℕ) (mv : List ℤ) (a ac : ℕ) (ae : Bool) (ci : List ℕ) (cv : List ℤ) (b bc : ℕ)
    (be : Bool) where
  -- the pair, and the buffers at places a' and b'
  pub record Turn (layer : Layer) (id : ℕ) (v : ℤ) (a' b' : ℕ) : Type 0 where
    pub pair : next_of_both m x c y t ≡ next_pair (record { layer = layer; id = id; value = v })
    pub lower : Holds m x (suc id) mi mv a' ac ae
    pub upper : Holds c y (suc id) ci cv b' bc be

  module _ (am : a < ac) (an : ac ≤ length mi) (ao : ac ≤ length mv) (bm : b < bc) (bn : bc ≤ length ci) (bo : bc ≤ length cv)
      (h : Holds m x t mi mv a ac ae) (g : Holds c y t ci cv b bc be) where
    pub machine_turn : get_or mi a 0 < get_or ci b 0 → Turn machine (get_or mi a 0) (get_or mv a (pos 0)) (a + 1) b
    machine_turn l =
        let f = has_first m x mi mv a ac ae t am an ao h in
        let e = has_first c y ci cv b bc be t bm bn bo g in
        let p = take_machine m x c y t (get_or mi a 0) f.ordinal (get_or mv a (pos 0)) f.first (get_or ci b 0) e.ordinal (get_or cv b (pos 0)) e.first l in
        record { pair = p.0; lower = f.others; upper = stays c y ci cv b bc be t (suc (get_or mi a 0)) p.1 g }

    pub correction_turn : get_or ci b 0 < get_or mi a 0 → Turn correction (get_or ci b 0) (get_or cv b (pos 0)) a (b + 1)
    correction_turn l =
        let f = has_first m x mi mv a ac ae t am an ao h in
        let e = has_first c y ci cv b bc be t bm bn bo g in
        let p = take_correction m x c y t (get_or ci b 0) e.ordinal (get_or cv b (pos 0)) e.first (get_or mi a 0) f.ordinal (get_or mv a (pos 0)) f.first l in
        record { pair = p.0; lower = stays m x mi mv a ac ae t (suc (get_or ci b 0)) p.1 h; upper = e.others }

    pub tie_turn : get_or mi a 0 ≡ get_or ci b 0 → Turn correction (get_or ci b 0) (get_or cv b (pos 0)) (a + 1) (b + 1)
    tie_turn l =
        let f = has_first m x mi mv a ac ae t am an ao h in
        let e = has_first c y ci cv b bc be t bm bn bo g in
        let first : next_steps m x t ≡ done (candidate_at (get_or ci b 0) f.ordinal (get_or mv a (pos 0))) = rw (← l) f.first in
        record {
          pair = take_tie m x c y t (get_or ci b 0) e.ordinal (get_or cv b (pos 0)) e.first f.ordinal (get_or mv a (pos 0)) first;
          lower = rw (← l) f.others;
          upper = e.others;
        }

-- ---- a run of the machine column's

module _ (m : List ℕ) (x : Opened) (mi : List ℕ) (mv : List ℤ) (ac : ℕ) (ae : Bool) (an : ac ≤ length mi) (ao : ac ≤ length mv) where
  -- the ids of a buffer are at or above its target,
  from_target : (d t a : ℕ) → a + d < ac → Holds m x t mi mv a ac ae → t ≤ get_or mi (a + d) 0
  from_target zero t a l h =
      let z : a + 0 ≡ a = omega arith in
      let f = has_first m x mi mv a ac ae t (omega arith) an ao h in
      rw z (candidate_from m x t _ f.ordinal _ f.first)
  from_target (suc d) t a l h =
      let z : a + suc d ≡ a + 1 + d = omega arith in
      let f = has_first m x mi mv a ac ae t (omega arith) an ao h in
      let k = candidate_from m x t _ f.ordinal _ f.first in
      rw z (omega (arith, k, from_target d (suc (get_or mi a 0)) (a + 1) (omega arith) f.others))

  -- and rise
  rising : (d t a : ℕ) → a + d < ac → Holds m x t mi mv a ac ae → get_or mi a 0 ≤ get_or mi (a + d) 0
  rising zero t a l h = let z : a + 0 ≡ a = omega arith in rw z (le_refl (get_or mi a 0))
  rising (suc d) t a l h =
      let z : a + suc d ≡ a + 1 + d = omega arith in
      let f = has_first m x mi mv a ac ae t (omega arith) an ao h in
      rw z (omega (arith, from_target d (suc (get_or mi a 0)) (a + 1) (omega arith) f.others))

-- an element in front of a run
run_front : {A : Type 0} (l : List A) (i : ℕ) (s : List A) (a e : ℕ) (d : A) → a < length s
    → sets l i (take (suc e) (drop a s)) ≡ sets (set l i (get_or s a d)) (i + 1) (take e (drop (a + 1) s))
run_front l i s a e d h = rw (drop-cons s a d h, add-one a, add-one i) refl

-- the target after a run, with its first pair before the others
after_first : (mi : List ℕ) (t a e : ℕ) → run_target t (suc e) mi a ≡ run_target (suc (get_or mi a 0)) e mi (a + 1)
unfolding run_target
after_first mi t a zero = let z : a + 0 ≡ a = omega arith in rw z refl
after_first mi t a (suc e) = let z : a + suc e ≡ a + 1 + e = omega arith in rw z refl

module _ (m : List ℕ) (x : Opened) (c : List ℕ) (y : Opened) (room : ℕ) (mi : List ℕ) (mv : List ℤ) (mh : Buffer) (ci : List ℕ) (cv : List ℤ) (ch : Buffer)
    (b : ℕ) (mw : Within mi mv mh) (bm : b < ch.count) (cw : Within ci cv ch) where
  -- d pairs from place a on in place i and on
  abbrev Ran : ℕ → ℕ → ℕ → ℕ → List ℕ → List ℤ → List ℕ → Type 0
  Ran d i t a ids vs cs =
      Merged m x c y room i t mi mv mh ci cv ch (i + d) (run_target t d mi a) (a + d) b ids (sets ids i (take d (drop a mi))) vs (sets vs i (take d (drop a mv)))
      cs (sets cs i (replicate d 0))

  ran_none : (i t a : ℕ) (ids : List ℕ) (vs : List ℤ) (cs : List ℕ) → i ≤ room → Holds m x t mi mv a mh.count mh.ended
      → Holds c y t ci cv b ch.count ch.ended → Ran 0 i t a ids vs cs
  unfolding run_target
  ran_none i t a ids vs cs hr h g =
      let ei : i + 0 ≡ i = omega arith in
      let ea : a + 0 ≡ a = omega arith in
      rw (ei, ea) (record { reads = Tu.stays _ room i t ids vs cs hr; lower = h; upper = g })

  -- the first pair, and then the others
  ran_more : (e i t a : ℕ) (ids : List ℕ) (vs : List ℤ) (cs : List ℕ) → i < room → a < mh.count
      → Turn m x c y t mi mv a mh.count mh.ended ci cv b ch.count ch.ended machine (get_or mi a 0) (get_or mv a (pos 0)) (a + 1) b
      → Ran e (i + 1) (suc (get_or mi a 0)) (a + 1) (set ids i (get_or mi a 0)) (set vs i (get_or mv a (pos 0))) (set cs i 0) → Ran (suc e) i t a ids vs cs
  ran_more e i t a ids vs cs hr ha q r =
      let first =
      takes (next_of_both m x c y) room i t ids vs cs (record { layer = machine; id = get_or mi a 0; value = get_or mv a (pos 0) }) (set ids i (get_or mi a 0))
      (set vs i (get_or mv a (pos 0))) (set cs i 0) hr q.pair refl refl refl in
      let ei : i + suc e ≡ i + 1 + e = omega arith in
      let ea : a + suc e ≡ a + 1 + e = omega arith in
      let fc : sets cs i (replicate (suc e) 0) ≡ sets (set cs i 0) (i + 1) (replicate e 0) = rw (add-one i) refl in
      rw (ei, ea, after_first mi t a e, run_front ids i mi a e 0 (omega (arith, mw.in_ids)), run_front vs i mv a e (pos 0) (omega (arith, mw.in_values)), fc)
      (record { reads = then first r.reads; lower = r.lower; upper = r.upper })

  -- so many pairs, the last of which is below the correction's next
  pub merged_run : (d i t a : ℕ) (ids : List ℕ) (vs : List ℤ) (cs : List ℕ) → i + d ≤ room → a + d ≤ mh.count
      → (0 < d → get_or mi (a + d - 1) 0 < get_or ci b 0) → Holds m x t mi mv a mh.count mh.ended → Holds c y t ci cv b ch.count ch.ended
      → Ran d i t a ids vs cs
  merged_run zero i t a ids vs cs hr ha l h g = ran_none i t a ids vs cs (omega arith) h g
  merged_run (suc e) i t a ids vs cs hr ha l h g =
      let z : a + suc e - 1 ≡ a + e = omega arith in
      let last = rw z at (l (omega arith)) in
      let up = rising m x mi mv mh.count mh.ended mw.in_ids mw.in_values e t a (omega arith) h in
      let q =
      machine_turn m x c y t mi mv a _ _ ci cv b _ _ (omega arith) mw.in_ids mw.in_values bm cw.in_ids cw.in_values h g (omega (arith, up, last)) in
      ran_more e i t a ids vs cs (omega arith) (omega arith) q
      (merged_run e (i + 1) (suc (get_or mi a 0)) (a + 1) _ _ _ (omega arith) (omega arith)
      (λ n. let w : a + 1 + e - 1 ≡ a + e = omega arith in rw w last) q.lower q.upper)
