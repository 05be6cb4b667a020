-- The invariant of the loop over both columns, its turns and its ends. Assumes nothing.
use Rattle.std.specs.Prelude.{Ok}
use Rattle.std.specs.declared.result.Result.{Result}
use Rattle.format.specs.Kit.{◌≡◌, refl, sym, ap, ◌∙◌, Bool, true, false, ◌&&◌, List, ℕ, ◌≤◌, ◌<◌, arith, ℤ, length, eqb, eq-eqb, eqb-true}
use Rattle.format.specs.Limits.{max_id}
use Rattle.format.specs.Refusals.{done}
use Rattle.format.specs.Opening.{Opened}
use Rattle.format.specs.Next.{no_candidate, next_steps}
use Rattle.format.specs.ReadFrom.{is_none}
use Rattle.format.specs.Layered.{machine, correction}
use Rattle.laws.proofs.Cases.{equal_or, below_or, false_true}
use Rattle.laws.proofs.Tests.{both_true}
use Rattle.format.specs.LayeredReading.{next_of_both}
use Rattle.layered_reading.specs.Turns.{LayeredReads}
use Rattle.layered_reading.specs.Parts.{Holds, read_layered_steps}
use Rattle.layered_reading.proofs.Turns.{then}
use Rattle.layered_reading.proofs.Holding.{has_first, whether_none, is_none_lem, askable}
use Rattle.layered_reading.proofs.Ending.{machine_alone, correction_alone, upper_refused, lower_refused, answered_both, not_at_end}
use Rattle.layered_reading.proofs.Fills.{full}
use Rattle.answers.specs.declared.Refusal as Re
use Rattle.answers.specs.Replies.{refused_as}
use Rattle.answers.specs.declared.Readout as Ro
use Rattle.layered.specs.declared.Layer as La
use Rattle.layered.specs.declared.LayerRefusal as Rf
use Rattle.layered_reading.specs.declared.Buffer.{Buffer}
use Rattle.layered_reading.specs.declared.Met.{Met}
use Rattle.layered_reading.specs.Buffers.{Within, Loose, Fresh, Merges, Ends, StopsBy, Rests, Leaves}
use Rattle.layered_reading.proofs.Steps.{ends_then, stops_end, ends_leave}

-- ---- a buffer

abbrev pub is_spent : Buffer → Bool
is_spent h = h.ended && eqb h.at h.count

module _ {bytes : List ℕ} {c : Opened} {t want : ℕ} {is : List ℕ} {vs : List ℤ} {h : Buffer} (f : Fresh bytes c t want is vs h) where
  -- the column has no pair left,
  pub spent_none : is_spent h ≡ true → next_steps bytes c t ≡ done no_candidate
  spent_none s =
      let b = both_true h.ended (eqb h.at h.count) s in
      is_none_lem (next_steps bytes c t) (whether_none bytes c is vs h.at h.count h.ended t (eqb-true _ _ b.1) f.holds ∙ b.0)

  -- or it has one,
  pub not_spent : is_spent h ≡ false → is_none (next_steps bytes c t) ≡ false
  unfolding is_none
  not_spent s =
      equal_or h.at h.count
      (λ e. whether_none bytes c is vs h.at h.count h.ended t e f.holds ∙ when_empty h.ended (rw (eq-eqb _ _ e) at s))
      (λ e. ap is_none (has_first bytes c is vs h.at h.count h.ended t (omega (arith, e, f.within.order)) f.within.in_ids f.within.in_values
      f.holds).first)
    where
      when_empty : (e : Bool) → (e && true) ≡ false → e ≡ false
      when_empty true g = g
      when_empty false g = refl

  -- and that is in the buffer, where one was wanted
  pub has_more : is_spent h ≡ false → 0 < want → h.at < h.count
  has_more s w =
      below_or h.at h.count (λ l. l) (λ l.
      let e : h.at ≡ h.count = omega (arith, f.within.order) in
      false_true (sym s ∙ rw (f.some w e, eq-eqb _ _ e) refl))

-- a buffer after a merge, asked anew where it has none
pub held_loose : (bytes : List ℕ) (c : Opened) (t : ℕ) (is : List ℕ) (vs : List ℤ) (h : Buffer) → Within is vs h → Holds bytes c t is vs h.at h.count h.ended
    → Loose bytes c t is vs h
held_loose bytes c t is vs h w g =
    record {
      within = w;
      known = λ n. g;
      target = λ e f. askable bytes c t (whether_none bytes c is vs h.at h.count h.ended t e g ∙ f);
    }

-- ---- both columns

pub record Looping (m : List ℕ) (x : Opened) (c : List ℕ) (y : Opened) (room from : ℕ) (ids₀ : List ℕ) (vs₀ : List ℤ) (cs₀ : List ℕ) (mi : List ℕ) (mv : List ℤ)
    (ci : List ℕ) (cv : List ℤ) (below top : Buffer) (i t : ℕ) (ids : List ℕ) (vs : List ℤ) (cs : List ℕ) : Type 0 where
  pub reads : LayeredReads (next_of_both m x c y) room 0 from ids₀ vs₀ cs₀ i t ids vs cs
  pub lower : Loose m x t mi mv below
  pub upper : Loose c y t ci cv top
  pub long_mi : length mi ≡ 512
  pub long_mv : length mv ≡ 512
  pub long_ci : length ci ≡ 512
  pub long_cv : length cv ≡ 512

-- of an empty buffer nothing is known
pub loose_begins : (bytes : List ℕ) (c : Opened) (t : ℕ) (is : List ℕ) (vs : List ℤ) (h : Buffer) → h.at ≡ 0 → h.count ≡ 0 → h.ended ≡ false → t ≤ max_id
    → Loose bytes c t is vs h
loose_begins bytes c t is vs h a n e l =
    record {
      within = record { order = omega arith; in_ids = omega arith; in_values = omega arith };
      known = λ f. absurd (f (a ∙ sym n) e);
      target = λ f g. l;
    }

module _ (m : List ℕ) (x : Opened) (c : List ℕ) (y : Opened) {room from : ℕ} {ids₀ : List ℕ} {vs₀ : List ℤ} {cs₀ : List ℕ} {i t : ℕ} {ids : List ℕ}
    {vs : List ℤ}
    {cs : List ℕ} (d : LayeredReads (next_of_both m x c y) room 0 from ids₀ vs₀ cs₀ i t ids vs cs) (li : room ≤ length ids₀) (lv : room ≤ length vs₀)
    (lc : room ≤ length cs₀) where
  leaves_by : (r : Result Ro.Readout Rf.LayerRefusal) (ids' : List ℕ) (vs' : List ℤ) (cs' : List ℕ) → Ends (next_of_both m x c y) room i t r ids ids' vs vs' cs cs'
      → Leaves (read_layered_steps m x c y from room) r ids₀ ids' vs₀ vs' cs₀ cs'
  leaves_by r ids' vs' cs' e =
      ends_leave m x c y room from ids₀ vs₀ cs₀ ids' vs' cs' li lv lc r
      (ends_then (next_of_both m x c y) room from ids₀ vs₀ cs₀ i t ids vs cs r ids' vs' cs' d e)

  -- the correction refuses,
  pub correction_stops : (why : Re.Refusal) (r : Result Ro.Readout Rf.LayerRefusal) → next_steps c y t ≡ refused_as why → StopsBy La.Layer.Correction why i r
      → Leaves (read_layered_steps m x c y from room) r ids₀ ids vs₀ vs cs₀ cs
  correction_stops why r e s =
      leaves_by r ids vs cs (stops_end (next_of_both m x c y) room i t ids vs cs La.Layer.Correction why r (upper_refused m x c y t _ _ e) s)

  -- or has no pair left,
  pub machine_left : (r : Result Ro.Readout Rf.LayerRefusal) (ids' : List ℕ) (vs' : List ℤ) (cs' : List ℕ) → next_steps c y t ≡ done no_candidate
      → Rests machine m x room i t r ids ids' vs vs' cs cs' → Leaves (read_layered_steps m x c y from room) r ids₀ ids' vs₀ vs' cs₀ cs'
  machine_left r ids' vs' cs' e s = leaves_by r ids' vs' cs' (s (next_of_both m x c y) (machine_alone m x c y t e))

  module _ {uw : ℕ} {ci : List ℕ} {cv : List ℤ} {upper : Buffer} (uf : Fresh c y t uw ci cv upper) where
    -- or the machine column does,
    pub machine_stops : (why : Re.Refusal) (r : Result Ro.Readout Rf.LayerRefusal) → next_steps m x t ≡ refused_as why → StopsBy La.Layer.Machine why i r
        → Leaves (read_layered_steps m x c y from room) r ids₀ ids vs₀ vs cs₀ cs
    machine_stops why r e s =
        leaves_by r ids vs cs
        (stops_end (next_of_both m x c y) room i t ids vs cs La.Layer.Machine why r (lower_refused m x c y t _ _ uf.answers e) s)

    pub correction_left : (r : Result Ro.Readout Rf.LayerRefusal) (ids' : List ℕ) (vs' : List ℤ) (cs' : List ℕ) → next_steps m x t ≡ done no_candidate
        → Rests correction c y room i t r ids ids' vs vs' cs cs' → Leaves (read_layered_steps m x c y from room) r ids₀ ids' vs₀ vs' cs₀ cs'
    correction_left r ids' vs' cs' e s = leaves_by r ids' vs' cs' (s (next_of_both m x c y) (correction_alone m x c y t e))

    module _ {lw : ℕ} {mi : List ℕ} {mv : List ℤ} {lower : Buffer} (lf : Fresh m x t lw mi mv lower) where
      -- or no place is left
      pub fills_up : (n : ℕ) → n ≡ i → i ≡ room → is_spent upper ≡ false → Leaves (read_layered_steps m x c y from room) (Ok (Ro.Readout.More n)) ids₀
          ids vs₀ vs cs₀ cs
      fills_up n en e s =
          rw en
          (leaves_by (Ok (Ro.Readout.More i)) ids vs cs
          (full (next_of_both m x c y) room i t ids vs cs e (not_at_end m x c y t (not_spent uf s)) (answered_both m x c y t uf.answers lf.answers)))

      -- else both go on
      pub loops : (w : Met) (below top : Buffer) (ids' : List ℕ) (vs' : List ℤ) (cs' : List ℕ) → Merges room i t mi mv lower ci cv upper w ids ids'
          vs vs' cs cs'
          → below ≡ record { at = w.machine; count = lower.count; ended = lower.ended }
          → top ≡ record { at = w.correction; count = upper.count; ended = upper.ended } → length mi ≡ 512 → length mv ≡ 512 → length ci ≡ 512 →
          length cv ≡ 512
          → Looping m x c y room from ids₀ vs₀ cs₀ mi mv ci cv below top w.count w.target ids' vs' cs'
      loops w below top ids' vs' cs' g eb et a b e f =
          let o = g.merges m x c y lf.holds uf.holds in
          record {
            reads = then d o.reads;
            lower = rw eb (held_loose m x w.target mi mv _ (record {
              order = g.in_machine;
              in_ids = lf.within.in_ids;
              in_values = lf.within.in_values;
            }) o.lower);
            upper = rw et (held_loose c y w.target ci cv _ (record {
              order = g.in_correction;
              in_ids = uf.within.in_ids;
              in_values = uf.within.in_values;
            })
                o.upper);
            long_mi = a;
            long_mv = b;
            long_ci = e;
            long_cv = f;
          }
