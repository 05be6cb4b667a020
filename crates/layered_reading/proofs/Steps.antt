-- The end of a part as the end of the whole, and what a reading then leaves. Assumes nothing.
use Rattle.format.specs.Kit.{◌≡◌, refl, sym, ap, ap₂, ◌∙◌, Bool, true, false, List, [], ℕ, ◌+◌, ◌-◌, ◌≤◌, arith, ℤ, length}
use Rattle.format.specs.Kit.{take, drop, sets, replicate, put_mid}
use Rattle.format.specs.Refusals.{and_then}
use Rattle.format.specs.Opening.{Opened}
use Rattle.format.specs.Next.{next_steps}
use Rattle.format.specs.ReadFrom.{pairs_from, read_steps, readout_after}
use Rattle.laws.proofs.Cases.{equal_or}
use Rattle.format.specs.Layered.{layer_number}
use Rattle.format.specs.LayeredReading.{LayeredNext, refused_next, next_of_both, layered_steps, count_to, layered_read_reply, layered_read_after}
use Rattle.layered_reading.specs.Turns.{LayeredReads}
use Rattle.layered_reading.specs.Parts.{Alone, Stopped, read_layered_steps}
use Rattle.laws.proofs.NextKept.{few_pairs}
use Rattle.layered_reading.proofs.Ending.{steps_read, steps_refused, stopped_then, refuses_then, first_step, how_many, at_end, ids_after_is}
use Rattle.layered_reading.proofs.Ending.{values_after_is, columns_after}
use Rattle.layered_reading.proofs.Fills.{Answers, few_read, as_many, part_stored, refused_later, refused_at_first, alone_stopped, alone_refused}
use Rattle.answers.specs.declared.Refusal as Re
use Rattle.answers.specs.Replies.{refusal_number, refusal_with, refused_as}
use Rattle.layered.specs.Answers.{layer_of}
use Rattle.layered.specs.declared.Layer as La
use Rattle.layered.specs.Answers.{layered_readout_of}
use Rattle.layered_reading.specs.Buffers.{Ends, StopsBy, Leaves}
use Rattle.std.specs.Prelude.{Ok, Err}
use Rattle.std.specs.declared.result.Result.{Result}
use Rattle.answers.specs.declared.Readout as Ro
use Rattle.layered.specs.declared.LayerRefusal as Rf

-- ---- a part's end is the whole's

pub ends_then : (next : ℕ → LayeredNext) (room t : ℕ) (ids : List ℕ) (vs : List ℤ) (cs : List ℕ) (i u : ℕ) (ids₁ : List ℕ) (vs₁ : List ℤ) (cs₁ : List ℕ)
    (r : Result Ro.Readout Rf.LayerRefusal) (ids' : List ℕ) (vs' : List ℤ) (cs' : List ℕ) → LayeredReads next room 0 t ids vs cs i u ids₁ vs₁ cs₁
    → Ends next room i u r ids₁ ids' vs₁ vs' cs₁ cs' → Ends next room 0 t r ids ids' vs vs' cs cs'
ends_then next room t ids vs cs i u ids₁ vs₁ cs₁ (Ok (Ro.Readout.More n)) ids' vs' cs' d s =
    stopped_then next room t ids vs cs i u ids₁ vs₁ cs₁ d n false ids' vs' cs' s
ends_then next room t ids vs cs i u ids₁ vs₁ cs₁ (Ok (Ro.Readout.Ended n)) ids' vs' cs' d s =
    stopped_then next room t ids vs cs i u ids₁ vs₁ cs₁ d n true ids' vs' cs' s
ends_then next room t ids vs cs i u ids₁ vs₁ cs₁ (Err y) ids' vs' cs' d s =
    refuses_then next room t ids vs cs i u ids₁ vs₁ cs₁ d (layer_of y.layer) (refusal_number y.why) (refusal_with y.why) ids' vs' cs' s

-- a refusal by a column ends it
pub stops_end : (next : ℕ → LayeredNext) (room i t : ℕ) (ids : List ℕ) (vs : List ℤ) (cs : List ℕ) (layer : La.Layer) (why : Re.Refusal) (r : Result Ro.Readout Rf.LayerRefusal)
    → next t ≡ refused_next (layer_of layer) (refusal_number why) (refusal_with why) → StopsBy layer why i r → Ends next room i t r ids ids vs vs cs cs
stops_end next room i t ids vs cs layer why r e s =
    equal_or i 0
    (λ z. rw (s.0 z) (refused_at_first next room i t ids vs cs (layer_of layer) _ _ z e))
    (λ z. rw (s.1 z) (refused_later next room i t ids vs cs (layer_of layer) _ _ (omega (arith, z)) e))

-- ---- the reply and the lists

module _ (m : List ℕ) (x : Opened) (c : List ℕ) (y : Opened) (room t : ℕ) (ids : List ℕ) (vs : List ℤ) (cs : List ℕ) (ids' : List ℕ) (vs' : List ℤ)
    (cs' : List ℕ)
    (li : room ≤ length ids) (lv : room ≤ length vs) (lc : room ≤ length cs) where
  abbrev next : ℕ → LayeredNext
  next = next_of_both m x c y

  few : (n : ℕ) (e : Bool) → Stopped next room 0 t ids vs cs n e ids' vs' cs' → n ≤ room
  few n e s = omega (arith, how_many next room t ids vs cs n e ids' vs' cs' s, few_pairs next room t)

  stopped_leaves : (r : Result Ro.Readout Rf.LayerRefusal) (n : ℕ) (e : Bool) → Stopped next room 0 t ids vs cs n e ids' vs' cs' → layered_readout_of r ≡ count_to n e
      → Leaves (read_layered_steps m x c y t room) r ids ids' vs vs' cs cs'
  unfolding layered_read_reply
  stopped_leaves r n e s k =
      let f = few n e s in
      let told : count_to n e ≡ count_to (length (layered_steps next room t).pairs) (layered_steps next room t).ended =
      ap₂ count_to (how_many next room t ids vs cs n e ids' vs' cs' s) (sym (at_end next room t ids vs cs n e ids' vs' cs' s)) in
      rw (steps_read m x c y t room (first_step next room t ids vs cs n e ids' vs' cs' s)) (
        k ∙ told,
        (
          ids_after_is next room t ids vs cs n e ids' vs' cs' s li f,
          (
            values_after_is next room t ids vs cs n e ids' vs' cs' s lv f,
            columns_after next room t ids vs cs n e ids' vs' cs' s lc f,
          ),
        ),
      )

  pub ends_leave : (r : Result Ro.Readout Rf.LayerRefusal) → Ends next room 0 t r ids ids' vs vs' cs cs' → Leaves (read_layered_steps m x c y t room) r ids ids' vs vs' cs cs'
  unfolding layered_read_reply layered_read_after
  ends_leave (Ok (Ro.Readout.More n)) s = stopped_leaves (Ok (Ro.Readout.More n)) n false s refl
  ends_leave (Ok (Ro.Readout.Ended n)) s = stopped_leaves (Ok (Ro.Readout.Ended n)) n true s refl
  ends_leave (Err z) s =
      rw (steps_refused m x c y t room (layer_of z.layer) _ _ s.refusal) (refl, (s.in_ids, (s.in_values, s.in_columns)))

-- ---- one column's pairs put into the lists from place i on

module _ (next : ℕ → LayeredNext) (room i t : ℕ) (ids : List ℕ) (vs : List ℤ) (cs : List ℕ) (upto : i ≤ room) (li : room ≤ length ids) (lv : room ≤ length vs)
    (layer : La.Layer) (bytes : List ℕ) (c : Opened) (pi : List ℕ) (pv : List ℤ) where
  -- a part that was lent to the reading
  abbrev lent : {A : Type 0} → List A → List A
  lent l = take (length l - i) (drop i l)

  pub rest_stored : (n m number : ℕ) (e : Bool) (cs' : List ℕ) → Answers bytes c t (room - i) n e
      → pi ≡ readout_after (λ w. w.ids) (read_steps bytes c t (room - i)) (lent ids)
      → pv ≡ readout_after (λ w. w.values) (read_steps bytes c t (room - i)) (lent vs) → m ≡ i + n → number ≡ layer_number (layer_of layer)
      → cs' ≡ sets cs i (replicate (m - i) number) → Alone (layer_of layer) next bytes c t
      → Stopped next room i t ids vs cs m e (put_mid i (length ids - i) ids pi) (put_mid i (length vs - i) vs pv) cs'
  unfolding readout_after
  rest_stored n m number e cs' a fi fv em en ec al =
      let few = few_read bytes c (room - i) t in
      let z : m - i ≡ n = omega arith in
      alone_stopped next room i t ids vs cs (layer_of layer) bytes c al n m e _ _ cs' em a.count a.ended a.answers
      (part_stored ids pi (pairs_from (room - i) bytes c t).ids i (omega (arith, few)) (rw a.whole at fi))
      (part_stored vs pv (pairs_from (room - i) bytes c t).values i (omega (arith, few, as_many bytes c (room - i) t)) (rw a.whole at fv))
      (ec ∙ ap (λ (k : ℕ). sets cs i (replicate k number)) z ∙ ap (λ (k : ℕ). sets cs i (replicate n k)) en)

  -- a refusal leaves the part, and so the lists, as they were
  pub rest_refused : (why : Re.Refusal) (r : Result Ro.Readout Rf.LayerRefusal) → next_steps bytes c t ≡ refused_as why
      → pi ≡ readout_after (λ w. w.ids) (read_steps bytes c t (room - i)) (lent ids)
      → pv ≡ readout_after (λ w. w.values) (read_steps bytes c t (room - i)) (lent vs) → StopsBy layer why i r → Alone (layer_of layer) next bytes c t
      → Ends next room i t r ids (put_mid i (length ids - i) ids pi) vs (put_mid i (length vs - i) vs pv) cs cs
  unfolding readout_after read_steps and_then
  rest_refused why r e fi fv s al =
      let ki : put_mid i (length ids - i) ids pi ≡ ids = part_stored ids pi [] i (omega arith) (rw e at fi) in
      let kv : put_mid i (length vs - i) vs pv ≡ vs = part_stored vs pv [] i (omega arith) (rw e at fv) in
      rw (ki, kv) (stops_end next room i t ids vs cs layer why r (alone_refused next room i t ids vs cs (layer_of layer) bytes c al _ _ e) s)
