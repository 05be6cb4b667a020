-- What comes next after a reading, and its reply and lists. Assumes nothing.
use Rattle.std.specs.Prelude.{Ok, Err, Some, None}
use Rattle.std.specs.Option.{is_some}
use Rattle.std.specs.declared.option.Option as Op
use Rattle.std.specs.declared.result.Result.{Result}
use Rattle.format.specs.Kit.{◌≡◌, ◌⊎◌, refl, sym, ap, ◌∙◌, inl, inr, ⊎_elim, Bool, true, false, not, List, [], ◌∷◌, ◌++◌, ℕ, ◌+◌, ◌-◌, ◌*◌, ◌≤◌, ◌<◌, arith, ℤ}
use Rattle.format.specs.Kit.{length, drop}
use Rattle.format.specs.Refusals.{Outcome, done}
use Rattle.format.specs.Opening.{Opened}
use Rattle.format.specs.Next as Nx
use Rattle.format.specs.Next.{no_candidate, next_steps}
use Rattle.laws.proofs.Cases.{equal_or, false_true}
use Rattle.answers.specs.declared.Refusal as Re
use Rattle.answers.specs.declared.Pair.{Pair}
use Rattle.answers.specs.declared.Readout as Ro
use Rattle.answers.specs.Replies.{refused_as, pair_of, readout_of}
use Rattle.format.specs.ReadFrom.{Readout, no_more, answered, is_none, pairs_from, read_steps, readout_reply, readout_after}
use Rattle.read_in_block.specs.Parts.{Reads}
use Rattle.read_from.proofs.Ends.{stops_full, stops_none, stops_refused, refuses, answers, how_many, many_values, at_end, ids_after_is, values_after_is}
use Rattle.read_in_block.specs.Stretch.{StretchTo}
use Rattle.read_in_block.specs.declared.Stretch as We
use Rattle.read_from.specs.Blocks.{EndIs, FilledTo, Told, Leaves}
use Rattle.read_from.specs.declared.Stop.{Stop}

-- ---- what comes next

-- a pair is an id, and no pair is none
pub end_of : (p : Op.Option Pair) (x : Bool) (o : Outcome Nx.Candidate) → is_some p ≡ not x → done (pair_of p) ≡ o → EndIs (Ok x) 0 o
unfolding is_none answered
end_of (Some p) true o h e = false_true (sym h)
end_of (Some p) false o h e = rw (← e) (refl, inr refl)
end_of None true o h e = sym e
end_of None false o h e = false_true h

-- no pairs asks for more than some
pub end_any : (x : Result Bool Re.Refusal) (n : ℕ) (o : Outcome Nx.Candidate) → EndIs x 0 o → EndIs x n o
end_any (Ok true) n o e = e
end_any (Ok false) n o e = (e.0, ⊎_elim (λ l. absurd (omega (arith, l))) (λ a. inr a) e.1)
end_any (Err why) n o e = e

-- ---- the reply and the lists

no_places : {A : Type 0} (xs l : List A) → length xs ≡ 0 → xs ++ drop (length xs) l ≡ l
no_places [] l e = refl
no_places (x ∷ xs) l e = absurd (omega arith)

module _ (bytes : List ℕ) (c : Opened) (room t : ℕ) (ids : List ℕ) (vs : List ℤ) (w : Stop) (ids' : List ℕ) (vs' : List ℤ)
    (f : FilledTo bytes c room t ids vs w ids' vs') (in_ids : room ≤ length ids) (in_values : room ≤ length vs) where
  abbrev Stopping : Type 0
  Stopping = pairs_from (room - w.count) bytes c f.target ≡ no_more (is_none (next_steps bytes c f.target))

  -- so many pairs
  answered_so : (r : Result Ro.Readout Re.Refusal) (e : Bool) → Stopping → read_steps bytes c t room ≡ done (pairs_from room bytes c t)
      → is_none (next_steps bytes c f.target) ≡ e → readout_of r ≡ done (w.count, e) → Leaves (read_steps bytes c t room) r ids ids' vs vs'
  unfolding readout_reply readout_after
  answered_so r e s a i g =
      let n = how_many bytes c room t ids vs w.count f.target ids' vs' f.reads s in
      let d = at_end bytes c room t ids vs w.count f.target ids' vs' f.reads s ∙ i in
      rw a (
        g ∙ rw (n, d) refl,
        (
          ids_after_is bytes c room t ids vs w.count f.target ids' vs' f.reads s in_ids,
          values_after_is bytes c room t ids vs w.count f.target ids' vs' f.reads s in_values,
        ),
      )

  -- a failed step before the first pair
  refused_so : (r : Result Ro.Readout Re.Refusal) (why : Re.Refusal) → next_steps bytes c f.target ≡ refused_as why → w.count ≡ 0
      → r ≡ Err why → Leaves (read_steps bytes c t room) r ids ids' vs vs'
  unfolding readout_reply readout_after
  refused_so r why e z g =
      let s = stops_refused bytes c f.target (room - w.count) why e in
      let W = f.reads in
      let n = how_many bytes c room t ids vs w.count f.target ids' vs' W s in
      let m = many_values bytes c room t ids vs w.count f.target ids' vs' W s in
      rw (refuses bytes c room t ids vs w.count f.target ids' vs' W why z e) (
        ap readout_of g,
        (
          ids_after_is bytes c room t ids vs w.count f.target ids' vs' W s in_ids ∙ no_places (pairs_from room bytes c t).ids ids (n ∙ z),
          values_after_is bytes c room t ids vs w.count f.target ids' vs' W s in_values ∙ no_places (pairs_from room bytes c t).values vs (m ∙ z),
        ),
      )

  pub leaves : (r : Result Ro.Readout Re.Refusal) → Told w.ended w.count r → Leaves (read_steps bytes c t room) r ids ids' vs vs'
  unfolding is_none answered
  leaves r g = at_end_of w.ended f.ended f.full g
    where
      o : Outcome Nx.Candidate
      o = next_steps bytes c f.target

      gives : (0 < w.count) ⊎ (answered o ≡ true) → read_steps bytes c t room ≡ done (pairs_from room bytes c t)
      gives = answers bytes c room t ids vs w.count f.target ids' vs' f.reads

      at_end_of : (x : Result Bool Re.Refusal) → EndIs x w.count o → (x ≡ Ok false → w.count ≡ room) → Told x w.count r
          → Leaves (read_steps bytes c t room) r ids ids' vs vs'
      at_end_of (Ok true) n h g =
          answered_so r true (stops_none bytes c f.target (room - w.count) n) (gives (inr (ap answered n))) (ap is_none n) (ap readout_of g)
      at_end_of (Ok false) n h g =
          answered_so r false (stops_full bytes c f.target (room - w.count) (omega (arith, h refl))) (gives n.1) n.0 (ap readout_of g)
      at_end_of (Err why) n h g =
          equal_or w.count 0
          (λ z. refused_so r why n z (g.0 z))
          (λ z. answered_so r false (stops_refused bytes c f.target (room - w.count) why n) (gives (inl (omega arith))) (ap is_none n)
          (ap readout_of (g.1 z)))

-- ---- a block that was left after its last place

pub after_block : (bytes : List ℕ) (c : Opened) (room b i r : ℕ) (ids : List ℕ) (vs : List ℤ) (w : We.Stretch) (ids' : List ℕ) (vs' : List ℤ)
    → StretchTo bytes c room b i r ids vs w ids' vs' → w.broken ≡ false → (w.count ≡ room → ⊥)
    → Reads bytes c room i (b * 65536 + r) ids vs w.count (b * 65536 + 65536) ids' vs'
after_block bytes c room b i r ids vs w ids' vs' g e n =
    let p : w.place ≡ 65536 = ⊎_elim (λ z. absurd (n z)) (λ z. z) (rw e at g.stops) in
    rw p at g.reads

-- ---- the calls

pub leaves_as : (o p : Outcome Readout) (r : Result Ro.Readout Re.Refusal) (ids ids' : List ℕ) (vs vs' : List ℤ) → o ≡ p → Leaves p r ids ids' vs vs' → Leaves o r ids ids' vs vs'
leaves_as o p r ids ids' vs vs' e h = rw e h

pub refusal_leaves : (o : Outcome Readout) (why : Re.Refusal) (ids : List ℕ) (vs : List ℤ) → o ≡ refused_as why → Leaves o (Err why) ids ids vs vs
unfolding readout_reply readout_after
refusal_leaves o why ids vs e = rw e (refl, (refl, refl))
