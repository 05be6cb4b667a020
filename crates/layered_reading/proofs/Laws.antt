-- A buffer that is as it was, and a refusal by the machine column. Assumes nothing.
use Rattle.format.specs.Kit.{◌≡◌, refl, sym, ap, ◌∙◌, true, List, ℕ, ◌<◌, arith, ℤ}
use Rattle.format.specs.Refusals.{Outcome, done, refused, and_then}
use Rattle.format.specs.Opening.{Opened}
use Rattle.format.specs.Next.{Candidate, next_steps}
use Rattle.format.specs.ReadFrom.{answered}
use Rattle.laws.proofs.Cases.{false_true}
use Rattle.format.specs.LayeredReading.{both_then, answering_from}
use Rattle.layered_reading.proofs.Holding.{has_first, whether_none, is_none_lem}
use Rattle.answers.specs.declared.Refusal as Re
use Rattle.answers.specs.Replies.{refused_as}
use Rattle.layered.specs.declared.Layer as La
use Rattle.layered_reading.specs.declared.Buffer.{Buffer}
use Rattle.layered_reading.specs.Buffers.{Loose, Fresh, BelowRefused}
use Rattle.std.specs.Prelude.{Err}
use Rattle.layered.specs.Answers.{refused_in}

-- ---- a buffer

module _ (bytes : List ℕ) (c : Opened) (t want : ℕ) (is : List ℕ) (vs : List ℤ) (h : Buffer) (l : Loose bytes c t is vs h) where
  -- a pair is left in it
  pub has_pair : h.at < h.count → Fresh bytes c t want is vs h
  unfolding answered
  has_pair k =
      let g = l.known (λ e f. omega arith) in
      let f = has_first bytes c is vs h.at h.count h.ended t k l.within.in_ids l.within.in_values g in
      record { within = l.within; holds = g; answers = ap answered f.first; some = λ a e. absurd (omega arith) }

  -- none is, and none comes after
  pub has_ended : (h.at < h.count → ⊥) → h.ended ≡ true → Fresh bytes c t want is vs h
  unfolding answered
  has_ended k e =
      let g = l.known (λ a f. false_true (sym f ∙ e)) in
      let n = whether_none bytes c is vs h.at h.count h.ended t (omega (arith, l.within.order)) g ∙ e in
      record { within = l.within; holds = g; answers = ap answered (is_none_lem (next_steps bytes c t) n); some = λ a f. e }

-- ---- a refusal

module _ (c : List ℕ) (y : Opened) (t : ℕ) (why : Re.Refusal) where
  answering : (o : Outcome Candidate) → answered o ≡ true → and_then o (λ first. done y) ≡ done y
  unfolding answered and_then
  answering (done x) e = refl
  answering (refused n w) e = false_true e

  pub below_machine : answered (next_steps c y t) ≡ true → BelowRefused c y t why (Err (refused_in La.Layer.Machine why))
  unfolding both_then answering_from
  below_machine a read = rw (answering (next_steps c y t) a) refl

  pub below_correction : (above : Re.Refusal) → next_steps c y t ≡ refused_as above
      → BelowRefused c y t why (Err (refused_in La.Layer.Correction above))
  unfolding both_then answering_from and_then
  below_correction above e read = rw e refl
