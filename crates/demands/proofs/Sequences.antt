-- Document 02, [1]: "On accepted columns any sequence answers as the plain pair list does." Calls of `next` and `next_in` one after the other, from any cursor
-- and with any targets, each handed the cursor that the one before gave back: what one call promises (asking.rt, opened.rt) gives the whole sequence.
-- Assumes nothing.
use Rattle.format.specs.Kit.{◌≡◌, refl, ap, ap₂, ◌∙◌, List, [], ◌∷◌, map, ℕ}
use Rattle.format.specs.Next.{list_next, in_sequence}
use Rattle.answers.specs.Replies.{candidate_of}
use Rattle.answers.specs.declared.Next.{Next}
use Rattle.demands.specs.Terms.{Holds, pairs_of, NextAnswers}

-- a target, and what the call for it answered
pub record Called : Type 0 where
  pub target : ℕ
  pub reply : Next

module _ {bytes : List ℕ} {n : ℕ} (x : Holds bytes n) where
  unfoldable pub OneByOne : ℕ → List Called → Type 0
  OneByOne last [] = Unit {0}
  OneByOne last (c ∷ cs) = NextAnswers x last c.target c.reply × OneByOne c.reply.cursor.last cs

  pub in_sequence_lem : (last : ℕ) (cs : List Called) → OneByOne last cs
      → map (λ c. candidate_of c.reply.candidate) cs ≡ in_sequence (list_next (pairs_of x)) last (map (λ c. c.target) cs)
  unfolding OneByOne in_sequence
  in_sequence_lem last [] k = refl
  in_sequence_lem last (c ∷ cs) k =
      ap₂ ◌∷◌ k.0.candidate
      (in_sequence_lem c.reply.cursor.last cs k.1
      ∙ ap (λ (m : ℕ). in_sequence (list_next (pairs_of x)) m (map (λ c. c.target) cs)) k.0.cursor)
