-- Document 02, [9], stated for the shipped call: r below is any judgement that keeps the promise of `judge_section` in src/lib.rt, for bytes, an
-- entry count j, a power p and a byte order. "Accepted exactly if some id list within limits gives these bytes and that entry count at that power"; "An entry
-- count or power outside 01's limits is HEADER"; a reason and a place exactly if they are right. Assumes nothing.
use Rattle.format.specs.Kit.{◌≡◌, ◌↔◌, refl, sym, ap, ◌∙◌, true, false, ◌⊎◌, inl, inr, ⊎_elim, List, ℕ, ◌<◌, arith, leb, leb-false, lt-leb}
use Rattle.format.specs.Limits.{power_ok, max_jumps}
use Rattle.format.specs.Refusals.{HEADER}
use Rattle.format.specs.Pairs.{Below}
use Rattle.format.specs.Judge.{limits_ok, judge_section}
use Rattle.format.specs.Lists.{SectionIn, OneList}
use Rattle.format.specs.JudgeFaults.{Why}
use Rattle.answers.specs.Replies.{order_of, reason_number, judgement_of}
use Rattle.answers.specs.declared.ByteOrder.{ByteOrder}
use Rattle.answers.specs.declared.Reason.{Reason}
use Rattle.answers.proofs.Judgements.{one_judgement}
use Rattle.laws.proofs.Cases.{true_or}
use Rattle.judge.proofs.Verdicts.{accepts, faults, header}
use Rattle.judge.proofs.OneSection.{one_section}
use Rattle.std.specs.Prelude.{Ok, Err}
use Rattle.std.specs.declared.result.Result.{Result}
use Rattle.answers.specs.declared.Rejection as Rj

module _ (bytes : List ℕ) (u : Below 256 bytes) (j p : ℕ) (order : ByteOrder) (r : Result ℕ Rj.Rejection)
    (kept : judgement_of r ≡ judge_section (order_of order) p j bytes) where
  is_said : (q : Result ℕ Rj.Rejection) → judge_section (order_of order) p j bytes ≡ judgement_of q → r ≡ q
  is_said q e = one_judgement r q (kept ∙ e)

  pub accepted_exactly : (n : ℕ) → (r ≡ Ok n) ↔ ((power_ok p ≡ true) × SectionIn (order_of order) p j bytes n)
  accepted_exactly n = (
    λ e. (accepts (order_of order) p j bytes u n).0 (sym kept ∙ ap judgement_of e),
    λ g. is_said (Ok n) ((accepts (order_of order) p j bytes u n).1 g),
  )

  -- and that list is the only one, whatever entry count is asked for
  pub accepted_once : (n : ℕ) → r ≡ Ok n → (i m : ℕ) (x : SectionIn (order_of order) p j bytes n) (y : SectionIn (order_of order) p i bytes m)
      → OneList x y
  accepted_once n e i m x y = one_section (order_of order) p bytes ((accepted_exactly n).0 e).0 j i n m x y

  -- a reason and a place exactly if they are right
  pub faulty_exactly : (why : Reason) (at : ℕ)
      → (r ≡ Err (Rj.Rejection.Faulty why at)) ↔ ((limits_ok p j ≡ true) × Why (order_of order) p j bytes (reason_number why) at)
  faulty_exactly why at = (
    λ e. (faults (order_of order) p j bytes u (reason_number why) at).0 (sym kept ∙ ap judgement_of e),
    λ g. is_said (Err (Rj.Rejection.Faulty why at)) ((faults (order_of order) p j bytes u (reason_number why) at).1 g),
  )

  -- HEADER exactly for a power that is not allowed or more than 32767 entries
  pub header_exactly : (r ≡ (Err Rj.Rejection.Header)) ↔ ((power_ok p ≡ false) ⊎ (max_jumps < j))
  header_exactly = (
    λ e. outside ((header (order_of order) p j bytes HEADER 0).0 (sym kept ∙ ap judgement_of e)).0,
    λ h. is_said (Err Rj.Rejection.Header) ((header (order_of order) p j bytes HEADER 0).1 (back h, refl, refl)),
  )
    where
      outside : limits_ok p j ≡ false → (power_ok p ≡ false) ⊎ (max_jumps < j)
      outside e =
          true_or (power_ok p)
          (λ h.
          true_or (leb j max_jumps)
          (λ k. absurd (let z : true ≡ false = sym (rw (h, k) refl) ∙ e in let y : ◌≡◌ {A = ℕ} 0 1 = cc in omega arith))
          (λ k. inr (leb-false j max_jumps k)))
          (λ h. inl h)

      back : (power_ok p ≡ false) ⊎ (max_jumps < j) → limits_ok p j ≡ false
      back h =
          ⊎_elim
          (λ e. rw e refl)
          (λ l. let k = lt-leb j max_jumps l in true_or (power_ok p) (λ e. rw (e, k) refl) (λ e. rw e refl)) h
