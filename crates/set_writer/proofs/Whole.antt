-- The blocks and their sizes, the whole, and the writer's answer. Assumes nothing.
use Rattle.format.specs.Kit.{◌≡◌, refl, sym, ap, ◌∙◌, List, none, some, ℕ, suc, ◌+◌, ◌*◌, ◌<◌, ◌≤◌, arith, length, length-append, sets}
use Rattle.format.specs.Refusals.{Outcome, done, refused, need_none, ORDER, RANGE, ROOM}
use Rattle.format.specs.Bytes.{bytes_of}
use Rattle.format.specs.HeaderNumbers.{number}
use Rattle.format.specs.Ids.{runs}
use Rattle.format.specs.Pairs.{ValidIds}
use Rattle.format.specs.Runs.{AllFine}
use Rattle.format.specs.Writer.{order_fault, range_fault, write_reply, write_out}
use Rattle.format.specs.SetBytes.{set_block, set_bytes, set_write}
use Rattle.laws.proofs.Retired.{blocks_few}
use Rattle.laws.proofs.Stores.{sets_then, sets_front}
use Rattle.laws.proofs.Unique.{ordered, ranged}
use Rattle.set_format.proofs.Demands.{written, no_room}
use Rattle.block_writer.specs.Part.{run_of}
use Rattle.section_writer.specs.Good.{Good, Begins}
use Rattle.section_writer.proofs.Steps.{fine_more, bytes_more, bytes_none, no_runs}

-- ---- how many blocks, and how long they are: those before the ids left

pub record Planned (ids left : List ℕ) (blocks bytes : ℕ) : Type 0 where
  pub fine : AllFine (runs left)
  pub count : blocks + length (runs left) ≡ length (runs ids)
  pub total : bytes + length (bytes_of set_block (runs left)) ≡ length (bytes_of set_block (runs ids))
  pub small : bytes ≤ 8222 * blocks

module _ {ids left : List ℕ} {blocks bytes : ℕ} (good : Good ids) (p : Planned ids left blocks bytes) where
  pub few : blocks ≤ 32766
  few = omega (arith, p.count, blocks_few (runs ids) good.fine good.asc)

  pub planned_more : {run rest : List ℕ} {n : ℕ} → Begins left run rest → n ≡ length (set_block (run_of run)) → n ≤ 8222
      → Planned ids rest (blocks + 1) (bytes + n)
  planned_more {run} {rest} r e k =
      let m : length (runs left) ≡ suc (length (runs rest)) = ap length r.first in
      let l = ap length (bytes_more r set_block) ∙ length-append (set_block (run_of run)) (bytes_of set_block (runs rest)) in
      record {
        fine = (fine_more r p.fine).1;
        count = omega (arith, p.count, m);
        total = omega (arith, p.total, l);
        small = omega (arith, p.small);
      }

  pub planned_all : length left ≡ 0 → (blocks ≡ length (runs ids)) × (bytes ≡ length (bytes_of set_block (runs ids)))
  planned_all h =
      (omega (arith, p.count, ap length (no_runs left h)), omega (arith, p.total, ap length (bytes_none set_block left h)))

-- ---- the whole

module _ (ids : List ℕ) (n : ℕ) (e : n ≡ length (runs ids)) where
  pub whole_long : length (set_bytes ids) ≡ length (number n) + length (bytes_of set_block (runs ids))
  unfolding set_bytes
  whole_long = rw (← e) (length-append (number n) (bytes_of set_block (runs ids)))

  pub put_whole : (out : List ℕ) (at : ℕ) → at ≡ 0 + length (number n)
      → sets (sets out 0 (number n)) at (bytes_of set_block (runs ids)) ≡ sets out 0 (set_bytes ids)
  unfolding set_bytes
  put_whole out at f = rw (← e) (sym (sets_then out 0 at (number n) (bytes_of set_block (runs ids)) (sym f)))

-- ---- the answer: what the definition asks of a reply and of the output afterwards

abbrev pub Answered : List ℕ → List ℕ → Outcome ℕ → List ℕ → Type 0
Answered ids out reply now = (reply ≡ write_reply (set_write ids (length out))) × (now ≡ write_out (set_write ids (length out)) out)

pub valid : (ids : List ℕ) → order_fault ids ≡ none → range_fault 0 ids ≡ none → ValidIds ids
valid ids o r = record { ascending = ordered ids o; range = ranged 0 ids r }

module _ (ids out : List ℕ) where
  refused_both : (why w : ℕ) → set_write ids (length out) ≡ refused why w → Answered ids out (refused why w) out
  unfolding write_reply write_out
  refused_both why w e = (sym (ap write_reply e), sym (ap (λ (o : Outcome (List ℕ)). write_out o out) e))

  pub no_order : (i n : ℕ) → order_fault ids ≡ some i → n ≡ i → Answered ids out (refused ORDER n) out
  unfolding set_write need_none
  no_order i n o e = refused_both ORDER n (rw (o, e) refl)

  pub no_range : (i n : ℕ) → order_fault ids ≡ none → range_fault 0 ids ≡ some i → n ≡ i → Answered ids out (refused RANGE n) out
  unfolding set_write need_none
  no_range i n o r e = refused_both RANGE n (rw (o, r, e) refl)

  module _ (ok : ValidIds ids) (n : ℕ) (e : n ≡ length (set_bytes ids)) where
    pub too_long : length out < n → Answered ids out (refused ROOM n) out
    too_long h = refused_both ROOM n (no_room ids ok (length out) (omega arith) ∙ ap {B = Outcome (List ℕ)} (λ (x : ℕ). refused ROOM x) (sym e))

    pub put_all_lem : (now : List ℕ) → n ≤ length out → now ≡ sets out 0 (set_bytes ids) → Answered ids out (done n) now
    unfolding write_reply write_out
    put_all_lem now h q =
        let w = written ids ok (length out) (omega arith) in (
          ap {B = Outcome ℕ} (λ (k : ℕ). done k) e ∙ sym (ap write_reply w),
          q ∙ sets_front out (set_bytes ids) (omega arith) ∙ sym (ap (λ (o : Outcome (List ℕ)). write_out o out) w),
        )
