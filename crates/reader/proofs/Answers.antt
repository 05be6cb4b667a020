-- A reading's answers: a refusal leaves both buffers, and success fills the first n places of each. Assumes nothing.
use Rattle.format.specs.Kit.{◌≡◌, refl, sym, ap, ap₂, ◌∙◌, subst, true, false, List, ℕ, ◌≤◌, ◌<◌, arith, le-leb, lt-leb, ℤ}
use Rattle.format.specs.Refusals.{Outcome, done, refused, and_then, need, BUFFER, DAMAGED}
use Rattle.format.specs.Pairs.{Pairs}
use Rattle.format.specs.Editions.{editions}
use Rattle.format.specs.Opening.{Opened, open_column}
use Rattle.format.specs.Check.{accepted, reading, read_reply, ids_after, values_after}
use Rattle.answers.specs.Replies.{reply_of}
use Rattle.laws.proofs.Unique.{OnlyBy, accepted_only}
use Rattle.checking.specs.Tests.{is_taken}
use Rattle.reader.specs.Answered.{Answered, Whole}
use Rattle.reader.proofs.Decoded.{Decoded}
use Rattle.std.specs.declared.result.Result.{Result}
use Rattle.answers.specs.declared.Refusal as Re

-- ---- a refusal

pub refused_so : (o : Outcome Pairs) (r : Result ℕ Re.Refusal) (why w : ℕ) (ids : List ℕ) (vs : List ℤ) → o ≡ refused why w → reply_of r ≡ refused why w
    → Answered o r ids ids vs vs
unfolding read_reply ids_after values_after
refused_so o r why w ids vs e h = rw e (record { reply = h; in_ids = refl; in_values = refl })

-- ---- the verdict

pub damaged : (bytes : List ℕ) (c : Opened) → is_taken (accepted bytes c) ≡ false → accepted bytes c ≡ refused DAMAGED 0
unfolding is_taken
damaged bytes c f = go (accepted bytes c) (accepted_only bytes c) f
  where
    go : (o : Outcome Pairs) → OnlyBy DAMAGED o → is_taken o ≡ false → o ≡ refused DAMAGED 0
    go (done q) d f = absurd (let z : ◌≡◌ {A = ℕ} 0 1 = cc in omega arith)
    go (refused x y) d f = ap₂ {C = Outcome Pairs} (λ (x y : ℕ). refused x y) d.0 d.1

pub whole : (bytes : List ℕ) (c : Opened) → open_column editions bytes ≡ done c → is_taken (accepted bytes c) ≡ true → Whole bytes c
unfolding is_taken
whole bytes c o = go (accepted bytes c) refl
  where
    go : (r : Outcome Pairs) → accepted bytes c ≡ r → is_taken r ≡ true → Whole bytes c
    go (done q) e t = record { opens = o; pairs = q; taken = e }
    go (refused x y) e t = absurd (let z : ◌≡◌ {A = ℕ} 0 1 = cc in omega arith)

-- ---- success

pub done_so : (bytes : List ℕ) (c : Opened) (r : Result ℕ Re.Refusal) (ids ids' : List ℕ) (vs vs' : List ℤ) (w : Whole bytes c) → Decoded bytes c w.pairs
    → reply_of r ≡ done c.head.count
    → ids' ≡ ids_after (accepted bytes c) ids → vs' ≡ values_after (accepted bytes c) vs
    → Answered (accepted bytes c) r ids ids' vs vs'
unfolding read_reply
done_so bytes c r ids ids' vs vs' w t e a b =
    record {
      reply = e ∙ ap {B = Outcome ℕ} (λ (n : ℕ). done n) (sym t.ids_long) ∙ sym (ap read_reply w.taken);
      in_ids = a;
      in_values = b;
    }

-- ---- the steps before

module _ (bytes : List ℕ) (m n : ℕ) where
  pub not_opened : (why w : ℕ) → open_column editions bytes ≡ refused why w → reading editions bytes m n ≡ refused why w
  unfolding reading and_then
  not_opened why w e = rw e

  module _ (c : Opened) (e : open_column editions bytes ≡ done c) where
    pub few_ids : m < c.head.count → reading editions bytes m n ≡ refused BUFFER c.head.count
    unfolding reading and_then need
    few_ids h = rw (e, lt-leb c.head.count m h)

    pub few_values : c.head.count ≤ m → n < c.head.count → reading editions bytes m n ≡ refused BUFFER c.head.count
    unfolding reading and_then need
    few_values h k = rw (e, le-leb c.head.count m h, lt-leb c.head.count n k)

    pub enough : c.head.count ≤ m → c.head.count ≤ n → reading editions bytes m n ≡ accepted bytes c
    unfolding reading and_then need
    enough h k = rw (e, le-leb c.head.count m h, le-leb c.head.count n k)

pub answered_as : (o o' : Outcome Pairs) (r : Result ℕ Re.Refusal) (ids ids' : List ℕ) (vs vs' : List ℤ) → o' ≡ o → Answered o r ids ids' vs vs'
    → Answered o' r ids ids' vs vs'
answered_as o o' r ids ids' vs vs' e t = subst (λ (x : Outcome Pairs). Answered x r ids ids' vs vs') (sym e) t
