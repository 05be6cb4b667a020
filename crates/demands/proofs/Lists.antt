-- The list that bytes hold, and the reading of it. Assumes nothing.
use mathlib.Core.Logic.{◌↔◌}
use Rattle.format.specs.Kit.{◌≡◌, refl, sym, ap, ◌∙◌, List, ◌++◌, ℕ, ◌≤◌, arith, ℤ, length, drop, le-leb}
use Rattle.format.specs.Refusals.{Outcome, done, refused, and_then, need}
use Rattle.format.specs.Editions.{editions}
use Rattle.format.specs.Pairs.{Pairs}
use Rattle.format.specs.Opening.{Opened, open_column}
use Rattle.format.specs.Check.{accepted, check, reading, read_reply, ids_after, values_after}
use Rattle.laws.proofs.Editions.{knows_all, lawful, lawful_reader}
use Rattle.laws.proofs.RoundTrip as Rt
use Rattle.laws.proofs.RoundTrip.{the_column}
use Rattle.laws.proofs.Demands as De
use Rattle.laws.proofs.Demands.{accepts_columns_all, columns_accepted_all, one_list_all, accepted_answers, read_back_all}
use Rattle.answers.specs.Replies.{reply_of}
use Rattle.demands.specs.Terms.{Holds, pairs_of, Same, Filled}
use Rattle.std.specs.declared.result.Result.{Result}
use Rattle.answers.specs.declared.Refusal as Re

-- ---- the check accepts exactly the bytes that hold a list, and that is one list

pub holds : (bytes : List ℕ) (n : ℕ) → check editions bytes ≡ done n → Holds bytes n
holds bytes n e =
    let c = accepts_columns_all bytes n e in
    record {
      edition = c.edition;
      power = c.power;
      ids = c.ids;
      values = c.values;
      valid = c.valid;
      bytes_are = c.same_bytes;
      count = c.count;
    }

pub accepts : (bytes : List ℕ) (n : ℕ) → Holds bytes n → check editions bytes ≡ done n
accepts bytes n x =
    columns_accepted_all bytes n (record {
      edition = x.edition;
      knows = knows_all x.edition;
      power = x.power;
      ids = x.ids;
      values = x.values;
      valid = x.valid;
      same_bytes = x.bytes_are;
      count = x.count;
    })

pub accepts_exactly : (bytes : List ℕ) (r : Result ℕ Re.Refusal) → reply_of r ≡ check editions bytes → (n : ℕ) → (reply_of r ≡ done n) ↔ Holds bytes n
accepts_exactly bytes r k n = (λ e. holds bytes n (sym k ∙ e), λ x. k ∙ accepts bytes n x)

pub one_list : (bytes : List ℕ) (m n : ℕ) (x : Holds bytes m) (y : Holds bytes n) → Same x y
one_list bytes m n x y =
    let s =
    one_list_all x.edition y.edition x.power y.power x.ids y.ids x.values y.values x.valid y.valid
    (x.bytes_are ∙ sym y.bytes_are) in
    record { edition = s.same_edition; power = s.same_power; ids = s.same_ids; values = s.same_values }

-- the list as the reading finds it
abbrev pub as_read : (bytes : List ℕ) (n : ℕ) → Holds bytes n → De.Holds editions bytes
as_read bytes n x =
    let ed = x.edition in
    let col = the_column ed x.power x.ids x.values in
    let o : open_column editions bytes ≡ done col =
    ap (open_column editions) (sym x.bytes_are) ∙ Rt.opened ed (lawful ed) x.power x.ids x.values x.valid editions (knows_all ed) in
    let a : accepted bytes col ≡ done (pairs_of x) =
    ap (λ (b : List ℕ). accepted b col) (sym x.bytes_are) ∙ Rt.taken ed (lawful ed) x.power x.ids x.values x.valid in
    record {
      opened = col;
      pairs = pairs_of x;
      is_opened = o;
      is_accepted = a;
      answers = accepted_answers editions (lawful_reader editions) bytes col (pairs_of x) o a;
    }

-- bytes that hold a list are opened
pub not_refused : {X : Type 0} (bytes : List ℕ) {why w : ℕ} → refused why w ≡ open_column editions bytes → (n : ℕ) → Holds bytes n → X
not_refused bytes k n x = absurd (let f = sym (as_read bytes n x).is_opened ∙ sym k in let z : ◌≡◌ {A = ℕ} 0 1 = cc in omega arith)

-- the same list, of the same bytes
abbrev pub moved : (a b : List ℕ) → a ≡ b → (n : ℕ) (x : Holds a n) → Holds b (length x.ids)
moved a b e n x =
    record {
      edition = x.edition;
      power = x.power;
      ids = x.ids;
      values = x.values;
      valid = x.valid;
      bytes_are = x.bytes_are ∙ e;
      count = refl;
    }

-- ---- the reading

module _ (bytes is is' : List ℕ) (xs xs' : List ℤ) (r : Result ℕ Re.Refusal)
    (kept : reply_of r ≡ read_reply (reading editions bytes (length is) (length xs)))
    (ids_after_is : is' ≡ ids_after (reading editions bytes (length is) (length xs)) is)
    (values_after_is : xs' ≡ values_after (reading editions bytes (length is) (length xs)) xs) where
  pub reads : (n : ℕ) (x : Holds bytes n) → n ≤ length is → n ≤ length xs → Filled x.ids x.values is is' xs xs' r
  unfolding read_reply ids_after values_after
  reads n x hi hx =
      let e : reading editions bytes (length is) (length xs) ≡ done (record { ids = x.ids; values = x.values }) =
      ap (λ (b : List ℕ). reading editions b (length is) (length xs)) (sym x.bytes_are)
      ∙ read_back_all x.edition x.power x.ids x.values x.valid (length is) (length xs) (omega (arith, x.count)) (omega (arith, x.count)) in
      record {
        count = kept ∙ ap read_reply e;
        ids_there = ids_after_is ∙ ap (λ (o : Outcome Pairs). ids_after o is) e;
        values_there =
            values_after_is ∙ ap (λ (o : Outcome Pairs). values_after o xs) e
            ∙ ap (λ (m : ℕ). x.values ++ drop m xs) (sym x.valid.lengths);
      }

  -- of opened bytes, into buffers with room, it answers as the check
  pub reads_alike : (c : Opened) → open_column editions bytes ≡ done c → c.head.count ≤ length is → c.head.count ≤ length xs
      → reply_of r ≡ check editions bytes
  unfolding check reading read_reply and_then need
  reads_alike c o hi hx = go (accepted bytes c) refl
    where
      go : (a : Outcome Pairs) → accepted bytes c ≡ a → reply_of r ≡ check editions bytes
      go (done q) e =
          let k : check editions bytes ≡ done c.head.count = rw (o, e) refl in
          let x = holds bytes c.head.count k in
          (reads c.head.count x hi hx).count ∙ ap {B = Outcome ℕ} (λ (m : ℕ). done m) x.count ∙ sym k
      go (refused why w) e =
          let k : check editions bytes ≡ refused why w = rw (o, e) refl in
          let f : reading editions bytes (length is) (length xs) ≡ refused why w =
          rw (o, le-leb c.head.count (length is) hi, le-leb c.head.count (length xs) hx) e in
          kept ∙ ap read_reply f ∙ sym k
