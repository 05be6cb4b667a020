-- What a call's promise says of its reply and of what it was lent. Assumes nothing.
use mathlib.Core.Logic.{◌↔◌}
use Rattle.format.specs.Kit.{◌≡◌, refl, sym, ap, ◌∙◌, List, ℕ, ◌≤◌, ◌<◌, arith, ℤ, length, take, drop, length-take, take_at}
use Rattle.format.specs.Refusals.{Outcome, done, refused, ROOM, SHORT, NUMBER}
use Rattle.format.specs.Pairs.{Pairs}
use Rattle.format.specs.Editions.{Edition}
use Rattle.format.specs.Writer.{write_reply, write_out}
use Rattle.format.specs.Check.{read_reply, ids_after, values_after}
use Rattle.format.specs.LookUp.{Look}
use Rattle.format.specs.Page.{place_kind, place_ordinal, place_value, page_reply, page_after}
use Rattle.format.specs.ReadFrom.{Readout, readout_reply, readout_after}
use Rattle.format.specs.Layered.{Layer}
use Rattle.format.specs.LayeredReading.{LayeredRead, read_to, refused_read, pair_id, pair_value, pair_column, refused_count, layered_read_reply, layered_read_after}
use Rattle.format.specs.Faults.{BrokenAt, EndsAt}
use Rattle.answers.specs.Replies.{reply_of, readout_of}
use Rattle.answers.specs.declared.Refusal.{Refusal}
use Rattle.answers.specs.declared.Readout as Ro
use Rattle.layered.specs.Answers.{layered_readout_of}
use Rattle.demands.specs.Terms.{Writes, HeaderTold, ComesBack}
use Rattle.std.specs.Prelude.{Ok, Err}
use Rattle.std.specs.declared.result.Result.{Result}
use Rattle.answers.specs.declared.Refusal as Re
use Rattle.layered.specs.declared.LayerRefusal as Rf

-- ---- done or refused

pub not_done : {X : Type 0} (r : Result ℕ Re.Refusal) (why : Refusal) → r ≡ Err why → (n : ℕ) → reply_of r ≡ done n → X
not_done r why e n d = absurd (let f = sym (ap reply_of e) ∙ d in let z : ◌≡◌ {A = ℕ} 0 1 = cc in omega arith)

pub not_refusal : {X : Type 0} (r : Result ℕ Re.Refusal) (n : ℕ) → r ≡ Ok n → (why w : ℕ) → reply_of r ≡ refused why w → X
not_refusal r n e why w d = absurd (let f = sym (ap reply_of e) ∙ d in let z : ◌≡◌ {A = ℕ} 0 1 = cc in omega arith)

pub done_is : {m n : ℕ} → ◌≡◌ {A = Outcome ℕ} (done m) (done n) → m ≡ n
done_is e = cc

pub reply_refused : {A : Type 0} (o : Outcome (List A)) (why w : ℕ) → write_reply o ≡ refused why w → o ≡ refused why w
unfolding write_reply
reply_refused (done b) why w e = absurd (let z : ◌≡◌ {A = ℕ} 0 1 = cc in omega arith)
reply_refused (refused x y) why w e = cc

-- ---- an output, whatever is written: a refusal keeps it, and a success puts what it writes at its front

module _ {A : Type 0} (out out' : List A) (r : Result ℕ Re.Refusal) (o : Outcome (List A)) (kept : reply_of r ≡ write_reply o) (after : out' ≡ write_out o out) where
  pub output_kept : (why w : ℕ) → reply_of r ≡ refused why w → out' ≡ out
  unfolding write_reply write_out
  output_kept why w e = after ∙ ap (λ (x : Outcome (List A)). write_out x out) (reply_refused o why w (sym kept ∙ e))

  pub output_put : (n : ℕ) → reply_of r ≡ done n → (b : List A) × (o ≡ done b) × (take n out' ≡ b)
  unfolding write_reply write_out
  output_put n e = go o refl
    where
      go : (x : Outcome (List A)) → o ≡ x → (b : List A) × (o ≡ done b) × (take n out' ≡ b)
      go (done b) f =
          let d = sym (kept ∙ ap write_reply f) ∙ e in
          let m : length b ≡ n = cc in
          (b, f, ap (take n) (after ∙ ap (λ (x : Outcome (List A)). write_out x out) f) ∙ take_at b (drop (length b) out) n m)
      go (refused x y) f = absurd (let d = sym (kept ∙ ap write_reply f) ∙ e in let z : ◌≡◌ {A = ℕ} 0 1 = cc in omega arith)

  -- what was put there is no longer than the output
  pub output_room : (n : ℕ) → reply_of r ≡ done n → n ≤ length out'
  unfolding write_reply
  output_room n e =
      let b = output_put n e in
      let f = sym (kept ∙ ap write_reply b.1) ∙ e in
      let m : length b.0 ≡ n = cc in
      omega (arith, ap length b.2, length-take n out', m)

-- exactly these bytes whenever there is room, and else ROOM
pub puts : (bytes out out' : List ℕ) (r : Result ℕ Re.Refusal) (o : Outcome (List ℕ)) → reply_of r ≡ write_reply o → out' ≡ write_out o out
    → (length bytes ≤ length out → o ≡ done bytes) → (length out < length bytes → o ≡ refused ROOM (length bytes)) → Writes bytes out out' r
unfolding write_reply write_out
puts bytes out out' r o kept after fits lacks =
    record {
      room = λ h. let e = fits h in (kept ∙ ap write_reply e, after ∙ ap (λ (x : Outcome (List ℕ)). write_out x out) e);
      no_room = λ h. let e = lacks h in (kept ∙ ap write_reply e, after ∙ ap (λ (x : Outcome (List ℕ)). write_out x out) e);
    }

-- ---- the reading's buffers

pub read_refused : (o : Outcome Pairs) (why w : ℕ) → read_reply o ≡ refused why w → o ≡ refused why w
unfolding read_reply
read_refused (done q) why w e = absurd (let z : ◌≡◌ {A = ℕ} 0 1 = cc in omega arith)
read_refused (refused x y) why w e = cc

pub read_kept : (o : Outcome Pairs) (is is' : List ℕ) (xs xs' : List ℤ) (r : Result ℕ Re.Refusal) → reply_of r ≡ read_reply o → is' ≡ ids_after o is → xs' ≡ values_after o xs
    → (why w : ℕ) → reply_of r ≡ refused why w → (is' ≡ is) × (xs' ≡ xs)
unfolding ids_after values_after
read_kept o is is' xs xs' r k ki kx why w e =
    let f = read_refused o why w (sym k ∙ e) in
    (ki ∙ ap (λ (o : Outcome Pairs). ids_after o is) f, kx ∙ ap (λ (o : Outcome Pairs). values_after o xs) f)

-- what comes back by a writer's reply comes back by one that is equal to it
pub comes_back : (ids : List ℕ) (vs : List ℤ) (is is' : List ℕ) (xs xs' : List ℤ) (wrote wrote' checked read : Result ℕ Re.Refusal) → wrote' ≡ wrote
    → ((n : ℕ) → reply_of wrote ≡ done n → ComesBack ids vs is is' xs xs' wrote checked read)
    → ((why w : ℕ) → reply_of wrote ≡ refused why w → (is' ≡ is) × (xs' ≡ xs)) → ComesBack ids vs is is' xs xs' wrote' checked read
comes_back ids vs is is' xs xs' wrote wrote' checked read same back kept =
    record {
      checks = λ n d. let e = ap reply_of (sym same) ∙ d in (back n e).checks n e;
      reads = λ n d. let e = ap reply_of (sym same) ∙ d in (back n e).reads n e;
      refused = λ why w d. kept why w (ap reply_of (sym same) ∙ d);
    }

-- ---- a page's lists

page_refused : (o : Outcome (List (Outcome Look))) (why w : ℕ) → page_reply o ≡ refused why w → o ≡ refused why w
unfolding page_reply
page_refused (done q) why w e = absurd (let z : ◌≡◌ {A = ℕ} 0 1 = cc in omega arith)
page_refused (refused x y) why w e = cc

pub page_kept : (o : Outcome (List (Outcome Look))) (os os' : List ℕ) (vs vs' : List ℤ) (ks ks' : List ℕ) (r : Result ℕ Re.Refusal) → reply_of r ≡ page_reply o
    → os' ≡ page_after place_ordinal o os → vs' ≡ page_after place_value o vs → ks' ≡ page_after place_kind o ks
    → (why w : ℕ) → reply_of r ≡ refused why w → (os' ≡ os) × (vs' ≡ vs) × (ks' ≡ ks)
unfolding page_after
page_kept o os os' vs vs' ks ks' r k ko kv kk why w e =
    let f = page_refused o why w (sym k ∙ e) in (
      ko ∙ ap (λ (o : Outcome (List (Outcome Look))). page_after place_ordinal o os) f,
      kv ∙ ap (λ (o : Outcome (List (Outcome Look))). page_after place_value o vs) f,
      kk ∙ ap (λ (o : Outcome (List (Outcome Look))). page_after place_kind o ks) f,
    )

-- ---- pairs from an id on

pub readout_refused : (o : Outcome Readout) (why w : ℕ) → readout_reply o ≡ refused why w → o ≡ refused why w
unfolding readout_reply
readout_refused (done q) why w e = absurd (let z : ◌≡◌ {A = ℕ} 0 1 = cc in omega arith)
readout_refused (refused x y) why w e = cc

pub readout_kept : (o : Outcome Readout) (is is' : List ℕ) (xs xs' : List ℤ) (r : Result Ro.Readout Re.Refusal) → readout_of r ≡ readout_reply o
    → is' ≡ readout_after (λ w. w.ids) o is → xs' ≡ readout_after (λ w. w.values) o xs
    → (why w : ℕ) → readout_of r ≡ refused why w → (is' ≡ is) × (xs' ≡ xs)
unfolding readout_after
readout_kept o is is' xs xs' r k ki kx why w e =
    let f = readout_refused o why w (sym k ∙ e) in
    (ki ∙ ap (λ (o : Outcome Readout). readout_after (λ p. p.ids) o is) f, kx ∙ ap (λ (o : Outcome Readout). readout_after (λ p. p.values) o xs) f)

pub readout_told : {P : Type 0} (o : Outcome Readout) (why w : ℕ) → (o ≡ refused why w) ↔ P → (readout_reply o ≡ refused why w) ↔ P
unfolding readout_reply
readout_told o why w h = (λ e. h.0 (readout_refused o why w e), λ p. ap readout_reply (h.1 p))

-- ---- pairs of both columns from an id on

layered_readout_refused : (o : LayeredRead) (layer : Layer) (why w : ℕ) → layered_read_reply o ≡ refused_count layer why w → o ≡ refused_read layer why w
unfolding layered_read_reply
layered_readout_refused (read_to r) layer why w e = absurd (let z : ◌≡◌ {A = ℕ} 0 1 = cc in omega arith)
layered_readout_refused (refused_read l v x) layer why w e = cc

module _ (o : LayeredRead) (is is' : List ℕ) (xs xs' : List ℤ) (cs cs' : List ℕ) (r : Result Ro.Readout Rf.LayerRefusal) (k : layered_readout_of r ≡ layered_read_reply o)
    (ki : is' ≡ layered_read_after pair_id o is) (kx : xs' ≡ layered_read_after pair_value o xs) (kc : cs' ≡ layered_read_after pair_column o cs) where
  pub layered_readout_kept : (layer : Layer) (why w : ℕ) → layered_readout_of r ≡ refused_count layer why w → (is' ≡ is) × (xs' ≡ xs) × (cs' ≡ cs)
  unfolding layered_read_after
  layered_readout_kept layer why w e =
      let f = layered_readout_refused o layer why w (sym k ∙ e) in (
        ki ∙ ap (λ (o : LayeredRead). layered_read_after pair_id o is) f,
        kx ∙ ap (λ (o : LayeredRead). layered_read_after pair_value o xs) f,
        kc ∙ ap (λ (o : LayeredRead). layered_read_after pair_column o cs) f,
      )

pub layered_readout_told : {P : Type 0} (o : LayeredRead) (layer : Layer) (why w : ℕ) → (o ≡ refused_read layer why w) ↔ P
    → (layered_read_reply o ≡ refused_count layer why w) ↔ P
unfolding layered_read_reply
layered_readout_told o layer why w h = (λ e. h.0 (layered_readout_refused o layer why w e), λ p. ap layered_read_reply (h.1 p))

-- ---- where the header broke (document 02, [4])

-- an answer is the definition's, so what holds of that holds of it
pub told_by : {A P : Type 0} (a b x : A) → a ≡ b → (b ≡ x) ↔ P → (a ≡ x) ↔ P
told_by a b x e h = (λ q. h.0 (sym e ∙ q), λ p. e ∙ h.1 p)

-- of a call that tests nothing before the header
pub at_once : {X P : Type 0} → X ↔ P → X ↔ (Unit {0} × P)
at_once h = (λ x. (tt, h.0 x), λ p. h.1 p.1)

pub read_told : {P : Type 0} (o : Outcome Pairs) (why w : ℕ) → (o ≡ refused why w) ↔ P → (read_reply o ≡ refused why w) ↔ P
unfolding read_reply
read_told o why w h = (λ e. h.0 (read_refused o why w e), λ p. ap read_reply (h.1 p))

module _ {A : Type 0} (known : List Edition) (bytes : List ℕ) (So : Type 0) (refusal : ℕ → ℕ → A) (a b : A) (same : a ≡ b)
    (number : (w : ℕ) → (b ≡ refusal NUMBER w) ↔ (So × BrokenAt known bytes w)) (short : (w : ℕ) → (b ≡ refusal SHORT w) ↔ (So × EndsAt known bytes w)) where
  pub header_told : HeaderTold known bytes So (λ why w. a ≡ refusal why w)
  header_told = record { number = λ w. told_by a b _ same (number w); short = λ w. told_by a b _ same (short w) }

-- a test more before the header
pub both_first : {X P Q R : Type 0} → X ↔ (P × Q × R) → X ↔ ((P × Q) × R)
both_first h = (λ x. let d = h.0 x in ((d.0, d.1), d.2), λ p. h.1 (p.0.0, p.0.1, p.1))

pub pair_first : {X R K : Type 0} {P : K → Type 0} → X ↔ ((k : K) × P k × R) → X ↔ (((k : K) × P k) × R)
pair_first h = (λ x. let d = h.0 x in ((d.0, d.1), d.2), λ p. h.1 (p.0.0, p.0.1, p.1))
