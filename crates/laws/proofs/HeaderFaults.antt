-- Where the header broke (document 02, [4]). NUMBER comes with a place, SHORT with the byte count: what these say of the bytes, exactly. That each call that
-- reads a header passes them on is PassedOn.antt. Assumes nothing.
use Rattle.format.specs.Kit.{◌≡◌, ◌↔◌, refl, sym, ap, ◌∙◌, List, [], ◌∷◌, ◌++◌, append_assoc, ℕ, zero, suc, ◌+◌, ◌^◌, ◌<◌, arith, length}
use Rattle.format.specs.Kit.{length-append, drop, drop-drop, drop-append_seam}
use Rattle.format.specs.Refusals.{refused, and_then, given, SHORT, NUMBER, EDITION, HEADER, LENGTH}
use Rattle.format.specs.Bytes.{bytes_of}
use Rattle.format.specs.HeaderNumbers.{number, Got, got, short, bad, read_number, got_at, number_at, numbers_at}
use Rattle.format.specs.Pairs.{Below}
use Rattle.format.specs.Editions.{Edition, edition_in}
use Rattle.format.specs.Opening.{open_column}
use Rattle.format.specs.Faults.{Begun, BadBytes, FirstKnown, Whole, BrokenAt, EndsAt}
use Rattle.laws.proofs.Digits.{below_drop}
use Rattle.laws.proofs.Header.{number_at_lem}
use Rattle.laws.proofs.Minimal.{NumberAt, number_is}
use Rattle.laws.proofs.BadNumber.{bad_bytes, bad_read, short_bytes, short_read}
use Rattle.laws.proofs.Tests.{given_some, stopped, need_stopped, given_stopped}

-- ---- the number at which reading stops

-- of k numbers from a place on, some are whole, and the next one, at `next`, is refused
pub record Stopped (k : ℕ) (bytes : List ℕ) (at why w : ℕ) : Type 0 where
  pub numbers : List ℕ
  pub next : ℕ
  pub few : length numbers < k
  pub small : Below (2 ^ 64) numbers
  pub there : drop at bytes ≡ bytes_of number numbers ++ drop next bytes
  pub next_is : next ≡ at + length (bytes_of number numbers)
  pub stops : number_at bytes next ≡ refused why w

stopped_first : (k : ℕ) (bytes : List ℕ) (at why w : ℕ) → number_at bytes at ≡ refused why w → Stopped (suc k) bytes at why w
unfolding bytes_of
stopped_first k bytes at why w e =
    record { numbers = []; next = at; few = omega arith; small = tt; there = refl; next_is = omega arith; stops = e }

stopped_later : (k : ℕ) (bytes : List ℕ) (at why w : ℕ) (r : ℕ × ℕ) → NumberAt bytes at r → Stopped k bytes r.1 why w → Stopped (suc k) bytes at why w
unfolding bytes_of
stopped_later k bytes at why w r n s =
    record {
      numbers = r.0 ∷ s.numbers;
      next = s.next;
      few = omega (arith, s.few);
      small = (n.small, s.small);
      there = n.there ∙ ap (λ (l : List ℕ). number r.0 ++ l) s.there
          ∙ sym (append_assoc (number r.0) (bytes_of number s.numbers) (drop s.next bytes));
      next_is = omega (arith, s.next_is, n.next, length-append (number r.0) (bytes_of number s.numbers));
      stops = s.stops;
    }

pub numbers_stop : (k : ℕ) (bytes : List ℕ) (at why w : ℕ) → Below 256 bytes → numbers_at k bytes at ≡ refused why w → Stopped k bytes at why w
unfolding numbers_at
numbers_stop zero bytes at why w u e = absurd (let z : ◌≡◌ {A = ℕ} 0 1 = cc in omega arith)
numbers_stop (suc k) bytes at why w u e =
    stopped (number_at bytes at) _ why w e
    (λ f. stopped_first k bytes at why w f)
    (λ r f g.
    stopped (numbers_at k bytes r.1) _ why w g
    (λ h. stopped_later k bytes at why w r (number_is bytes at r u f) (numbers_stop k bytes r.1 why w u h))
    (λ a h i. absurd (let z : ◌≡◌ {A = ℕ} 0 1 = cc in omega arith)))

-- SHORT and NUMBER are the refusals before EDITION
module _ (known : List Edition) (bytes : List ℕ) (why w : ℕ) where
  open_stops : Below 256 bytes → why < EDITION → open_column known bytes ≡ refused why w
      → (s : Stopped 9 bytes 0 why w) × FirstKnown known s.numbers
  unfolding open_column stopped_first stopped_later
  open_stops u l e =
      stopped (number_at bytes 0) _ why w e
      (λ f. (stopped_first 8 bytes 0 why w f, tt))
      (λ k f g.
      stopped (given (edition_in known k.0) EDITION 0) _ why w g
      (λ h. absurd (omega (arith, l, given_stopped _ EDITION 0 why w h)))
      (λ ed h i.
      stopped (numbers_at 8 bytes k.1) _ why w i
      (λ j. (stopped_later 8 bytes 0 why w k (number_is bytes 0 k u f) (numbers_stop 8 bytes k.1 why w u j), (ed, given_some _ _ _ _ h)))
      (λ r j m.
      need_stopped _ HEADER 0 _ why w m
      (λ z. absurd (omega arith))
      (λ m2.
      need_stopped _ LENGTH 0 _ why w m2
      (λ z. absurd (omega arith))
      (λ m3. absurd (let z : ◌≡◌ {A = ℕ} 0 1 = cc in omega arith))))))

-- and the other way round: whole numbers, and then one that is refused

numbers_refused : (k : ℕ) (ns bytes : List ℕ) (at next why w : ℕ) → length ns < k → Below (2 ^ 64) ns → drop at bytes ≡ bytes_of number ns ++ drop next bytes
    → next ≡ at + length (bytes_of number ns) → number_at bytes next ≡ refused why w → numbers_at k bytes at ≡ refused why w
unfolding numbers_at and_then bytes_of
numbers_refused zero ns bytes at next why w l t d n e = absurd (omega arith)
numbers_refused (suc k) [] bytes at next why w l t d n e =
    let q : next ≡ at = omega arith in
    let f : number_at bytes at ≡ refused why w = rw q at e in
    rw f
numbers_refused (suc k) (x ∷ ns) bytes at next why w l t d n e =
    let d1 : drop at bytes ≡ number x ++ (bytes_of number ns ++ drop next bytes) = d ∙ append_assoc (number x) (bytes_of number ns) (drop next bytes) in
    let d2 : drop (at + length (number x)) bytes ≡ bytes_of number ns ++ drop next bytes =
    sym (drop-drop (length (number x)) at bytes) ∙ ap (drop (length (number x))) d1 ∙ drop-append_seam (number x) (bytes_of number ns ++ drop next bytes) in
    let n2 : next ≡ at + length (number x) + length (bytes_of number ns) = omega (arith, n, length-append (number x) (bytes_of number ns)) in
    rw (
      number_at_lem bytes at x (bytes_of number ns ++ drop next bytes) d1 t.0,
      numbers_refused k ns bytes (at + length (number x)) next why w (omega arith) t.1 d2 n2 e,
    )

open_refused : (known : List Edition) (ns bytes : List ℕ) (next why w : ℕ) → Whole known ns → bytes ≡ bytes_of number ns ++ drop next bytes
    → next ≡ length (bytes_of number ns) → number_at bytes next ≡ refused why w → open_column known bytes ≡ refused why w
unfolding open_column and_then given bytes_of
open_refused known [] bytes next why w h d n e =
    let q : next ≡ 0 = omega arith in
    let f : number_at bytes 0 ≡ refused why w = rw q at e in
    rw f
open_refused known (x ∷ ns) bytes next why w h d n e =
    let d1 : drop 0 bytes ≡ number x ++ (bytes_of number ns ++ drop next bytes) = d ∙ append_assoc (number x) (bytes_of number ns) (drop next bytes) in
    let d2 : drop (0 + length (number x)) bytes ≡ bytes_of number ns ++ drop next bytes =
    sym (drop-drop (length (number x)) 0 bytes) ∙ ap (drop (length (number x))) d1 ∙ drop-append_seam (number x) (bytes_of number ns ++ drop next bytes) in
    let n2 : next ≡ 0 + length (number x) + length (bytes_of number ns) = omega (arith, n, length-append (number x) (bytes_of number ns)) in
    let few : length ns < 8 = omega (arith, h.fewer) in
    rw (
      number_at_lem bytes 0 x (bytes_of number ns ++ drop next bytes) d1 h.small.0,
      h.edition.1,
      numbers_refused 8 ns bytes (0 + length (number x)) next why w few h.small.1 d2 n2 e,
    )

-- ---- what a refused number says of its bytes

pub number_refused : (bytes : List ℕ) (at w : ℕ) → Below 256 bytes → number_at bytes at ≡ refused NUMBER w → (k : ℕ) × BadBytes (drop at bytes) k × (at + k ≡ w)
unfolding number_at got_at
number_refused bytes at w u = go (read_number (drop at bytes)) refl
  where
    go : (g : Got) → read_number (drop at bytes) ≡ g → got_at bytes at g ≡ refused NUMBER w → (k : ℕ) × BadBytes (drop at bytes) k × (at + k ≡ w)
    go (got v k) e d = absurd (let z : ◌≡◌ {A = ℕ} 0 1 = cc in omega arith)
    go short e d = absurd (let z : SHORT ≡ NUMBER = cc in omega arith)
    go (bad k) e d = (k, bad_bytes (drop at bytes) k (below_drop 256 at bytes u) e, cc)

pub number_short : (bytes : List ℕ) (at w : ℕ) → Below 256 bytes → number_at bytes at ≡ refused SHORT w → Begun (drop at bytes) × (w ≡ length bytes)
unfolding number_at got_at
number_short bytes at w u = go (read_number (drop at bytes)) refl
  where
    go : (g : Got) → read_number (drop at bytes) ≡ g → got_at bytes at g ≡ refused SHORT w → Begun (drop at bytes) × (w ≡ length bytes)
    go (got v k) e d = absurd (let z : ◌≡◌ {A = ℕ} 0 1 = cc in omega arith)
    go short e d = (short_bytes (drop at bytes) (below_drop 256 at bytes u) e, cc)
    go (bad k) e d = absurd (let z : SHORT ≡ NUMBER = cc in omega arith)

-- there is no third
pub none_of : {X : Type 0} (bytes : List ℕ) (at why w : ℕ) → number_at bytes at ≡ refused why w → (why ≡ SHORT → X) → (why ≡ NUMBER → X) → X
unfolding number_at got_at
none_of bytes at why w e f g = go (read_number (drop at bytes)) e f g
  where
    go : {X : Type 0} (r : Got) → got_at bytes at r ≡ refused why w → (why ≡ SHORT → X) → (why ≡ NUMBER → X) → X
    go (got v k) e f g = absurd (let z : ◌≡◌ {A = ℕ} 0 1 = cc in omega arith)
    go short e f g = f (cc)
    go (bad k) e f g = g (cc)

-- and the other way round
module _ (bytes : List ℕ) (w : ℕ) where
  pub bad_number : (at k : ℕ) → BadBytes (drop at bytes) k → at + k ≡ w → number_at bytes at ≡ refused NUMBER w
  unfolding number_at got_at
  bad_number at k b e =
      let r : read_number (drop at bytes) ≡ bad (length b.before) = ap read_number b.bytes_are ∙ bad_read b.before b.byte b.after b.decides in
      let q : at + length b.before ≡ w = omega (arith, b.place) in
      rw (r, q) refl

  pub short_number : (at : ℕ) → Begun (drop at bytes) → w ≡ length bytes → number_at bytes at ≡ refused SHORT w
  unfolding number_at got_at
  short_number at b e = rw (short_read (drop at bytes) b, e) refl

-- ---- NUMBER with a place, SHORT with the byte count: exactly these

module _ (known : List Edition) (bytes : List ℕ) (w : ℕ) where
  number_fault : Below 256 bytes → open_column known bytes ≡ refused NUMBER w → BrokenAt known bytes w
  number_fault u e =
      let o = open_stops known bytes NUMBER w u (omega arith) e in
      let s : Stopped 9 bytes 0 NUMBER w = o.0 in
      let r = number_refused bytes s.next w u s.stops in
      let b : BadBytes (drop s.next bytes) r.0 = r.1 in
      let all : bytes ≡ bytes_of number s.numbers ++ (b.before ++ (b.byte ∷ b.after)) =
      s.there ∙ ap (λ (l : List ℕ). bytes_of number s.numbers ++ l) b.bytes_are in
      let place : w ≡ length (bytes_of number s.numbers) + length b.before = omega (arith, s.next_is, b.place, r.2) in
      let long : length bytes ≡ length (bytes_of number s.numbers) + length (b.before ++ (b.byte ∷ b.after)) =
      ap length all ∙ length-append (bytes_of number s.numbers) (b.before ++ (b.byte ∷ b.after)) in
      record {
        numbers = s.numbers;
        before = b.before;
        byte = b.byte;
        after = b.after;
        bytes_are = all;
        whole = record { fewer = s.few; small = s.small; edition = o.1 };
        decides = b.decides;
        place_is = place;
        below = omega (arith, place, long, length-append b.before (b.byte ∷ b.after));
      }

  fault_number : BrokenAt known bytes w → open_column known bytes ≡ refused NUMBER w
  unfolding number_at got_at
  fault_number b =
      let ns : List ℕ = bytes_of number b.numbers in
      let rest : List ℕ = b.before ++ (b.byte ∷ b.after) in
      let d : drop (length ns) bytes ≡ rest = ap (drop (length ns)) b.bytes_are ∙ drop-append_seam ns rest in
      let e : number_at bytes (length ns) ≡ refused NUMBER w = rw (d, bad_read b.before b.byte b.after b.decides, b.place_is) in
      open_refused known b.numbers bytes (length ns) NUMBER w b.whole (b.bytes_are ∙ ap (λ (l : List ℕ). ns ++ l) (sym d)) refl e

  short_fault : Below 256 bytes → open_column known bytes ≡ refused SHORT w → EndsAt known bytes w
  short_fault u e =
      let o = open_stops known bytes SHORT w u (omega arith) e in
      let s : Stopped 9 bytes 0 SHORT w = o.0 in
      let r = number_short bytes s.next w u s.stops in
      record {
        numbers = s.numbers;
        before = drop s.next bytes;
        bytes_are = s.there;
        whole = record { fewer = s.few; small = s.small; edition = o.1 };
        begun = r.0;
        count_is = r.1;
      }

  fault_short : EndsAt known bytes w → open_column known bytes ≡ refused SHORT w
  unfolding number_at got_at
  fault_short b =
      let ns : List ℕ = bytes_of number b.numbers in
      let d : drop (length ns) bytes ≡ b.before = ap (drop (length ns)) b.bytes_are ∙ drop-append_seam ns b.before in
      let e : number_at bytes (length ns) ≡ refused SHORT w = rw (d, short_read b.before b.begun, b.count_is) in
      open_refused known b.numbers bytes (length ns) SHORT w b.whole (b.bytes_are ∙ ap (λ (l : List ℕ). ns ++ l) (sym d)) refl e

  module _ (u : Below 256 bytes) where
    pub open_number : (open_column known bytes ≡ refused NUMBER w) ↔ BrokenAt known bytes w
    open_number = (number_fault u, fault_number)

    pub open_short : (open_column known bytes ≡ refused SHORT w) ↔ EndsAt known bytes w
    open_short = (short_fault u, fault_short)
