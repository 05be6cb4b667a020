-- Document 01, "Refusal numbers", 7 to 11: opening a column answers exactly by its table (format/specs/Says.antt). "Numbers 7 and 8 go by the first bad header
-- number; 9 is tested as soon as the first number is read." Assumes nothing.
use Rattle.format.specs.Kit.{◌≡◌, ◌↔◌, refl, sym, ap, ap₂, ◌∙◌, List, ℕ}
use Rattle.format.specs.Kit.{subst, ◌++◌, append_assoc, Option, none, some, ◌^◌, drop, eqb-true, eqb-false, eq-eqb, ne_eqb}
use Rattle.format.specs.Refusals.{Outcome, done, refused, and_then, need, given, HEADER, LENGTH}
use Rattle.format.specs.Pairs.{Below}
use Rattle.format.specs.Editions.{Edition, number_of, edition_in}
use Rattle.format.specs.Opening.{head_from, head_ok, Opened, length_ok, open_column}
use Rattle.format.specs.Bytes.{bytes_of}
use Rattle.format.specs.HeaderNumbers.{number, number_at, numbers_at}
use Rattle.format.specs.Column.{Head, head_numbers}
use Rattle.format.specs.Says.{Headed, after_header, OpenSays}
use Rattle.laws.proofs.Cases.{true_or}
use Rattle.laws.proofs.Editions.{number_small, found_number}
use Rattle.laws.proofs.Header.{number_at_lem}
use Rattle.laws.proofs.Minimal.{number_is}
use Rattle.laws.proofs.Open.{tail, open_headed}
use Rattle.laws.proofs.Halves.{numbers_are, head_back}
use Rattle.laws.proofs.HeaderFaults.{numbers_stop, none_of, open_number, open_short}

module _ (known : List Edition) (bytes : List ℕ) (o : Outcome Opened) where
  -- of bytes that begin with a header
  module _ (h : Head) (x : Headed known bytes h) where
    abbrev col : Opened
    col = record { head = h; start = after_header h }

    as_headed : open_column known bytes ≡ need (head_ok h) HEADER 0 (need (length_ok bytes col) LENGTH 0 (done col))
    unfolding head_numbers
    as_headed = subst Opens (sym x.bytes_are) (open_headed h x.rest x.small.1 known x.knows)
      where
        Opens : List ℕ → Type 0
        Opens b = open_column known b ≡ need (head_ok h) HEADER 0 (need (length_ok b col) LENGTH 0 (done col))

    headed_says : open_column known bytes ≡ o → OpenSays known bytes o
    unfolding need
    headed_says e =
        true_or (head_ok h)
        (λ r.
        true_or (length_ok bytes col)
        (λ l. OpenSays.opened h x r (eqb-true _ _ l) (sym e ∙ as_headed ∙ rw (r, l) refl))
        (λ l. OpenSays.no_length h x r (eqb-false _ _ l) (sym e ∙ as_headed ∙ rw (r, l) refl)))
        (λ r. OpenSays.no_rule h x r (sym e ∙ as_headed ∙ rw r refl))

  module _ (u : Below 256 bytes) (e : open_column known bytes ≡ o) where
    -- a number that is none
    stopped_says : (at why w : ℕ) → number_at bytes at ≡ refused why w → open_column known bytes ≡ refused why w → OpenSays known bytes o
    stopped_says at why w n f =
        none_of bytes at why w n
        (λ q. let g = f ∙ ap {B = Outcome Opened} (λ (k : ℕ). refused k w) q in OpenSays.ends w ((open_short known bytes w u).0 g) (sym e ∙ g))
        (λ q. let g = f ∙ ap {B = Outcome Opened} (λ (k : ℕ). refused k w) q in OpenSays.broken w ((open_number known bytes w u).0 g) (sym e ∙ g))

    by_others : (k : ℕ × ℕ) → number_at bytes 0 ≡ done k → (ed : Edition) → edition_in known k.0 ≡ some ed → (r : Outcome (List ℕ × ℕ))
        → numbers_at 8 bytes k.1 ≡ r → OpenSays known bytes o
    unfolding open_column and_then given head_from head_numbers bytes_of
    by_others k a ed b (refused why w) f =
        let s = numbers_stop 8 bytes k.1 why w u f in
        stopped_says s.next why w s.stops (rw (a, b, f) refl)
    by_others k a ed b (done r) f =
        let own : k.0 ≡ number_of ed = found_number known k.0 ed b in
        let one = number_is bytes 0 k u a in
        let n = numbers_are 8 bytes k.1 r u f in
        let back : tail (head_from ed r.0) ≡ r.0 = head_back ed r.0 n.many in
        headed_says (head_from ed r.0)
        (record {
          knows = subst (λ (j : ℕ). edition_in known j ≡ some ed) own b;
          small = (number_small ed, subst (Below (2 ^ 64)) (sym back) n.small);
          rest = drop r.1 bytes;
          bytes_are =
              one.there ∙ ap₂ {C = List ℕ} (λ (j : ℕ) (l : List ℕ). number j ++ l) own n.there
              ∙ sym (append_assoc (number (number_of ed)) (bytes_of number r.0) (drop r.1 bytes))
              ∙ ap (λ (l : List ℕ). (number (number_of ed) ++ bytes_of number l) ++ drop r.1 bytes) (sym back);
        }) e

    by_edition : (k : ℕ × ℕ) → number_at bytes 0 ≡ done k → (x : Option Edition) → edition_in known k.0 ≡ x → OpenSays known bytes o
    unfolding open_column and_then given
    by_edition k a none b =
        let n = number_is bytes 0 k u a in
        OpenSays.no_edition k.0 (drop k.1 bytes) n.small n.there b (sym e ∙ rw (a, b) refl)
    by_edition k a (some ed) b = by_others k a ed b (numbers_at 8 bytes k.1) refl

    by_first : (x : Outcome (ℕ × ℕ)) → number_at bytes 0 ≡ x → OpenSays known bytes o
    unfolding open_column and_then
    by_first (done k) a = by_edition k a (edition_in known k.0) refl
    by_first (refused why w) a = stopped_says 0 why w a (rw a refl)

    open_says : OpenSays known bytes o
    open_says = by_first (number_at bytes 0) refl

  said_open : Below 256 bytes → OpenSays known bytes o → open_column known bytes ≡ o
  unfolding open_column and_then given need
  said_open u (OpenSays.ends w f e) = (open_short known bytes w u).1 f ∙ sym e
  said_open u (OpenSays.broken w f e) = (open_number known bytes w u).1 f ∙ sym e
  said_open u (OpenSays.no_edition k rest s b n e) = rw (number_at_lem bytes 0 k rest b s, n) (sym e)
  said_open u (OpenSays.no_rule h x r e) = as_headed h x ∙ rw r (sym e)
  said_open u (OpenSays.no_length h x r l e) = as_headed h x ∙ rw (r, ne_eqb _ _ l) (sym e)
  said_open u (OpenSays.opened h x r l e) = as_headed h x ∙ rw (r, eq-eqb _ _ l) (sym e)

  -- the bytes that fail are bytes
  pub open_exactly : Below 256 bytes → (open_column known bytes ≡ o) ↔ OpenSays known bytes o
  open_exactly u = (open_says u, said_open u)
