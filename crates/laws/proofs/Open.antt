-- A column's header, opened. Assumes nothing.
use Rattle.format.specs.Kit.{◌≡◌, sym, ap, ◌∙◌, subst, true, List, [], ◌∷◌, ◌++◌, append_assoc, some, ℕ, ◌+◌, ◌^◌, zero-add, arith, length}
use Rattle.format.specs.Kit.{take, drop, length-append, drop-append_seam, take_at, drop_at, drop-drop, eq-eqb, eqb-true}
use Rattle.format.specs.Refusals.{done, and_then, need, given, HEADER, LENGTH}
use Rattle.format.specs.Bytes.{bytes_of}
use Rattle.format.specs.HeaderNumbers.{number, number_at, numbers_at}
use Rattle.format.specs.Pairs.{Below}
use Rattle.format.specs.Editions.{Edition, number_of, edition_in, Knows}
use Rattle.format.specs.Column.{Head, head_numbers}
use Rattle.format.specs.Rules.{Sound}
use Rattle.laws.proofs.Tests.{result, needed, given_some, passed}
use Rattle.laws.proofs.Rules.{head_facts}
use Rattle.format.specs.Opening.{head_from, head_ok, Opened, length_ok, open_column, id_part, value_part}
use Rattle.laws.proofs.Editions.{number_small, found_number}
use Rattle.laws.proofs.Header.{number_at_lem, numbers_at_lem}

-- the numbers after the edition
abbrev pub tail : Head → List ℕ
tail h =
    h.count ∷ h.power ∷ h.id_bytes ∷ h.jump_count ∷ h.fields.width ∷ h.fields.smallest ∷ h.fields.divisor ∷ h.value_bytes ∷ []

-- bytes that begin with a header's numbers are opened as the rules and the lengths say
module _ (h : Head) (rest : List ℕ) (small : Below (2 ^ 64) (tail h)) where
  -- the edition's bytes
  abbrev first : List ℕ
  first = number (number_of h.edition)

  abbrev begun : List ℕ
  begun = bytes_of number (head_numbers h) ++ rest

  begun_is : begun ≡ first ++ (bytes_of number (tail h) ++ rest)
  unfolding head_numbers bytes_of
  begun_is = append_assoc first (bytes_of number (tail h)) rest

  start_is : length first + length (bytes_of number (tail h)) ≡ length (bytes_of number (head_numbers h))
  unfolding head_numbers bytes_of
  start_is = sym (length-append first (bytes_of number (tail h)))

  first_number : number_at begun 0 ≡ done (number_of h.edition, 0 + length first)
  first_number = number_at_lem begun 0 (number_of h.edition) (bytes_of number (tail h) ++ rest) begun_is (number_small h.edition)

  others : numbers_at 8 begun (0 + length first) ≡ done (tail h, length (bytes_of number (head_numbers h)))
  others =
      numbers_at_lem (tail h) begun (0 + length first) rest
      (rw zero-add (ap (drop (length first)) begun_is ∙ drop-append_seam first (bytes_of number (tail h) ++ rest))) small
      ∙ ap (λ (n : ℕ). done (tail h, n)) (rw zero-add start_is)

  pub open_headed : (known : List Edition) → Knows known h.edition → let c : Opened = record { head = h; start = length (bytes_of number (head_numbers h)) } in
      open_column known begun ≡ need (head_ok h) HEADER 0 (need (length_ok begun c) LENGTH 0 (done c))
  unfolding open_column and_then given head_from
  open_headed known k = rw (first_number, k, others)

module _ (h : Head) (is xs : List ℕ) where
  abbrev pub headed : List ℕ
  headed = bytes_of number (head_numbers h) ++ (is ++ xs)

  abbrev pub opened_as : Opened
  opened_as = record { head = h; start = length (bytes_of number (head_numbers h)) }

  length_headed : length headed ≡ length (bytes_of number (head_numbers h)) + (length is + length xs)
  length_headed = length-append (bytes_of number (head_numbers h)) (is ++ xs) ∙ ap (λ (n : ℕ). length (bytes_of number (head_numbers h)) + n) (length-append is xs)

  module _ (small : Below (2 ^ 64) (tail h)) (ok : head_ok h ≡ true) (hi : length is ≡ h.id_bytes) (hv : length xs ≡ h.value_bytes) where
    pub opened_is : (known : List Edition) → Knows known h.edition → open_column known headed ≡ done opened_as
    unfolding need
    opened_is known k =
        let whole : length (bytes_of number (head_numbers h)) + h.id_bytes + h.value_bytes ≡ length headed = omega (arith, length_headed) in
        open_headed h (is ++ xs) small known k ∙ rw (ok, eq-eqb _ _ whole)

    pub id_part_lem : id_part headed opened_as ≡ is
    unfolding id_part
    id_part_lem =
        ap (take h.id_bytes) (drop-append_seam (bytes_of number (head_numbers h)) (is ++ xs)) ∙ take_at is xs h.id_bytes hi

    pub value_part_lem : value_part headed opened_as ≡ xs
    unfolding value_part
    value_part_lem =
        sym (drop-drop h.id_bytes (length (bytes_of number (head_numbers h))) headed)
        ∙ ap (drop h.id_bytes) (drop-append_seam (bytes_of number (head_numbers h)) (is ++ xs)) ∙ drop_at is xs h.id_bytes hi

-- ---- what was opened

-- it has an edition that is known, a header that breaks no rule, and its length
pub record OpenedBy (known : List Edition) (bytes : List ℕ) (c : Opened) : Type 0 where
  pub knows : Knows known c.head.edition
  pub rules : head_ok c.head ≡ true
  pub lengths : length_ok bytes c ≡ true

pub opened_ok : (known : List Edition) (bytes : List ℕ) (c : Opened) → open_column known bytes ≡ done c → OpenedBy known bytes c
unfolding open_column head_from
opened_ok known bytes c e =
    let s1 = passed _ _ c e in
    let s2 = passed _ _ c s1.2 in
    let s3 = passed _ _ c s2.2 in
    let s4 = needed _ _ _ _ c s3.2 in
    let s5 = needed _ _ _ _ c s4.1 in
    let its-edition : edition_in known s1.0.0 ≡ some s2.0 = given_some _ _ _ _ s2.1 in
    subst (OpenedBy known bytes) (ap (result c) s5.1)
    (record {
      knows = subst (λ (k : ℕ). edition_in known k ≡ some s2.0) (found_number known s1.0.0 s2.0 its-edition) its-edition;
      rules = s4.0;
      lengths = s5.0;
    })

pub sound : (known : List Edition) (bytes : List ℕ) (c : Opened) → open_column known bytes ≡ done c → Sound bytes c
sound known bytes c e =
    let k = opened_ok known bytes c e in
    record { rules = k.rules; facts = head_facts c.head k.rules; whole = eqb-true _ _ k.lengths }
