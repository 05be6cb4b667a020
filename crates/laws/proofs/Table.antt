-- The codec of edition 4 is lawful, whatever codec its columns must be shorter than. Assumes nothing.
use Rattle.format.specs.Kit.{◌≡◌, refl, sym, ap, ap₂, ◌∙◌, subst, true, false, List, [], ◌∷◌, ◌++◌, map, append_assoc}
use Rattle.format.specs.Kit.{some, ℕ, zero, suc, ◌+◌, ◌-◌, ◌*◌, ◌^◌, ◌<◌, ◌≤◌, mul-suc, lt_of_le_of_lt, mod-eq_of_lt, mul-le-mul, arith}
use Rattle.format.specs.Kit.{ltb, lit<, ℤ, pos, length, get_or, take, drop, length-append, length-map, drop_at, take_at, drop-drop}
use Rattle.format.specs.Kit.{eq-eqb, eqb-true, le-leb, lt-ltb, leb-true}
use Rattle.format.specs.Limits.{max_width}
use Rattle.format.specs.Bytes.{from_low, low_at, bytes_of, twos, untwos}
use Rattle.format.specs.Bits.{packed, packed_bytes, fetched}
use Rattle.format.specs.Pairs.{Each, Fits}
use Rattle.format.specs.Codec.{Fields, Codec}
use Rattle.format.specs.Table.{table_of, code_in, code_width, table_fields, table_entry, table_section, table_bytes, table_value, ascends, all_in}
use Rattle.format.specs.Table.{is_in, shorter, table_ok, tabled}
use Rattle.laws.proofs.Digits.{length_digits, from_digits_lem}
use Rattle.laws.proofs.Section.{length_bytes_of_lem}
use Rattle.laws.proofs.Bits.{length_packed, fetched_packed}
use Rattle.laws.proofs.Values.{bit_length_lem, bit_length_le, each_at}
use Rattle.laws.proofs.Fits.{twos_lt, untwos_twos}
use Rattle.laws.proofs.Scaled.{signed_some, signed_fits}
use Rattle.laws.proofs.Ascending.{Coded, coded}
use Rattle.laws.proofs.Lawful.{Storable, SmallFields, Lawful}
use Rattle.laws.proofs.Cases.{true_or}
use Rattle.laws.proofs.Tests.{both_true}

-- ---- the small check, test by test

pub record TableFacts (other : Codec) (us vs : List ℤ) : Type 0 where
  pub least : 2 ≤ length us
  pub most : length us ≤ 256
  pub up : ascends us ≡ true
  pub holds : all_in us vs ≡ true
  pub used : all_in vs us ≡ true
  pub saves : shorter other us vs ≡ true

module _ (other : Codec) (us vs : List ℤ) where
  pub table_facts : table_ok other us vs ≡ true → TableFacts other us vs
  unfolding table_ok
  table_facts e =
      let f = both_true _ _ e in
      let u = both_true _ _ f.0 in
      let h = both_true _ _ u.0 in
      let a = both_true _ _ h.0 in
      let t = both_true _ _ a.0 in
      record { least = leb-true _ _ t.0; most = leb-true _ _ t.1; up = a.1; holds = h.1; used = u.1; saves = f.1 }

  pub facts_table : TableFacts other us vs → table_ok other us vs ≡ true
  unfolding table_ok
  facts_table f = rw (le-leb 2 (length us) f.least, le-leb (length us) 256 f.most, f.up, f.holds, f.used, f.saves)

-- ---- an entry read

length_entry : (v : ℤ) → length (table_entry v) ≡ 8
unfolding table_entry
length_entry v = length_digits 256 8 (twos v)

pub length_table : (us : List ℤ) → length (bytes_of table_entry us) ≡ 8 * length us
length_table us = length_bytes_of_lem 8 table_entry length_entry us

entry_at : (us : List ℤ) (rest : List ℕ) (x : ℕ) → x < length us
    → take 8 (drop (8 * x) (bytes_of table_entry us ++ rest)) ≡ table_entry (get_or us x (pos 0))
unfolding bytes_of
entry_at [] rest x h = absurd (omega arith)
entry_at (u ∷ us) rest zero h =
    ap (take 8) (append_assoc (table_entry u) (bytes_of table_entry us) rest) ∙ take_at (table_entry u) (bytes_of table_entry us ++ rest) 8 (length_entry u)
entry_at (u ∷ us) rest (suc x) h =
    let e : 8 * suc x ≡ 8 + 8 * x = omega (arith, mul-suc 8 x) in
    ap (λ (n : ℕ). take 8 (drop n (bytes_of table_entry (u ∷ us) ++ rest))) e
    ∙ ap (take 8) (sym (drop-drop (8 * x) 8 (bytes_of table_entry (u ∷ us) ++ rest))
    ∙ ap (drop (8 * x))
    (ap (drop 8) (append_assoc (table_entry u) (bytes_of table_entry us) rest) ∙ drop_at (table_entry u) (bytes_of table_entry us ++ rest) 8 (length_entry u)))
    ∙ entry_at us rest x (omega arith)

pub read_entry : (us : List ℤ) (rest : List ℕ) (x : ℕ) → x < length us → Fits (get_or us x (pos 0))
    → untwos (low_at 8 (bytes_of table_entry us ++ rest) (8 * x)) ≡ get_or us x (pos 0)
unfolding low_at table_entry
read_entry us rest x h fit =
    let u : ℤ = get_or us x (pos 0) in
    ap (λ (l : List ℕ). untwos (from_low l)) (entry_at us rest x h)
    ∙ ap untwos (from_digits_lem 256 8 (twos u) (lit< tt) ∙ mod-eq_of_lt (twos_lt u fit))
    ∙ untwos_twos u fit

-- ---- a section whose table ascends and holds every value

each_coded : (us : List ℤ) → ascends us ≡ true → (vs : List ℤ) → all_in us vs ≡ true → Each (Coded us) vs
unfolding all_in
each_coded us up [] t = tt
each_coded us up (v ∷ vs) t = let b = both_true (is_in us v) (all_in us vs) t in (coded us v up b.0, each_coded us up vs b.1)

pub codes_at : (us vs : List ℤ) (i : ℕ) → i < length vs → get_or (map (code_in us) vs) i 0 ≡ code_in us (get_or vs i (pos 0))
codes_at us [] i h = absurd (omega arith)
codes_at us (v ∷ vs) zero h = refl
codes_at us (v ∷ vs) (suc i) h = codes_at us vs i (omega arith)

module _ (us vs : List ℤ) where
  pub length_codes : length (map (code_in us) vs) ≡ length vs
  length_codes = length-map vs _

  pub length_section : length (table_section us vs) ≡ table_bytes (length us) (length vs)
  unfolding table_section
  length_section =
      length-append (bytes_of table_entry us) (packed (code_width (length us)) (map (code_in us) vs))
      ∙ ap₂ ◌+◌ (length_table us)
      (length_packed (code_width (length us)) (map (code_in us) vs) ∙ ap (λ (n : ℕ). packed_bytes n (code_width (length us))) length_codes)

  module _ (up : ascends us ≡ true) (holds : all_in us vs ≡ true) where
    pub has_code : (i : ℕ) → i < length vs → Coded us (get_or vs i (pos 0))
    has_code i h = each_at (Coded us) vs i (pos 0) (each_coded us up vs holds) h

    pub code_small : (i : ℕ) → i < length vs → get_or (map (code_in us) vs) i 0 < 2 ^ code_width (length us)
    code_small i h = lt_of_le_of_lt (omega (arith, (has_code i h).within, codes_at us vs i h)) (bit_length_lem (length us - 1))

    pub value_back : Each Fits vs → (i : ℕ) → i < length vs
        → table_value (length us) (code_width (length us)) (table_section us vs) i ≡ some (get_or vs i (pos 0))
    unfolding table_value table_section
    value_back fit i h =
        let w : ℕ = code_width (length us) in
        let v : ℤ = get_or vs i (pos 0) in
        let c : Coded us v = has_code i h in
        let rest : List ℕ = packed w (map (code_in us) vs) in
        let code : fetched (drop (8 * length us) (bytes_of table_entry us ++ rest)) w i ≡ code_in us v =
        ap (λ (l : List ℕ). fetched l w i) (drop_at (bytes_of table_entry us) rest (8 * length us) (length_table us))
        ∙ fetched_packed w (map (code_in us) vs) i (omega (arith, length_codes)) (code_small i h) ∙ codes_at us vs i h in
        let f : Fits v = each_at Fits vs i (pos 0) fit h in
        let r : untwos (low_at 8 (bytes_of table_entry us ++ rest) (8 * code_in us v)) ≡ v =
        read_entry us rest (code_in us v) c.within (subst Fits (sym c.there) f) ∙ c.there in
        rw (code, lt-ltb (code_in us v) (length us) c.within, r) (signed_some v f)

-- ---- the codec

pub value_fits : (t w : ℕ) (s : List ℕ) (i : ℕ) (v : ℤ) → table_value t w s i ≡ some v → Fits v
unfolding table_value
value_fits t w s i v e =
    let x : ℕ = fetched (drop (8 * t) s) w i in
    true_or (ltb x t)
    (λ h. signed_fits (untwos (low_at 8 s (8 * x))) v (rw h at e))
    (λ h. absurd (let z : ◌≡◌ {A = ℕ} 0 1 = cc (rw h at e) in omega arith))

-- the header rules, one by one
pub record TableRules (n : ℕ) (f : Fields) (v : ℕ) : Type 0 where
  pub least : 2 ≤ f.divisor
  pub most : f.divisor ≤ 256
  pub width_is : f.width ≡ code_width f.divisor
  pub smallest_is : f.smallest ≡ 0
  pub bytes : v ≡ table_bytes f.divisor n

pub table_rules : (other : Codec) (n : ℕ) (f : Fields) (v : ℕ) → (tabled other).fields_ok n f v ≡ true → TableRules n f v
unfolding tabled
table_rules other n f v e =
    let b = both_true _ _ e in
    let s = both_true _ _ b.0 in
    let w = both_true _ _ s.0 in
    let t = both_true _ _ w.0 in
    record {
      least = leb-true _ _ t.0;
      most = leb-true _ _ t.1;
      width_is = eqb-true _ _ w.1;
      smallest_is = eqb-true _ _ s.1;
      bytes = eqb-true _ _ b.1;
    }

-- the last code has 8 bits at most
pub code_narrow : (t : ℕ) → t ≤ 256 → code_width t ≤ 8
code_narrow t h = bit_length_le (t - 1) 8 (omega arith)

pub table_wide : (other : Codec) (n : ℕ) (f : Fields) (v : ℕ) → max_width < f.width → (tabled other).fields_ok n f v ≡ false
table_wide other n f v h =
    true_or ((tabled other).fields_ok n f v)
    (λ e. let r = table_rules other n f v e in absurd (omega (arith, r.width_is, code_narrow f.divisor r.most)))
    (λ e. e)

module _ (other : Codec) (vs : List ℤ) (ok : Storable (tabled other) vs) where
  us : List ℤ
  us = table_of vs

  facts : TableFacts other us vs
  unfolding tabled us
  facts = table_facts other (table_of vs) vs ok.taken

  narrow : code_width (length us) ≤ 8
  narrow = code_narrow (length us) facts.most

  numbers : SmallFields ((tabled other).fields vs)
  unfolding tabled table_fields us
  numbers = (omega (arith, narrow), (lit< tt, (omega (arith, facts.most), tt)))

  bytes : length ((tabled other).section vs) < 2 ^ 64
  unfolding tabled us
  bytes = omega (arith, mul-le-mul ok.few narrow, length_section us vs, facts.most)

  keeps : (tabled other).fields_ok (length vs) ((tabled other).fields vs) (length ((tabled other).section vs)) ≡ true
  unfolding tabled table_fields us
  keeps =
      rw (le-leb 2 (length us) facts.least, le-leb (length us) 256 facts.most, eq-eqb (code_width (length us)) _ refl, eq-eqb _ _ (length_section us vs))

  comes_back : (i : ℕ) → i < length vs → (tabled other).value (length vs) ((tabled other).fields vs) ((tabled other).section vs) i ≡ some (get_or vs i (pos 0))
  unfolding tabled table_fields us
  comes_back = value_back us vs facts.up facts.holds ok.fit

pub tabled_lawful : (other : Codec) → Lawful (tabled other)
unfolding tabled
tabled_lawful other =
    record {
      small_fields = numbers other;
      small_section = bytes other;
      rules = keeps other;
      back = comes_back other;
      fit = λ n f s i v e. value_fits f.divisor f.width s i v e;
    }
