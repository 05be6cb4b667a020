-- The tests of edition 4 accept a value section that keeps the header rules exactly if it is the section of its values, and the fields are theirs.
-- Assumes nothing.
use Rattle.format.specs.Kit.{◌≡◌, refl, sym, ap, ap₂, ◌∙◌, subst, true, List, [], ◌∷◌, ◌++◌, map, ℕ, ◌-◌, ◌*◌, ◌^◌, ◌<◌, ◌≤◌, zero-add}
use Rattle.format.specs.Kit.{arith, ltb, ℤ, pos, length, get_or, take, drop, drop_at, take-append-drop, length-drop, length-map}
use Rattle.format.specs.Limits.{max_count}
use Rattle.format.specs.Bytes.{bytes_of}
use Rattle.format.specs.Bits.{packed, packed_bytes, unpacked, bit_at, bit_of}
use Rattle.format.specs.Pairs.{Below, Each, Fits}
use Rattle.format.specs.Codec.{Fields}
use Rattle.format.specs.Editions.{plain, table, codec}
use Rattle.format.specs.Table.{table_of, code_in, code_width, table_fields, table_entry, table_section, ascends, all_in, table_ok, tabled, shorter}
use Rattle.laws.proofs.Tests.{both_true, true_both}
use Rattle.laws.proofs.Digits.{below_drop}
use Rattle.laws.proofs.Bits.{byte_at, packed_fetched, spare_packed, length_packed, length_unpacked, unpacked_packed, high_order}
use Rattle.laws.proofs.Values.{each_at}
use Rattle.laws.proofs.Ascending.{in_at, code_at, table_is, all_each}
use Rattle.laws.proofs.SameMembers.{each_in, in_each}
use Rattle.laws.proofs.Table.{TableFacts, table_facts, facts_table, TableRules, length_table, has_code, code_small, codes_at}
use Rattle.laws.proofs.Plans.{shorter_by_table}
use Rattle.laws.proofs.Editions.{high_first_sound}
use Rattle.laws.proofs.Halves.{ValuesOf, Tested}
use Rattle.packings.specs.declared.Order as Od
use Rattle.packings.specs.Packings.{spare_ok}
use Rattle.packings.proofs.Spare.{spare_sound, spare_complete}
use Rattle.table_values.proofs.Facts.{rules_are}
use Rattle.tables.proofs.Marks.{OneOf, codes_used, used_codes}
use Rattle.table_values.specs.Saves.{saves}
use Rattle.table_check.specs.ValuesOk.{entries_from, below_all, used_all, codes_ok, values_ok}
use Rattle.table_check.proofs.Codes as Codes
use Rattle.table_check.proofs.Codes.{below_each, used_each, each_used, each_below}
use Rattle.table_check.proofs.Entries.{length_entries, entries_fit, entries_bytes, entries_back}

-- ---- values from a table and codes

-- the value of each code
abbrev values_at : List ℤ → List ℕ → List ℤ
values_at us cs = map (λ c. get_or us c (pos 0)) cs

module _ (us : List ℤ) (up : ascends us ≡ true) where
  codes_back : (cs : List ℕ) → below_all (length us) cs ≡ true → map (code_in us) (values_at us cs) ≡ cs
  unfolding below_all
  codes_back [] e = refl
  codes_back (c ∷ cs) e =
      let h = Codes.below_at (length us) (c ∷ cs) 0 e (omega arith) in
      ap₂ {C = List ℕ} (λ (x : ℕ) (l : List ℕ). x ∷ l) (code_at us c up h) (codes_back cs (both_true (ltb c (length us)) (below_all (length us) cs) e).1)

  values_in : (cs : List ℕ) → below_all (length us) cs ≡ true → all_in us (values_at us cs) ≡ true
  unfolding below_all all_in
  values_in [] e = refl
  values_in (c ∷ cs) e =
      true_both _ _ (in_at us c (pos 0) (Codes.below_at (length us) (c ∷ cs) 0 e (omega arith)))
      (values_in cs (both_true (ltb c (length us)) (below_all (length us) cs) e).1)

values_fit : (us : List ℤ) (cs : List ℕ) → Each Fits us → below_all (length us) cs ≡ true → Each Fits (values_at us cs)
unfolding below_all
values_fit us [] fit e = tt
values_fit us (c ∷ cs) fit e = (
  each_at Fits us c (pos 0) fit (Codes.below_at (length us) (c ∷ cs) 0 e (omega arith)),
  values_fit us cs fit (both_true (ltb c (length us)) (below_all (length us) cs) e).1,
)

-- ---- one section

module _ (n : ℕ) (f : Fields) (s : List ℕ) (few : n ≤ max_count) (r : TableRules n f (length s)) (u : Below 256 s) where
  abbrev t : ℕ
  t = f.divisor

  abbrev us : List ℤ
  us = entries_from 0 t s

  abbrev rest : List ℕ
  rest = drop (8 * t) s

  abbrev cs : List ℕ
  cs = unpacked f.width n rest

  rest_long : length rest ≡ packed_bytes n f.width
  rest_long = omega (arith, length-drop (8 * t) s, r.bytes, ap (packed_bytes n) r.width_is)

  byte : (k : ℕ) → get_or rest k 0 < 256
  byte = byte_at rest (below_drop 256 (8 * t) s u)

  count : length us ≡ t
  count = length_entries 0 t s

  -- the tests hold: these are the values
  module _ (up : ascends us ≡ true) (sv : saves us n ≡ true) (spare : spare_ok Od.Order.High rest (8 * length rest - n * f.width) ≡ true)
      (below : below_all t cs ≡ true) (used : used_all t cs ≡ true) where
    vs : List ℤ
    vs = values_at us cs

    below_us : below_all (length us) cs ≡ true
    below_us = rw count below

    long : length vs ≡ n
    unfolding vs
    long = length-map cs _ ∙ length_unpacked f.width n rest

    codes : map (code_in us) vs ≡ cs
    unfolding vs
    codes = codes_back us up cs below_us

    has : all_in us vs ≡ true
    unfolding vs
    has = values_in us up cs below_us

    fit : Each Fits vs
    unfolding vs
    fit = values_fit us cs (entries_fit 0 t s u (omega (arith, r.bytes))) below_us

    all_used : all_in vs us ≡ true
    all_used =
        codes_used us vs up has (λ k h. subst (λ (l : List ℕ). OneOf l k) (sym codes) (used_each t cs used k (omega (arith, count))))

    its_table : us ≡ table_of vs
    its_table = table_is us vs up has all_used

    shorter_is : shorter (codec plain) us vs ≡ true
    unfolding saves
    shorter_is = shorter_by_table us vs has all_used ∙ rw long sv

    facts : TableFacts (codec plain) us vs
    facts =
        record { least = omega (arith, count, r.least); most = omega (arith, count, r.most); up = up; holds = has; used = all_used; saves = shorter_is }

    section_back : table_section us vs ≡ s
    unfolding table_section unpacked high_order bit_at bit_of high_first_sound
    section_back =
        let w : code_width (length us) ≡ f.width = ap code_width count ∙ sym r.width_is in
        let front : bytes_of table_entry us ≡ take (8 * t) s = entries_bytes 0 t s u (omega (arith, r.bytes)) in
        let back : packed f.width cs ≡ rest =
        packed_fetched f.width n rest rest_long byte (spare_sound Od.Order.High rest (n * f.width) rest_long byte spare) in
        ap₂ (λ (x y : List ℕ). x ++ y) front (ap₂ packed w codes ∙ back) ∙ take-append-drop (8 * t) s

    its_width : code_width t ≡ f.width
    its_width = sym r.width_is

    its_smallest : 0 ≡ f.smallest
    its_smallest = sym r.smallest_is

    pub made : ValuesOf (codec table) n f s
    unfolding codec tabled table_fields
    made =
        record {
          values = vs;
          fit = fit;
          taken = subst (λ (l : List ℤ). table_ok (codec plain) l vs ≡ true) its_table (facts_table (codec plain) us vs facts);
          fields =
              ap (λ (l : List ℤ). table_fields (length l)) (sym its_table) ∙ ap table_fields count
              ∙ (λ i. record { width = its_width i; smallest = its_smallest i; divisor = t });
          bytes = ap (λ (l : List ℤ). table_section l vs) (sym its_table) ∙ section_back;
          count = long;
        }

  pub tests_sound : values_ok n f s ≡ true → ValuesOf (codec table) n f s
  unfolding values_ok codes_ok
  tests_sound e =
      let a = both_true _ _ e in
      let b = both_true _ _ a.0 in
      let d = both_true _ _ a.1 in
      let g = both_true _ _ d.0 in
      made b.0 b.1 g.0 g.1 d.1

-- ---- the section of values that the edition takes

module _ (us vs : List ℤ) (facts : TableFacts (codec plain) us vs) (fit : Each Fits vs) where
  abbrev xs : List ℕ
  xs = map (code_in us) vs

  abbrev w : ℕ
  w = code_width (length us)

  us_fit : Each Fits us
  us_fit = in_each Fits us (λ x e. each_in Fits vs fit x (all_each vs us facts.used x e))

  xs_long : length xs ≡ length vs
  xs_long = length-map vs _

  its_saves : saves us (length vs) ≡ true
  unfolding saves
  its_saves = sym (shorter_by_table us vs facts.holds facts.used) ∙ facts.saves

  its_entries : entries_from 0 (length us) (table_section us vs) ≡ us
  unfolding table_section
  its_entries = entries_back us (packed w xs) us_fit 0 (length us) (zero-add (length us))

  its_codes : drop (8 * length us) (table_section us vs) ≡ packed w xs
  unfolding table_section
  its_codes = drop_at (bytes_of table_entry us) (packed w xs) (8 * length us) (length_table us)

  codes_small : (i : ℕ) → i < length xs → get_or xs i 0 < 2 ^ w
  codes_small i h = code_small us vs facts.up facts.holds i (omega (arith, xs_long))

  read_codes : unpacked w (length vs) (packed w xs) ≡ xs
  read_codes = ap (λ (k : ℕ). unpacked w k (packed w xs)) (sym xs_long) ∙ unpacked_packed w xs (each_below (2 ^ w) xs codes_small)

  spare_zero : ((k : ℕ) → get_or (packed w xs) k 0 < 256) → spare_ok Od.Order.High (packed w xs) (8 * length (packed w xs) - length vs * w) ≡ true
  unfolding high_first_sound high_order bit_at bit_of
  spare_zero byte =
      spare_complete Od.Order.High (packed w xs) (length vs * w) (length_packed w xs ∙ ap (λ (k : ℕ). packed_bytes k w) xs_long) byte
      (λ j h. spare_packed w xs j (omega (arith, ap (λ (k : ℕ). k * w) xs_long)))

  codes_below : below_all (length us) xs ≡ true
  codes_below =
      below_each (length us) xs
      (λ i h.
      let l : i < length vs = omega (arith, xs_long) in
      omega (arith, codes_at us vs i l, (has_code us vs facts.up facts.holds i l).within))

  pub own_tests : Below 256 (table_section us vs) → values_ok (length vs) (table_fields (length us)) (table_section us vs) ≡ true
  unfolding values_ok codes_ok table_fields
  own_tests u =
      let byte : (k : ℕ) → get_or (packed w xs) k 0 < 256 =
      byte_at (packed w xs) (subst (Below 256) its_codes (below_drop 256 (8 * length us) (table_section us vs) u)) in
      rw (
        its_entries,
        its_codes,
        read_codes,
        facts.up,
        its_saves,
        spare_zero byte,
        codes_below,
        each_used (length us) xs
            (used_codes us vs facts.up facts.holds facts.used),
      )

own_section : (n : ℕ) (f : Fields) (s : List ℕ) → Below 256 s → ValuesOf (codec table) n f s → values_ok n f s ≡ true
unfolding codec tabled
own_section n f s u v =
    let vs : List ℤ = v.values in
    let us : List ℤ = table_of vs in
    sym (ap (λ (k : ℕ). values_ok k (table_fields (length us)) (table_section us vs)) v.count
    ∙ ap (λ (g : Fields). values_ok n g (table_section us vs)) v.fields ∙ ap (values_ok n f) v.bytes)
    ∙ own_tests us vs (table_facts (codec plain) us vs v.taken) v.fit (subst (Below 256) (sym v.bytes) u)

-- the tests take just what some n values are written as
pub table_tested : Tested (codec table) values_ok
table_tested =
    record {
      sound = λ n f s k t. tests_sound n f s k.few (rules_are n f (length s) k.rules) k.bytes t;
      complete = λ n f s k v. own_section n f s k.bytes v;
    }
