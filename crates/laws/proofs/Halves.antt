-- Opened bytes are accepted exactly if the id section is that of n ids, with J entries, and the value section, with the header's w,
-- smallest value and g, is that of n values in the header's edition. So a check of a column owes two laws: one of the id section, and
-- one for each codec, `Tested`. Assumes nothing.
use Rattle.format.specs.Kit.{◌≡◌, refl, sym, ap, ap₂, ◌∙◌, subst, Bool, true, List, [], ◌∷◌, ◌++◌, append_assoc, some, ℕ, zero, suc, ◌+◌, ◌^◌}
use Rattle.format.specs.Kit.{◌≤◌, arith, ℤ, length, take, drop, take-append-drop, length-drop, drop-drop, length-take-le, eqb-true}
use Rattle.format.specs.Limits.{max_id, max_count}
use Rattle.format.specs.Refusals.{done}
use Rattle.format.specs.Bytes.{bytes_of}
use Rattle.format.specs.HeaderNumbers.{number, numbers_at}
use Rattle.format.specs.Ids.{jumps, id_section}
use Rattle.format.specs.Pairs.{Pairs, Asc, Below, Each, Fits}
use Rattle.format.specs.Valid.{Valid}
use Rattle.format.specs.Codec.{Fields, Codec}
use Rattle.format.specs.Editions.{Edition, number_of, codec}
use Rattle.format.specs.Column.{Head, head_of, head_numbers, column}
use Rattle.format.specs.Opening.{head_from, head_ok, Opened, open_column, id_part, value_part}
use Rattle.format.specs.Rules.{HeadFacts}
use Rattle.format.specs.Check.{all_values, accepted}
use Rattle.laws.proofs.Digits.{below_drop}
use Rattle.laws.proofs.Minimal.{number_is}
use Rattle.laws.proofs.Lawful.{Storable, SmallFields, Lawful, LawfulReader}
use Rattle.laws.proofs.Editions.{found_number}
use Rattle.laws.proofs.Open.{tail, opened_ok}
use Rattle.laws.proofs.RoundTrip.{all_values_lem, the_head, the_column, ids_part, values_part, taken}
use Rattle.laws.proofs.Unique.{opened_as_lem, is_read}
use Rattle.laws.proofs.Rules.{head_facts, power_true}
use Rattle.laws.proofs.Tests.{result, needed, given_some, passed}

-- ---- the header's bytes

pub record NumbersAt (k : ℕ) (bytes : List ℕ) (at : ℕ) (r : List ℕ × ℕ) : Type 0 where
  pub there : drop at bytes ≡ bytes_of number r.0 ++ drop r.1 bytes
  pub many : length r.0 ≡ k
  pub small : Below (2 ^ 64) r.0

pub numbers_are : (k : ℕ) (bytes : List ℕ) (at : ℕ) (r : List ℕ × ℕ) → Below 256 bytes → numbers_at k bytes at ≡ done r → NumbersAt k bytes at r
unfolding numbers_at bytes_of
numbers_are zero bytes at r u d =
    subst (NumbersAt zero bytes at) (ap (result ([], 0)) d) (record { there = refl; many = refl; small = tt })
numbers_are (suc k) bytes at r u d =
    let w = passed _ _ r d in
    let w2 = passed _ _ r w.2 in
    let v : ℕ × ℕ = w.0 in
    let x : List ℕ × ℕ = w2.0 in
    let n = number_is bytes at v u w.1 in
    let ih : NumbersAt k bytes v.1 x = numbers_are k bytes v.1 x u w2.1 in
    subst (NumbersAt (suc k) bytes at) (ap (result ([], 0)) w2.2)
    (record {
      there = n.there ∙ ap (λ (l : List ℕ). number v.0 ++ l) ih.there ∙ sym (append_assoc (number v.0) (bytes_of number x.0) (drop x.1 bytes));
      many = ap suc ih.many;
      small = (n.small, ih.small);
    })

pub head_back : (ed : Edition) (ns : List ℕ) → length ns ≡ 8 → tail (head_from ed ns) ≡ ns
unfolding head_from
head_back ed (a ∷ b ∷ c ∷ d ∷ e ∷ f ∷ g ∷ i ∷ []) q = refl
head_back ed [] q = absurd (omega arith)
head_back ed (a ∷ []) q = absurd (omega arith)
head_back ed (a ∷ b ∷ []) q = absurd (omega arith)
head_back ed (a ∷ b ∷ c ∷ []) q = absurd (omega arith)
head_back ed (a ∷ b ∷ c ∷ d ∷ []) q = absurd (omega arith)
head_back ed (a ∷ b ∷ c ∷ d ∷ e ∷ []) q = absurd (omega arith)
head_back ed (a ∷ b ∷ c ∷ d ∷ e ∷ f ∷ []) q = absurd (omega arith)
head_back ed (a ∷ b ∷ c ∷ d ∷ e ∷ f ∷ g ∷ []) q = absurd (omega arith)
head_back ed (a ∷ b ∷ c ∷ d ∷ e ∷ f ∷ g ∷ i ∷ j ∷ l) q = absurd (omega arith)

-- what an opened column is made of
pub record Parts (bytes : List ℕ) (c : Opened) : Type 0 where
  pub made : bytes ≡ bytes_of number (head_numbers c.head) ++ (id_part bytes c ++ value_part bytes c)
  pub small : Below (2 ^ 64) (tail c.head)
  pub id_long : length (id_part bytes c) ≡ c.head.id_bytes
  pub value_long : length (value_part bytes c) ≡ c.head.value_bytes

pub parts : (known : List Edition) (bytes : List ℕ) (c : Opened) → Below 256 bytes → open_column known bytes ≡ done c → Parts bytes c
unfolding open_column id_part value_part head_numbers bytes_of head_from
parts known bytes c u o =
    let s1 = passed _ _ c o in
    let s2 = passed _ _ c s1.2 in
    let s3 = passed _ _ c s2.2 in
    let s4 = needed _ _ _ _ c s3.2 in
    let s5 = needed _ _ _ _ c s4.1 in
    let k : ℕ × ℕ = s1.0 in
    let ed : Edition = s2.0 in
    let r : List ℕ × ℕ = s3.0 in
    let own : k.0 ≡ number_of ed = found_number known k.0 ed (given_some _ _ _ _ s2.1) in
    let first = number_is bytes 0 k u s1.1 in
    let n : NumbersAt 8 bytes k.1 r = numbers_are 8 bytes k.1 r u s3.1 in
    let back : tail (head_from ed r.0) ≡ r.0 = head_back ed r.0 n.many in
    let total : r.1 + (head_from ed r.0).id_bytes + (head_from ed r.0).value_bytes ≡ length bytes = eqb-true _ _ s5.0 in
    subst (Parts bytes) (ap (result c) s5.1)
    (record {
      made =
          first.there
          ∙ ap₂ {C = List ℕ} (λ (x : ℕ) (l : List ℕ). number x ++ l) own n.there
          ∙ sym (append_assoc (number (number_of ed)) (bytes_of number r.0) (drop r.1 bytes))
          ∙ ap₂ {C = List ℕ} (λ (x y : List ℕ). (number (number_of ed) ++ bytes_of number x) ++ y) (sym back)
          (sym (take-append-drop (head_from ed r.0).id_bytes (drop r.1 bytes))
          ∙ ap (λ (l : List ℕ). take (head_from ed r.0).id_bytes (drop r.1 bytes) ++ l) (drop-drop (head_from ed r.0).id_bytes r.1 bytes));
      small = subst (Below (2 ^ 64)) (sym back) n.small;
      id_long = length-take-le (head_from ed r.0).id_bytes (drop r.1 bytes) (omega (arith, length-drop r.1 bytes));
      value_long = omega (arith, length-drop (r.1 + (head_from ed r.0).id_bytes) bytes);
    })

-- ---- the halves

-- the bytes are the id section of a list of n ids, with j jump entries
pub record SectionOf (p j : ℕ) (s : List ℕ) (n : ℕ) : Type 0 where
  pub ids : List ℕ
  pub ascending : Asc 0 ids
  pub range : Below (suc max_id) ids
  pub bytes : id_section p ids ≡ s
  pub entries : length (jumps p ids) ≡ j
  pub count : length ids ≡ n

-- the fields and the bytes are those of a list of n values
pub record ValuesOf (k : Codec) (n : ℕ) (f : Fields) (s : List ℕ) : Type 0 where
  pub values : List ℤ
  pub fit : Each Fits values
  pub taken : k.takes values ≡ true
  pub fields : k.fields values ≡ f
  pub bytes : k.section values ≡ s
  pub count : length values ≡ n

-- they are what the bytes are decoded to
pub values_decoded : (k : Codec) → Lawful k → (n : ℕ) (f : Fields) (s : List ℕ) → n ≤ max_count → (v : ValuesOf k n f s)
    → all_values n (k.value n f s) ≡ some v.values
values_decoded k law n f s few v =
    let ok : Storable k v.values = record { taken = v.taken; few = omega (arith, v.count); fit = v.fit } in
    sym (rw (v.count, v.fields, v.bytes) refl) ∙ all_values_lem v.values _ (law.back v.values ok)

head_is_is : (hd : Head) (ids : List ℕ) (vs : List ℤ) (l v : ℕ) → length ids ≡ hd.count → l ≡ hd.id_bytes
    → length (jumps hd.power ids) ≡ hd.jump_count → (codec hd.edition).fields vs ≡ hd.fields → v ≡ hd.value_bytes
    → head_of hd.edition hd.power ids vs l v ≡ hd
unfolding head_of
head_is_is hd ids vs l v e1 e2 e3 e4 e5 i =
    record { edition = hd.edition; count = e1 i; power = hd.power; id_bytes = e2 i; jump_count = e3 i; fields = e4 i; value_bytes = e5 i }

column_made : (ed : Edition) (p : ℕ) (ids : List ℕ) (vs : List ℤ) (hd : Head) (is xs : List ℕ) → id_section p ids ≡ is → (codec ed).section vs ≡ xs
    → head_of ed p ids vs (length (id_section p ids)) (length ((codec ed).section vs)) ≡ hd
    → column ed p ids vs ≡ bytes_of number (head_numbers hd) ++ (is ++ xs)
unfolding column
column_made ed p ids vs hd is xs a b e = cc

module _ (known : List Edition) (laws : LawfulReader known) (bytes : List ℕ) (c : Opened) (u : Below 256 bytes) (opens : open_column known bytes ≡ done c) where
  abbrev hd : Head
  hd = c.head

  abbrev Ids : Type 0
  Ids = SectionOf hd.power hd.jump_count (id_part bytes c) hd.count

  abbrev Values : Type 0
  Values = ValuesOf (codec hd.edition) hd.count hd.fields (value_part bytes c)

  -- both halves: accepted
  pub halves_accepted : (i : Ids) (v : Values) → accepted bytes c ≡ done (record { ids = i.ids; values = v.values })
  halves_accepted i v =
      let ids : List ℕ = i.ids in
      let vs : List ℤ = v.values in
      let o = opened_ok known bytes c opens in
      let law = laws hd.edition o.knows in
      let all : Parts bytes c = parts known bytes c u opens in
      let valid : Valid hd.edition hd.power ids vs =
      record {
        lengths = i.count ∙ sym v.count;
        power = power_true hd.power (head_facts hd o.rules).power;
        ascending = i.ascending;
        range = i.range;
        fit = v.fit;
        taken = v.taken;
      } in
      let e : column hd.edition hd.power ids vs ≡ bytes =
      column_made hd.edition hd.power ids vs hd (id_part bytes c) (value_part bytes c) i.bytes v.bytes
      (head_is_is hd ids vs _ _ i.count (ap length i.bytes ∙ all.id_long) i.entries v.fields (ap length v.bytes ∙ all.value_long))
      ∙ sym all.made in
      let same : the_column hd.edition hd.power ids vs ≡ c =
      opened_as_lem known bytes c hd.edition law o.knows hd.power ids vs valid opens e in
      ap₂ accepted (sym e) (sym same) ∙ taken hd.edition law hd.power ids vs valid

  -- accepted: both halves
  pub accepted_halves : (q : Pairs) → accepted bytes c ≡ done q → Ids × Values
  unfolding the_column head_of the_head
  accepted_halves q a =
      let r = is_read known laws bytes c q opens a in
      let same = r.opened_is in (
        record {
          ids = q.ids;
          ascending = r.valid.ascending;
          range = r.valid.range;
          bytes = sym (ap₂ id_part (sym r.bytes_are) (sym same) ∙ ids_part hd.edition r.law hd.power q.ids q.values r.valid);
          entries = ap (λ (y : Opened). y.head.jump_count) same;
          count = r.count;
        },
        record {
          values = q.values;
          fit = r.valid.fit;
          taken = r.valid.taken;
          fields = ap (λ (y : Opened). y.head.fields) same;
          bytes = sym (ap₂ value_part (sym r.bytes_are) (sym same) ∙ values_part hd.edition r.law hd.power q.ids q.values r.valid);
          count = sym r.valid.lengths ∙ r.count;
        },
      )

-- ---- what a code's check of values owes

-- what opening tells of n, the fields and the value section
pub record Kept (k : Codec) (n : ℕ) (f : Fields) (s : List ℕ) : Type 0 where
  pub few : n ≤ max_count
  pub small : SmallFields f
  pub bytes : Below 256 s
  pub rules : k.fields_ok n f (length s) ≡ true

-- for each codec a test that is sound and complete: where the header rules are kept, it takes just what some n values are written as
pub record Tested (k : Codec) (test : ℕ → Fields → List ℕ → Bool) : Type 0 where
  pub sound : (n : ℕ) (f : Fields) (s : List ℕ) → Kept k n f s → test n f s ≡ true → ValuesOf k n f s
  pub complete : (n : ℕ) (f : Fields) (s : List ℕ) → Kept k n f s → ValuesOf k n f s → test n f s ≡ true

pub kept : (known : List Edition) (bytes : List ℕ) (c : Opened) → Below 256 bytes → open_column known bytes ≡ done c
    → Kept (codec c.head.edition) c.head.count c.head.fields (value_part bytes c)
unfolding head_ok value_part
kept known bytes c u opens =
    let h : Head = c.head in
    let all : Parts bytes c = parts known bytes c u opens in
    let s = all.small in
    let f : HeadFacts h = head_facts h (opened_ok known bytes c opens).rules in
    search (arith, below_drop)
