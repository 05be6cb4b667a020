-- Edition 4 in the code's words: what a plan says of its table and values. Assumes nothing.
use Rattle.format.specs.Kit.{◌≡◌, refl, sym, ap, ◌∙◌, subst, true, List, ℕ, ◌*◌, ◌≤◌, mul-le-mul_left, arith, ℤ, length}
use Rattle.format.specs.Pairs.{Each, Fits}
use Rattle.format.specs.Codec.{Fields}
use Rattle.format.specs.Editions.{plain, table, codec}
use Rattle.format.specs.Table.{table_of, code_width, table_fields, table_bytes, table_section, tabled}
use Rattle.laws.proofs.Ascending.{table_few}
use Rattle.laws.proofs.Table.{TableFacts, table_facts, facts_table, length_section, code_narrow}
use Rattle.laws.proofs.Plans.{taken_fit}
use Rattle.values.specs.Edition.{PlanFor}

-- ---- a plan

module _ (vs : List ℤ) (taken : (codec table).takes vs ≡ true) where
  own_facts : TableFacts (codec plain) (table_of vs) vs
  unfolding codec tabled
  own_facts = table_facts (codec plain) (table_of vs) vs taken

  -- T, and the section's length, by the fields that were planned
  pub entries_are : (f : Fields) → f ≡ (codec table).fields vs → f.divisor ≡ length (table_of vs)
  unfolding codec tabled table_fields
  entries_are f e = ap (λ (g : Fields). g.divisor) e

  pub entries_few : (f : Fields) → f ≡ (codec table).fields vs → (1 ≤ f.divisor) × (f.divisor ≤ 256)
  entries_few f e = let t = entries_are f e in (omega (arith, own_facts.least), omega (arith, own_facts.most))

  pub length_is : (f : Fields) → f ≡ (codec table).fields vs → (r : ℕ) → r ≡ table_bytes f.divisor (length vs)
      → (r ≡ length ((codec table).section vs)) × (r ≤ 33 * length vs)
  unfolding codec tabled
  length_is f e r b =
      let t = entries_are f e in
      let n : ℕ = length vs in
      let w : code_width f.divisor ≤ 8 = code_narrow f.divisor (entries_few f e).1 in
      let m : n * code_width f.divisor ≤ n * 8 = mul-le-mul_left n w in
      (b ∙ ap (λ (k : ℕ). table_bytes k n) t ∙ sym (length_section (table_of vs) vs), omega (arith, table_few vs))

module _ (us vs : List ℤ) (p : PlanFor table us vs) where
  pub facts : TableFacts (codec plain) us vs
  facts = subst (λ (l : List ℤ). TableFacts (codec plain) l vs) (sym (p.own refl)) (own_facts vs p.taken)

  pub fields_are : table_fields (length us) ≡ (codec table).fields vs
  unfolding codec tabled
  fields_are = ap (λ (l : List ℤ). table_fields (length l)) (p.own refl)

  pub section_is : table_section us vs ≡ (codec table).section vs
  unfolding codec tabled
  section_is = ap (λ (l : List ℤ). table_section l vs) (p.own refl)

  pub values_fit : Each Fits vs
  values_fit = taken_fit us vs (facts_table (codec plain) us vs facts) (p.fit refl)
