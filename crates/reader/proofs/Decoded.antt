-- What is known of the parts of an accepted column: what fills its buffers asks no more. Assumes nothing.
use Rattle.format.specs.Kit.{◌≡◌, sym, ap, ap₂, ◌∙◌, subst, true, List, ◌++◌, Option, some, ℕ, ◌+◌, ◌-◌, ◌≤◌, arith, length, take, drop, length-drop}
use Rattle.format.specs.Kit.{take_all, ℤ}
use Rattle.format.specs.Limits.{Power}
use Rattle.format.specs.IdsRead.{read_runs, ids_of}
use Rattle.format.specs.Pairs.{Pairs, Below}
use Rattle.format.specs.Editions.{editions, codec}
use Rattle.format.specs.Column.{Head}
use Rattle.format.specs.Opening.{Opened, id_part, value_part}
use Rattle.format.specs.Rules.{Sound}
use Rattle.format.specs.Check.{all_values, accepted, ids_after, values_after}
use Rattle.laws.proofs.Open.{sound}
use Rattle.laws.proofs.Editions.{lawful, lawful_reader}
use Rattle.laws.proofs.Halves.{halves_accepted, accepted_halves, values_decoded, kept}
use Rattle.judge.proofs.LowFirst.{judge_complete, section_decoded}
use Rattle.id_reader.specs.Placed.{Accepted}
use Rattle.reader.specs.Answered.{Whole}

-- q are the pairs of the bytes that c was opened from
pub record Decoded (bytes : List ℕ) (c : Opened) (q : Pairs) : Type 0 where
  pub sound : Sound bytes c
  pub section : Accepted c.head.power (id_part bytes c)
  pub ids : ids_of (read_runs (length (id_part bytes c)) c.head.power (id_part bytes c)) ≡ q.ids
  pub ids_long : length q.ids ≡ c.head.count
  pub values : all_values c.head.count ((codec c.head.edition).value c.head.count c.head.fields (value_part bytes c)) ≡ some q.values
  pub values_long : length q.values ≡ c.head.count
  pub rules : (codec c.head.edition).fields_ok c.head.count c.head.fields (length (value_part bytes c)) ≡ true

module _ (bytes : List ℕ) (c : Opened) (u : Below 256 bytes) (w : Whole bytes c) where
  abbrev q : Pairs
  q = w.pairs

  abbrev h : Head
  h = c.head

  pub decoded : Decoded bytes c q
  decoded =
      let both = accepted_halves editions (lawful_reader editions) bytes c u w.opens q w.taken in
      let i = both.0 in
      let v = both.1 in
      let again = halves_accepted editions (lawful_reader editions) bytes c u w.opens i v in
      let same : ◌≡◌ {A = Pairs} (record { ids = i.ids; values = v.values }) q = let t = w.taken in cc in
      let s : Sound bytes c = sound editions bytes c w.opens in
      let p : Power h.power = s.facts.power in
      record {
        sound = s;
        section = record { entries = h.jump_count; count = h.count; judged = judge_complete h.power p h.jump_count (id_part bytes c) h.count i };
        ids = section_decoded h.power p h.jump_count (id_part bytes c) h.count i ∙ ap (λ (x : Pairs). x.ids) same;
        ids_long = ap (λ (x : Pairs). length x.ids) (sym same) ∙ i.count;
        values =
            values_decoded (codec h.edition) (lawful h.edition) h.count h.fields (value_part bytes c) s.facts.count v
            ∙ ap {B = Option (List ℤ)} (λ (x : Pairs). some x.values) same;
        values_long = ap (λ (x : Pairs). length x.values) (sym same) ∙ v.count;
        rules = (kept editions bytes c u w.opens).rules;
      }

  -- ---- the part that holds the ids

  pub id_slice : (start end : ℕ) → start ≡ c.start → end ≡ c.start + h.id_bytes → take (end - start) (drop start bytes) ≡ id_part bytes c
  unfolding id_part
  id_slice start end a b =
      let n : end - start ≡ h.id_bytes = omega arith in
      ap₂ (λ (x y : ℕ). take x (drop y bytes)) n a

  module _ (s : List ℕ) (p : ℕ) (es : s ≡ id_part bytes c) (ep : p ≡ h.power) where
    ids_there : ids_of (read_runs (length s) p s) ≡ q.ids
    ids_there = ap₂ (λ (x : List ℕ) (y : ℕ). ids_of (read_runs (length x) y x)) es ep ∙ decoded.ids

    pub ids_asked : (m : ℕ) → h.count ≤ m → Power p × Accepted p s × (length (ids_of (read_runs (length s) p s)) ≤ m)
    ids_asked m l = (
      subst Power (sym ep) decoded.sound.facts.power,
      subst (λ (x : List ℕ). Accepted p x) (sym es) (subst (λ (x : ℕ). Accepted x (id_part bytes c)) (sym ep) decoded.section),
      omega (arith, ap length ids_there, decoded.ids_long),
    )

    pub ids_given : (d : List ℕ) → ids_of (read_runs (length s) p s) ++ drop (length (ids_of (read_runs (length s) p s))) d ≡ ids_after (accepted bytes c) d
    unfolding ids_after
    ids_given d = rw w.taken (ap (λ (l : List ℕ). l ++ drop (length l) d) ids_there)

  -- ---- the part that holds the values

  pub value_slice : (start : ℕ) → start ≡ c.start + h.id_bytes → take (length bytes - start) (drop start bytes) ≡ value_part bytes c
  unfolding value_part
  value_slice start a =
      take_all (length bytes - start) (drop start bytes) (omega (arith, length-drop start bytes)) ∙ ap (λ (x : ℕ). drop x bytes) a

  module _ (s : List ℕ) (es : s ≡ value_part bytes c) where
    pub values_there : all_values h.count ((codec h.edition).value h.count h.fields s) ≡ some q.values
    values_there = ap (λ (x : List ℕ). all_values h.count ((codec h.edition).value h.count h.fields x)) es ∙ decoded.values

    pub values_asked : (codec h.edition).fields_ok h.count h.fields (length s) ≡ true
    values_asked = ap (λ (x : List ℕ). (codec h.edition).fields_ok h.count h.fields (length x)) es ∙ decoded.rules

  pub values_given : (d : List ℤ) → q.values ++ drop h.count d ≡ values_after (accepted bytes c) d
  unfolding values_after
  values_given d = rw w.taken (ap (λ (n : ℕ). q.values ++ drop n d) (sym decoded.values_long))
