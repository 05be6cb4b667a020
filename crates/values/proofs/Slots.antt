-- Where the number of an ordinal stands, by edition. Assumes nothing.
use Rattle.format.specs.Kit.{◌≡◌, refl, sym, ap, ◌∙◌, subst, true, List, ℕ, ◌*◌, ◌/◌, ◌%◌, ◌^◌, ◌≤◌, ◌<◌, arith, length, drop, length-drop}
use Rattle.format.specs.Limits.{max_count}
use Rattle.format.specs.Codec.{Codec, Fields, scaled}
use Rattle.format.specs.ValueRuns.{run_length, directory_length, summary_at, in_run}
use Rattle.format.specs.Table.{table_value}
use Rattle.format.specs.Editions.{Edition, plain, lucene, runs, table, codec}
use Rattle.laws.proofs.Table.{TableRules}
use Rattle.laws.proofs.Editions.{runs_value}
use Rattle.packings.specs.declared.Order as Od
use Rattle.packings.specs.Packings.{packing_of}
use Rattle.scaled_values.specs.Slots.{whole_slot, Stands, slot_number, slot_value}
use Rattle.scaled_values.proofs.Facts.{rules_kept}
use Rattle.scaled_values.proofs.WholeSlot.{whole_stands, whole_value}
use Rattle.run_values.specs.Summaries.{SlotIs}
use Rattle.run_values.proofs.Reached as Runs
use Rattle.table_values.specs.Codes.{code_slot, code_value}
use Rattle.table_values.proofs.Facts.{rules_are, value_is, narrow, table_within, code_within, high_width, high_fetch}
use Rattle.values.specs.Edition.{order_of, Readable, stored_value, SlotOf}
use Rattle.std.specs.declared.option.Option as Op
use Rattle.scaled_values.specs.declared.slots.Slot.{Slot}

-- an edition whose values have one smallest value, divisor and width
pub record Whole (ed : Edition) : Type 0 where
  pub scales : codec ed ≡ scaled (packing_of (order_of ed))
  pub readable : (f : Fields) (v : ℕ) → 0 < f.divisor → Readable ed f v
  pub read : (f : Fields) (s : List ℕ) (x : Op.Option Slot) (k : ℕ) → slot_value f.divisor x k ≡ stored_value ed f s x k

pub plain_whole : Whole plain
unfolding codec
plain_whole = record { scales = refl; readable = λ f v h. h; read = λ f s x k. refl }

pub lucene_whole : Whole lucene
unfolding codec
lucene_whole = record { scales = refl; readable = λ f v h. h; read = λ f s x k. refl }

pub table_rules : (ed : Edition) → ed ≡ table → (n : ℕ) (f : Fields) (v : ℕ) → (codec ed).fields_ok n f v ≡ true → TableRules n f v
table_rules ed e n f v k = rules_are n f v (subst (λ (d : Edition). (codec d).fields_ok n f v ≡ true) e k)

module _ (ed : Edition) (n : ℕ) (f : Fields) (s : List ℕ) (i : ℕ) (r : Op.Option Slot) where
  pub slot_whole : Whole ed → n ≤ max_count → f.smallest < 2 ^ 64 → (codec ed).fields_ok n f (length s) ≡ true → i < n → r ≡ whole_slot f.width f.smallest i
      → SlotOf ed n f s i r
  slot_whole e h b k l z =
      let o = order_of ed in
      let t = rules_kept o n f (length s) (subst (λ (c : Codec). c.fields_ok n f (length s) ≡ true) e.scales k) in
      subst (λ (y : Op.Option Slot). SlotOf ed n f s i y) (sym z) (
        whole_stands o n f s i t h l,
        e.readable f (length s) t.positive,
        ap (λ (c : Codec). c.value n f s i) e.scales ∙ whole_value o n f s i b ∙ e.read f s _ _,
      )

  pub slot_in_runs : ed ≡ runs → (codec ed).fields_ok n f (length s) ≡ true
      → SlotIs s r (λ (g : ℕ). in_run g (drop (directory_length n) s) (summary_at s (i / run_length)) (i % run_length)) → SlotOf ed n f s i r
  slot_in_runs e k x =
      let t = Runs.rules_kept n f (length s) (subst (λ (d : Edition). (codec d).fields_ok n f (length s) ≡ true) e k) in
      subst (λ (d : Edition). SlotOf d n f s i r) (sym e) (x.0, t.positive, runs_value n f s i ∙ sym (x.1 f.divisor))

  pub slot_by_table : ed ≡ table → n ≤ max_count → (codec ed).fields_ok n f (length s) ≡ true → i < n → r ≡ code_slot f.width f.divisor i
      → SlotOf ed n f s i r
  unfolding table_value
  slot_by_table e h k l z =
      let t = table_rules ed e n f (length s) k in
      let x = code_slot f.width f.divisor i in
      let stands : Stands Od.Order.High s x = (
        high_width f.width (omega (arith, narrow s t)),
        omega arith,
        table_within s t,
        omega (arith, code_within s t i l, length-drop (8 * f.divisor) s),
      ) in
      let same : table_value f.divisor f.width s i ≡ code_value f.divisor s (slot_number Od.Order.High s x) =
      ap (code_value f.divisor s) (sym (high_fetch (drop (8 * f.divisor) s) f.width i)) in
      subst (λ (d : Edition). SlotOf d n f s i r) (sym e)
      (subst (λ (y : Op.Option Slot). SlotOf table n f s i y) (sym z) (stands, table_within s t, value_is n f s i ∙ same))
