-- `plans::plan` meets its contract: the values' own table where it has 2 to 256 entries and saves bytes, else plain. Assumes nothing.
use Rattle.format.specs.Kit.{◌≡◌, sym, ap, ap₂, ◌∙◌, subst, List, ℕ, ◌++◌, arith, ℤ, length, take, drop, length-take-le}
use Rattle.format.specs.Pairs.{Each, Fits}
use Rattle.table_values.specs.Saves.{saves}
use Rattle.plans.proofs.Checked.{too_long, few_values, many_values, no_saving, own_plan, kept_plain}
use Rattle.plans.proofs.plan.Goals as goal
use Rattle.plans.proofs.plan.Goals.{Else-t-gt-MAX_ENTRIES}

pub returns-then-values : goal.returns-then-values
returns-then-values c = let a = c.args in kept_plain _ a.out.now (too_long a.values.now c.if-values.true)

pub returns-then-t-lt-MIN_ENTRIES : goal.returns-then-t-lt-MIN_ENTRIES
returns-then-t-lt-MIN_ENTRIES c =
    let a = c.args in
    kept_plain _ a.out.now
    (few_values a.values.now c.if-values.false c.distinct-t.result c.distinct-t.new.table c.distinct-t.ensures c.if-t-lt-MIN_ENTRIES.true)

pub returns-then-t-gt-MAX_ENTRIES : goal.returns-then-t-gt-MAX_ENTRIES
returns-then-t-gt-MAX_ENTRIES c =
    let a = c.args in
    kept_plain _ a.out.now
    (many_values a.values.now c.if-values.false c.distinct-t.result c.distinct-t.new.table c.distinct-t.ensures c.if-t-gt-MAX_ENTRIES.true)

-- as many entries as were counted
counted : (c : Else-t-gt-MAX_ENTRIES) → length (take c.distinct-t.result c.distinct-t.new.table) ≡ c.distinct-t.result
counted c =
    length-take-le c.distinct-t.result c.distinct-t.new.table (omega (arith, c.distinct-t.ensures.size, c.if-t-gt-MAX_ENTRIES.false))

pub returns-then-not-saves : goal.returns-then-not-saves
returns-then-not-saves c =
    let a = c.args in
    kept_plain _ a.out.now
    (no_saving a.values.now c.if-values.false c.distinct-t.result c.distinct-t.new.table c.distinct-t.ensures c.if-t-lt-MIN_ENTRIES.false
    c.if-t-gt-MAX_ENTRIES.false
    (sym (c.saves.ensures.0 ∙ ap (saves _) c.long.ensures) ∙ c.if-not-saves.true))

pub returns : goal.returns
returns c =
    let a = c.args in
    let own = own_plan a.values.now c.if-values.false c.distinct-t.result c.distinct-t.new.table c.distinct-t.ensures
    c.if-t-lt-MIN_ENTRIES.false c.if-t-gt-MAX_ENTRIES.false
    (sym (c.saves.ensures.0 ∙ ap (saves _) c.long.ensures) ∙ c.if-not-saves.false) in
    let n = sym (ap length own ∙ counted (goal.at.returns c).Else-t-gt-MAX_ENTRIES) in (
      n,
      c.if-t-gt-MAX_ENTRIES.false,
      subst (Each Fits) (sym own) c.saves.ensures.1,
      ap₂ (λ (l : List ℤ) (k : ℕ). l ++ drop k a.out.now) (c.copy_from_slice.ensures.after ∙ sym own) n,
    )

pub slice_bounds-saves-end : goal.slice_bounds-saves-end
slice_bounds-saves-end c = sym (counted (goal.at.slice_bounds-saves-end c).Else-t-gt-MAX_ENTRIES)

pub saves-requires : goal.saves-requires
saves-requires c = let n = counted (goal.at.saves-requires c).Else-t-gt-MAX_ENTRIES in (
  omega (arith, n, c.if-t-lt-MIN_ENTRIES.false),
  omega (arith, n, c.if-t-gt-MAX_ENTRIES.false),
  omega (arith, c.long.ensures, c.if-values.false),
)
