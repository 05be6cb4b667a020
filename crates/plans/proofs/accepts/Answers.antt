-- `plans::accepts` meets its contract, test by test. Assumes nothing.
use Rattle.format.specs.Kit.{◌≡◌, sym, ap, ◌∙◌, List, [], ◌∷◌, arith, ℤ, length}
use Rattle.format.specs.Pairs.{Each, Fits}
use Rattle.laws.proofs.Cases.{false_true}
use Rattle.table_values.specs.Saves.{saves}
use Rattle.plans.proofs.Checked.{plain_taken, few_entries, many_entries, not_ascending, other_members, all_asked}
use Rattle.plans.proofs.accepts.Goals as goal

-- no entry
none_fit : (us : List ℤ) → length us ≡ 0 → Each Fits us
none_fit [] e = tt
none_fit (u ∷ us) e = absurd (omega arith)

pub returns-then-t-eq0 : goal.returns-then-t-eq0
returns-then-t-eq0 c = (plain_taken _ _ c.if-t-eq0.true, λ t. none_fit c.args.table.now c.if-t-eq0.true)

pub returns-then-t-lt-MIN_ENTRIES : goal.returns-then-t-lt-MIN_ENTRIES
returns-then-t-lt-MIN_ENTRIES c = (few_entries _ _ c.if-t-eq0.false c.if-t-lt-MIN_ENTRIES.true, λ t. false_true t)

pub returns-then-t-gt-MAX_ENTRIES : goal.returns-then-t-gt-MAX_ENTRIES
returns-then-t-gt-MAX_ENTRIES c = (many_entries _ _ c.if-t-eq0.false c.if-t-gt-MAX_ENTRIES.true, λ t. false_true t)

pub returns-then-not-ascending : goal.returns-then-not-ascending
returns-then-not-ascending c = (
  not_ascending _ _ c.if-t-eq0.false (sym c.ascending.ensures ∙ c.if-not-ascending.true),
  λ t. false_true t,
)

pub returns-then-not-same_members : goal.returns-then-not-same_members
returns-then-not-same_members c = (
  other_members _ _ c.if-t-eq0.false
      (c.same_members.ensures.1 c.if-not-same_members.true),
  λ t. false_true t,
)

pub returns : goal.returns
returns c =
    let same = c.same_members.ensures.0 c.if-not-same_members.false in (
      c.saves.ensures.0 ∙ ap (saves c.args.table.now) c.long.ensures
          ∙ all_asked c.args.table.now c.args.values.now c.if-t-eq0.false c.if-t-lt-MIN_ENTRIES.false c.if-t-gt-MAX_ENTRIES.false
          (sym c.ascending.ensures ∙ c.if-not-ascending.false) same.0 same.1,
      λ t. c.saves.ensures.1,
    )

pub same_members-requires : goal.same_members-requires
same_members-requires c = (sym c.ascending.ensures ∙ c.if-not-ascending.false, c.if-t-gt-MAX_ENTRIES.false)

pub saves-requires : goal.saves-requires
saves-requires c = (omega (arith, c.if-t-lt-MIN_ENTRIES.false), c.if-t-gt-MAX_ENTRIES.false, omega (arith, c.long.ensures, c.requires))
