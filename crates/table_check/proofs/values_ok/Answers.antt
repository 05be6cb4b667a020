-- `table_check::values_ok` meets its contract, test by test. Assumes nothing.
use Rattle.format.specs.Kit.{◌≡◌, sym, ap, ◌∙◌, List, ℕ, ◌-◌, ◌*◌, ◌≤◌, arith, ℤ, length, take, drop, take_at, length-drop, and-false}
use Rattle.format.specs.Bits.{packed_bytes}
use Rattle.format.specs.Table.{ascends}
use Rattle.answers.specs.Replies.{fields_of}
use Rattle.laws.proofs.Table.{TableRules}
use Rattle.table_values.specs.Saves.{saves}
use Rattle.table_values.proofs.Facts.{rules_are, narrow, rest_is}
use Rattle.table_check.specs.ValuesOk.{entries_from, codes_ok, values_ok}
use Rattle.table_check.proofs.Entries.{length_entries}
use Rattle.table_check.proofs.values_ok.Goals as goal
use Rattle.table_check.proofs.values_ok.Goals.{After-ascending, After-read_table, After-saves, After-size-t, Start}

the_rules : (s : Start) → TableRules s.args.n (fields_of s.args.fields) (length s.args.section.now)
the_rules s = rules_are _ _ _ s.requires.1

-- what was read are the section's entries
entries : (c : After-read_table) → let a = c.args in
    take c.size-t.result c.read_table.new.table ≡ entries_from 0 a.fields.divisor a.section.now
entries c =
    let a = c.args in
    let es : List ℤ = entries_from 0 c.size-t.result a.section.now in
    ap (take c.size-t.result) c.read_table.ensures ∙ take_at es _ c.size-t.result (length_entries 0 c.size-t.result a.section.now)
    ∙ ap (λ (k : ℕ). entries_from 0 k a.section.now) c.size-t.ensures

counted : (c : After-read_table) → length (take c.size-t.result c.read_table.new.table) ≡ c.size-t.result
counted c =
    let a = c.args in
    ap length (entries c) ∙ length_entries 0 a.fields.divisor a.section.now ∙ sym c.size-t.ensures

-- 2 to 256 of them
least : (c : After-read_table) → 2 ≤ c.size-t.result
least c = omega (arith, c.size-t.ensures, (the_rules (goal.at.After-read_table c).Start).least)

most : (c : After-size-t) → c.size-t.result ≤ 256
most c = omega (arith, c.size-t.ensures, (the_rules (goal.at.After-size-t c).Start).most)

within : (c : After-size-t) → 8 * c.size-t.result ≤ length c.args.section.now
within c = omega (arith, c.size-t.ensures, (the_rules (goal.at.After-size-t c).Start).bytes)

-- the first two tests, in the section's words
ascends_is : (c : After-ascending) → let a = c.args in
    c.ascending.result ≡ ascends (entries_from 0 a.fields.divisor a.section.now)
ascends_is c = c.ascending.ensures ∙ ap ascends (entries (goal.at.After-ascending c).After-read_table)

saves_is : (c : After-saves) → let a = c.args in
    c.saves.result ≡ saves (entries_from 0 a.fields.divisor a.section.now) a.n
saves_is c =
    let a = c.args in
    c.saves.ensures.0 ∙ ap (λ (l : List ℤ). saves l a.n) (entries (goal.at.After-saves c).After-read_table)

pub returns-then-not-ascending : goal.returns-then-not-ascending
unfolding values_ok
returns-then-not-ascending c =
    sym (rw (sym (ascends_is (goal.at.returns-then-not-ascending c).After-ascending) ∙ c.if-not-ascending.true))

pub returns-then-not-saves : goal.returns-then-not-saves
unfolding values_ok
returns-then-not-saves c =
    sym (rw (sym (saves_is (goal.at.returns-then-not-saves c).After-saves) ∙ c.if-not-saves.true, and-false))

pub codes_ok-requires : goal.codes_ok-requires
codes_ok-requires c =
    let sec = c.args.section.now in
    let r = the_rules (goal.at.codes_ok-requires c).Start in
    let rest = ap length (rest_is sec (8 * c.size-t.result)) ∙ length-drop (8 * c.size-t.result) sec in
    let bytes = ap (λ (k : ℕ). packed_bytes c.args.n k) r.width_is in (
      omega (arith, c.size-w.ensures, narrow sec r),
      omega (arith, c.size.ensures, c.requires.0),
      rw (c.size.ensures, c.size-w.ensures) (omega (arith, rest, c.size-t.ensures, r.bytes, bytes)),
      most (goal.at.codes_ok-requires c).After-size-t,
    )

pub returns : goal.returns
unfolding values_ok
returns c =
    let a = c.args in
    let sec = a.section.now in
    let rest : List ℕ = take (length sec - 8 * c.size-t.result) (drop (8 * c.size-t.result) sec) in
    let codes = c.codes_ok.ensures
    ∙ ap (λ (n : ℕ). codes_ok n c.size-w.result c.size-t.result rest) c.size.ensures
    ∙ ap (λ (x : ℕ). codes_ok a.n x c.size-t.result rest) c.size-w.ensures
    ∙ ap (codes_ok a.n a.fields.width c.size-t.result) (rest_is sec (8 * c.size-t.result))
    ∙ ap (λ (t : ℕ). codes_ok a.n a.fields.width t (drop (8 * t) sec)) c.size-t.ensures in
    codes
    ∙ sym (rw (sym (ascends_is (goal.at.returns c).After-ascending) ∙ c.if-not-ascending.false, sym (saves_is (goal.at.returns c).After-saves) ∙ c.if-not-saves.false))

pub read_table-requires : goal.read_table-requires
read_table-requires c = (most (goal.at.read_table-requires c).After-size-t, within (goal.at.read_table-requires c).After-size-t)

pub slice_bounds-table-end : goal.slice_bounds-table-end
slice_bounds-table-end c = omega (arith, most (goal.at.slice_bounds-table-end c).After-size-t, c.read_table.auto.table)

pub slice_bounds-ascending-end : goal.slice_bounds-ascending-end
slice_bounds-ascending-end c = sym (counted (goal.at.slice_bounds-ascending-end c).After-read_table)

pub ascending-requires : goal.ascending-requires
ascending-requires c = omega (arith, counted (goal.at.ascending-requires c).After-read_table, least (goal.at.ascending-requires c).After-read_table)

pub slice_bounds-table-end-2 : goal.slice_bounds-table-end-2
slice_bounds-table-end-2 c = omega (arith, most (goal.at.slice_bounds-table-end-2 c).After-size-t, c.read_table.auto.table)

pub slice_bounds-saves-end : goal.slice_bounds-saves-end
slice_bounds-saves-end c = sym (counted (goal.at.slice_bounds-saves-end c).After-read_table)

pub saves-requires : goal.saves-requires
saves-requires c = let n = counted (goal.at.saves-requires c).After-read_table in
    (omega (arith, n, least (goal.at.saves-requires c).After-read_table), omega (arith, n, most (goal.at.saves-requires c).After-size-t), c.requires.0)

pub overflow_mul-start : goal.overflow_mul-start
overflow_mul-start c = omega (arith, most (goal.at.overflow_mul-start c).After-size-t)

pub slice_bounds-codes_ok-count : goal.slice_bounds-codes_ok-count
slice_bounds-codes_ok-count c = within (goal.at.slice_bounds-codes_ok-count c).After-size-t

pub slice_bounds-codes_ok-start : goal.slice_bounds-codes_ok-start
slice_bounds-codes_ok-start c = omega (arith, within (goal.at.slice_bounds-codes_ok-start c).After-size-t)
