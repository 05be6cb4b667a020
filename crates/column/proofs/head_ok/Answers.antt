-- `column::head_ok` meets its contract: one broken rule decides, and so do all that hold. Assumes nothing.
use Rattle.format.specs.Kit.{sym, ◌∙◌, and-false, ◌+◌, ◌*◌, le-leb, lt-leb}
use Rattle.format.specs.Limits.{max_count, max_jumps}
use Rattle.format.specs.Opening.{head_ok}
use Rattle.laws.proofs.Editions.{wide}
use Rattle.values.specs.Edition.{edition_of, fields_of}
use Rattle.column.proofs.head_ok.Goals as goal

pub returns-then-h-gt-MAX_COUNT : goal.returns-then-h-gt-MAX_COUNT
unfolding head_ok
returns-then-h-gt-MAX_COUNT c = rw (lt-leb _ max_count c.if-h-gt-MAX_COUNT.true)

pub returns-then-not-power_ok : goal.returns-then-not-power_ok
unfolding head_ok
returns-then-not-power_ok c = rw (sym c.power_ok.ensures ∙ c.if-not-power_ok.true, and-false)

pub returns-then-h-gt-MAX_JUMPS : goal.returns-then-h-gt-MAX_JUMPS
unfolding head_ok
returns-then-h-gt-MAX_JUMPS c = rw (lt-leb _ max_jumps c.if-h-gt-MAX_JUMPS.true, and-false)

pub returns-then-h : goal.returns-then-h
unfolding head_ok
returns-then-h c = rw (lt-leb _ _ c.if-h.true, and-false)

pub returns-then-fields-gt-MAX_WIDTH : goal.returns-then-fields-gt-MAX_WIDTH
unfolding head_ok
returns-then-fields-gt-MAX_WIDTH c =
    let h = c.args.h in
    rw (wide (edition_of h.edition) h.count (fields_of h.fields) h.value_bytes c.if-fields-gt-MAX_WIDTH.true, and-false)

pub returns : goal.returns
unfolding head_ok
returns c =
    let h = c.args.h in
    rw (
      le-leb h.count max_count c.if-h-gt-MAX_COUNT.false,
      sym c.power_ok.ensures ∙ c.if-not-power_ok.false,
      le-leb h.jump_count max_jumps c.if-h-gt-MAX_JUMPS.false,
      le-leb (6 + 8 * h.jump_count) h.id_bytes c.if-h.false,
    )
    c.rules.ensures
