-- `pair_at::pair_at_in` meets its contract. Assumes nothing.
use Rattle.format.specs.Kit.{◌≡◌, sym, ◌∙◌, true}
use Rattle.format.specs.Opening.{head_ok, length_ok}
use Rattle.column.specs.Opened.{column_of}
use Rattle.laws.proofs.PairAt.{pair_header, pair_length, pair_steps_lem}
use Rattle.pair_at.proofs.pair_at_in.Goals as goal
use Rattle.pair_at.proofs.pair_at_in.Goals.{Else-not-head_ok, Else-not-length_ok}

the_rules : (c : Else-not-head_ok) → head_ok (column_of c.args.column).head ≡ true
the_rules c = sym c.head_ok.ensures ∙ c.if-not-head_ok.false

whole : (c : Else-not-length_ok) → let a = c.args in length_ok a.bytes.now (column_of a.column) ≡ true
whole c = sym c.length_ok.ensures ∙ c.if-not-length_ok.false

pub returns-then-not-head_ok : goal.returns-then-not-head_ok
returns-then-not-head_ok c = let a = c.args in
    sym (pair_header a.bytes.now (column_of a.column) a.ordinal (sym c.head_ok.ensures ∙ c.if-not-head_ok.true))

pub returns-then-not-length_ok : goal.returns-then-not-length_ok
returns-then-not-length_ok c = let a = c.args in
    sym (pair_length a.bytes.now (column_of a.column) a.ordinal (the_rules (goal.at.returns-then-not-length_ok c).Else-not-head_ok) (sym c.length_ok.ensures
    ∙ c.if-not-length_ok.true))

pub steps_at-requires : goal.steps_at-requires
steps_at-requires c = (the_rules (goal.at.steps_at-requires c).Else-not-head_ok, whole c)

pub returns : goal.returns
returns c = let a = c.args in
    c.steps_at.ensures ∙ sym (pair_steps_lem a.bytes.now (column_of a.column) a.ordinal (the_rules (goal.at.returns c).Else-not-head_ok) (whole (goal.at.returns c).Else-not-length_ok))
