-- `section_check::block::test_words` meets its contract. Assumes nothing.
use Rattle.format.specs.Kit.{◌≡◌, sym, ◌∙◌, arith, eq-eqb, ne_eqb, cond, eqb}
use Rattle.format.specs.Judge.{ones_unlike, rank_wrong}
use Rattle.laws.proofs.Sizes.{data_dense}
use Rattle.section_check.specs.Reasons.{words_reason}
use Rattle.section_check.proofs.BlockTests.{words_dense}
use Rattle.section_check.proofs.block.test_words.Goals as goal
use Rattle.section_check.proofs.block.test_words.Goals.{After-count_words-ones}

-- what was counted in a dense block's longs gives its reason
counted : (c : After-count_words-ones)
    → let a = c.args in
    let w = c.count_words-ones.result in cond (eqb w.ones a.c) (cond w.right 0 rank_wrong) ones_unlike ≡ words_reason a.p a.s.now a.t a.c
counted c =
    let a = c.args in
    words_dense a.p a.s.now a.t a.c (omega arith) (omega arith) _ _ c.count_words-ones.ensures.0 c.count_words-ones.ensures.1

pub count_words-ones-requires : goal.count_words-ones-requires
count_words-ones-requires c =
    let a = c.args in
    (c.requires.0, omega (arith, c.requires.3, data_dense a.p a.c (omega arith) (omega arith)))

pub returns-then-not-right : goal.returns-then-not-right
returns-then-not-right c =
    let e = sym c.size.ensures ∙ c.if-size-c.false in
    rw (eq-eqb _ _ e, c.if-not-right.true) at (counted (goal.at.returns-then-not-right c).After-count_words-ones)

pub returns : goal.returns
returns c =
    let e = sym c.size.ensures ∙ c.if-size-c.false in
    rw (eq-eqb _ _ e, c.if-not-right.false) at (counted (goal.at.returns c).After-count_words-ones)

pub returns-then-size-c : goal.returns-then-size-c
returns-then-size-c c = rw (ne_eqb _ _ (λ e. c.if-size-c.true (c.size.ensures ∙ e))) at (counted (goal.at.returns-then-size-c c).After-count_words-ones)
