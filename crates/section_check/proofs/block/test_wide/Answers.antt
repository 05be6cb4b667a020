-- `section_check::block::test_wide` meets its contract. Assumes nothing.
use Rattle.format.specs.Kit.{◌≡◌, sym, arith}
use Rattle.std.proofs.lemmas.Result.{err_from_is_err_and}
use Rattle.laws.proofs.Sizes.{block_total}
use Rattle.section_check.specs.Reasons.{head_then}
use Rattle.section_check.proofs.BlockTests.{places_more, words_whole}
use Rattle.section_check.proofs.Turns.{some_reason, head_sound, reason_head, reason_words}
use Rattle.section_check.proofs.block.test_wide.Goals as goal
use Rattle.section_check.proofs.block.test_wide.Goals.{In_ok-test_head}

-- the head has no fault
no_fault : (c : In_ok-test_head) → let a = c.args in head_then a.p a.s.now a.at a.next a.k a.c 0 ≡ 0
no_fault c = sym c.in_ok-test_head.ensures

pub returns-in_err-test_head : goal.returns-in_err-test_head
returns-in_err-test_head c =
    let a = c.args in
    let p = err_from_is_err_and c.from_residual.result c.from_residual.ensures.1 in
    λ o. rw (p.1, p.2) (reason_head a.p a.s.now a.at a.next a.k a.c o _ c.in_err-test_head.ensures (some_reason _))

pub returns-then-c-ge-PLACES : goal.returns-then-c-ge-PLACES
returns-then-c-ge-PLACES c =
    let a = c.args in
    λ o. reason_words a.p a.s.now a.at a.next a.k a.c o (no_fault (goal.at.returns-then-c-ge-PLACES c).In_ok-test_head) 0 (places_more _ _ _ _ (omega arith))
    (words_whole a.p a.s.now _ a.c (omega arith))

pub test_words-requires : goal.test_words-requires
test_words-requires c =
    let a = c.args in
    let w = head_sound a.p a.s.now a.at a.next a.k a.c 0 (no_fault (goal.at.test_words-requires c).In_ok-test_head) in
    (c.requires.0, omega arith, omega arith, omega (arith, w.fits, block_total a.p a.c))

pub returns : goal.returns
returns c =
    let a = c.args in
    λ o. reason_words a.p a.s.now a.at a.next a.k a.c o (no_fault (goal.at.returns c).In_ok-test_head) _ (places_more _ _ _ _ (omega arith))
    c.test_words.ensures
