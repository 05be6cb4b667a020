-- `section_check::block::test_sparse` meets its contract. Assumes nothing.
use Rattle.format.specs.Kit.{◌≡◌, sym, ◌∙◌, arith}
use Rattle.std.proofs.lemmas.Result.{err_from_is_err_and}
use Rattle.answers.specs.Replies.{order_of}
use Rattle.laws.proofs.Sizes.{block_total, data_sparse}
use Rattle.section_check.specs.Reasons.{head_then}
use Rattle.section_check.proofs.BlockTests.{places_sparse, words_sparse}
use Rattle.section_check.proofs.Turns.{some_reason, head_sound, reason_head, reason_places, reason_words}
use Rattle.section_check.proofs.block.test_sparse.Goals as goal
use Rattle.section_check.proofs.block.test_sparse.Goals.{In_ok-test_head}

-- the head has no fault
no_fault : (c : In_ok-test_head) → let a = c.args in head_then a.p a.s.now a.at a.next a.k a.c 0 ≡ 0
no_fault c = sym c.in_ok-test_head.ensures

pub returns-in_err-test_head : goal.returns-in_err-test_head
returns-in_err-test_head c =
    let a = c.args in
    let p = err_from_is_err_and c.from_residual.result c.from_residual.ensures.1 in
    rw (p.1, p.2) (reason_head a.p a.s.now a.at a.next a.k a.c (order_of a.order) _ c.in_err-test_head.ensures (some_reason _))

pub ascending-requires : goal.ascending-requires
ascending-requires c =
    let a = c.args in
    let w = head_sound a.p a.s.now a.at a.next a.k a.c 0 (no_fault c) in
    omega (arith, w.fits, block_total a.p a.c, data_sparse a.p a.c (omega arith))

pub returns-then-not-ascending : goal.returns-then-not-ascending
returns-then-not-ascending c =
    let a = c.args in
    reason_places a.p a.s.now a.at a.next a.k a.c (order_of a.order) (no_fault (goal.at.returns-then-not-ascending c).In_ok-test_head)
    (places_sparse _ _ _ _ (omega arith) ∙ sym c.ascending.ensures ∙ c.if-not-ascending.true)

pub returns : goal.returns
returns c =
    let a = c.args in
    reason_words a.p a.s.now a.at a.next a.k a.c (order_of a.order) (no_fault (goal.at.returns c).In_ok-test_head) 0
    (places_sparse _ _ _ _ (omega arith) ∙ sym c.ascending.ensures ∙ c.if-not-ascending.false)
    (words_sparse a.p a.s.now _ a.c (omega arith))
