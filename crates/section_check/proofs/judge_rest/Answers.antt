-- `section_check::judge_rest` meets its contract. Assumes nothing.
use Rattle.format.specs.Kit.{◌≡◌, sym, ap, ◌∙◌, ℕ, ◌+◌, ◌<◌, arith, length, get_or, []}
use Rattle.std.proofs.lemmas.Result.{err_from_is_err_and}
use Rattle.format.specs.Ids.{not_two}
use Rattle.format.specs.Judge.{jumps_in}
use Rattle.answers.specs.Replies.{order_of}
use Rattle.section_check.specs.Reasons.{stand_is}
use Rattle.section_check.proofs.Trail.{Past, past}
use Rattle.section_check.proofs.Left.{two, not_two_lem, no_entries, rest_count, rest_wrong, rest_over, rest_right}
use Rattle.section_check.proofs.judge_rest.Goals as goal
use Rattle.section_check.proofs.judge_rest.Goals.{Start, After-size-n, Else-j-n, Else-n-eq2, Then-n-eq2}

-- what the blocks left
blocks : (c : Start) → ((i : ℕ) → get_or c.args.s.now i 0 < 256)
    → let a = c.args in Past (order_of a.order) a.p a.s.now (stand_is a.end)
blocks c u = past _ _ c.requires.0 _ u _ c.requires.1

-- one entry for each block number to the last, and one for the end
many : (c : After-size-n) → let a = c.args in length (jumps_in (order_of a.order) a.p a.s.now) ≡ c.size-n.result + 1
many c = (blocks (goal.at.After-size-n c).Start (λ i. (c.type_inv.s i).fits)).long ∙ ap (λ n. n + 1) (sym c.size-n.ensures)

-- two: none are written; more or fewer: all are
none : (c : Then-n-eq2) → let a = c.args in not_two (jumps_in (order_of a.order) a.p a.s.now) ≡ []
none c = two _ (many (goal.at.Then-n-eq2 c).After-size-n ∙ c.if-n-eq2.true)

all : (c : Else-n-eq2)
    → let a = c.args in let es = jumps_in (order_of a.order) a.p a.s.now in not_two es ≡ es
all c = not_two_lem _ (λ e. c.if-n-eq2.false (sym (many (goal.at.Else-n-eq2 c).After-size-n) ∙ e))

named : (c : Else-j-n) → let a = c.args in a.j ≡ length (jumps_in (order_of a.order) a.p a.s.now)
named c = c.if-j-n.false ∙ sym (many (goal.at.Else-j-n c).After-size-n)

pub returns-in_err-after : goal.returns-in_err-after
returns-in_err-after c =
    let p = err_from_is_err_and c.from_residual.result c.from_residual.ensures.1 in
    rw (p.1, p.2) (rest_wrong _ _ _ (all (goal.at.returns-in_err-after c).Else-n-eq2) _ _ _ (named (goal.at.returns-in_err-after c).Else-j-n) _ _ c.in_err-after.ensures)

pub returns-then-after-s : goal.returns-then-after-s
returns-then-after-s c = rest_over _ _ _ (all (goal.at.returns-then-after-s c).Else-n-eq2) _ _ _ (named (goal.at.returns-then-after-s c).Else-j-n) _ c.in_ok-after.ensures c.if-after-s.true

pub returns : goal.returns
returns c = rest_right _ _ _ (all (goal.at.returns c).Else-n-eq2) _ _ _ (named (goal.at.returns c).Else-j-n) _ c.in_ok-after.ensures c.if-after-s.false

pub overflow_add-base : goal.overflow_add-base
overflow_add-base c = omega (arith, (blocks (goal.at.overflow_add-base c).Start (λ i. (c.type_inv.s i).fits)).fits)

pub overflow_add-n : goal.overflow_add-n
overflow_add-n c = omega (arith, (blocks (goal.at.overflow_add-n c).Start (λ i. (c.type_inv.s i).fits)).most)

pub returns-then-j-ne0 : goal.returns-then-j-ne0
returns-then-j-ne0 c = rest_count _ _ _ (none (goal.at.returns-then-j-ne0 c).Then-n-eq2) _ _ _ c.if-j-ne0.true

pub returns-then-base-s : goal.returns-then-base-s
returns-then-base-s c = rest_over _ _ _ (none (goal.at.returns-then-base-s c).Then-n-eq2) _ _ _ c.if-j-ne0.false _ (no_entries _ _ _) c.if-base-s.true

pub returns-then-n-eq2 : goal.returns-then-n-eq2
returns-then-n-eq2 c = rest_right _ _ _ (none (goal.at.returns-then-n-eq2 c).Then-n-eq2) _ _ _ c.if-j-ne0.false _ (no_entries _ _ _) c.if-base-s.false

pub returns-then-j-n : goal.returns-then-j-n
returns-then-j-n c = rest_count _ _ _ (all (goal.at.returns-then-j-n c).Else-n-eq2) _ _ _ (λ e. c.if-j-n.true (e ∙ many (goal.at.returns-then-j-n c).After-size-n))
