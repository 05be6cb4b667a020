-- `plans::same_members` meets its contract: after each value's mark, every entry has one exactly if it is some value. Assumes nothing.
use Rattle.format.specs.Kit.{◌≡◌, sym, ◌∙◌, subst, true, false, List, map, ℕ, length, replicate}
use Rattle.format.specs.Table.{code_in, all_in}
use Rattle.laws.proofs.Cases.{true_or, false_true}
use Rattle.tables.specs.Marks.{marked, AllMarked}
use Rattle.tables.proofs.Marks.{marks_one, one_marks, codes_used, used_codes}
use Rattle.plans.proofs.same_members.Goals as goal
use Rattle.plans.proofs.same_members.Goals.{After-marks-3-1}

pub returns-then-not-mark : goal.returns-then-not-mark
returns-then-not-mark c =
    let m = c.mark in
    let no_value : all_in c.args.table.now c.args.values.now ≡ false = sym m.ensures.0 ∙ c.if-not-mark.true in
    ((λ e. false_true e), (λ e a. false_true (sym no_value ∙ a)))

-- each value is there, and the marks are theirs
found : (c : After-marks-3-1) → (all_in c.args.table.now c.args.values.now ≡ true)
    × (c.mark.new.marks ≡ marked (replicate 256 0) (map (code_in c.args.table.now) c.args.values.now))
found c =
    let m = c.mark in
    let e : m.result ≡ true = c.if-not-mark.false in
    (sym m.ensures.0 ∙ e, m.ensures.1 e)

pub returns : goal.returns
returns c =
    let us = c.args.table.now in
    let vs = c.args.values.now in
    let f = found (goal.at.returns c).After-marks-3-1 in
    let t : ℕ = length us in (
      (λ e. (
        f.0,
        codes_used us vs c.requires.0 f.0
            (marks_one 256 t c.requires.1 (map (code_in us) vs) (subst (λ (l : List ℕ). AllMarked l t) f.1 (c.all_marked.ensures.0 e))),
      )),
      (λ e a.
          true_or (all_in vs us)
          (λ u.
          absurd (c.all_marked.ensures.1 e
          (subst (λ (l : List ℕ). AllMarked l t) (sym f.1) (one_marks 256 t c.requires.1 (map (code_in us) vs) (used_codes us vs c.requires.0 f.0 u)))))
          (λ u. u)),
    )
