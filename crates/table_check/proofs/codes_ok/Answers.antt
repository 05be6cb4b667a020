-- `table_check::codes_ok` meets its contract, test by test. Assumes nothing.
use Rattle.format.specs.Kit.{◌≡◌, sym, ◌∙◌, subst, true, List, ℕ, replicate, and-false}
use Rattle.format.specs.Bits.{unpacked}
use Rattle.laws.proofs.Cases.{true_or}
use Rattle.tables.specs.Marks.{marked, AllMarked}
use Rattle.tables.proofs.Marks.{marks_one, one_marks}
use Rattle.table_check.specs.ValuesOk.{used_all, codes_ok}
use Rattle.table_check.proofs.Codes.{used_each, each_used}
use Rattle.table_check.proofs.codes_ok.Goals as goal
use Rattle.table_check.proofs.codes_ok.Goals.{Else-not-spare_ok, Start}

pub returns-then-not-spare_ok : goal.returns-then-not-spare_ok
unfolding codes_ok
returns-then-not-spare_ok c =
    let k = c.spare_ok in
    sym (rw (sym k.ensures ∙ c.if-not-spare_ok.true))

-- the spare bits are 0
spare : (c : Else-not-spare_ok) → c.spare_ok.result ≡ true
spare c = c.if-not-spare_ok.false

pub returns-then-not-mark_codes : goal.returns-then-not-mark_codes
unfolding codes_ok
returns-then-not-mark_codes c =
    let m = c.mark_codes in
    sym (rw (sym m.ensures.0 ∙ c.if-not-mark_codes.true, and-false))

pub returns : goal.returns
unfolding codes_ok
returns c =
    let m = c.mark_codes in
    let a = c.args in
    let cs : List ℕ = unpacked a.w a.n a.codes.now in
    let e : m.result ≡ true = c.if-not-mark_codes.false in
    let marks : m.new.marks ≡ marked (replicate 256 0) cs = m.ensures.1 e in
    let used : c.all_marked.result ≡ used_all a.t cs =
    true_or c.all_marked.result
    (λ r. r ∙ sym (each_used a.t cs (marks_one 256 a.t c.requires.3 cs (subst (λ (l : List ℕ). AllMarked l a.t) marks (c.all_marked.ensures.0 r)))))
    (λ r.
    true_or (used_all a.t cs)
    (λ u. absurd (c.all_marked.ensures.1 r
    (subst (λ (l : List ℕ). AllMarked l a.t) (sym marks) (one_marks 256 a.t c.requires.3 cs (used_each a.t cs u)))))
    (λ u. r ∙ sym u)) in
    used ∙ sym (rw (sym c.spare_ok.ensures ∙ spare (goal.at.returns c).Else-not-spare_ok, sym m.ensures.0 ∙ e))
