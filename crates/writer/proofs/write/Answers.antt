-- `writer::write` meets its contract. Assumes nothing.
use Rattle.format.specs.Kit.{◌≡◌, sym, ap, ◌∙◌, List, some, ℕ, length}
use Rattle.format.specs.Refusals.{Outcome}
use Rattle.format.specs.Editions.{editions, edition_in}
use Rattle.format.specs.Writer.{write, write_reply, write_out}
use Rattle.laws.proofs.Editions.{found_number}
use Rattle.laws.proofs.Demands.{told, told_other, told_lengths}
use Rattle.values.specs.Edition.{edition_of}
use Rattle.column.specs.Opened.{known_of}
use Rattle.writer.proofs.Written.{refused_both}
use Rattle.writer.proofs.write.Goals as goal

pub returns-then-ids-values : goal.returns-then-ids-values
returns-then-ids-values c =
    let a = c.args in
    let both = refused_both _ a.out.now (sym (told_lengths a.edition a.power a.ids.now a.values.now (length a.out.now) c.if-ids-values.true)) in
    record { replies = both.0; written = both.1 }

pub returns-in_default : goal.returns-in_default
returns-in_default c =
    let a = c.args in
    let none = ap (edition_in editions) (sym c.wide32.ensures.0) ∙ sym c.edition_in.ensures ∙ ap known_of c.in_default.is in
    let both = refused_both _ a.out.now
    (sym (told_other a.edition a.power a.ids.now a.values.now (length a.out.now) c.if-ids-values.false none)) in
    record { replies = both.0; written = both.1 }

pub returns : goal.returns
returns c =
    let e = c.write_as.ensures in
    let a = c.args in
    let room : ℕ = length a.out.now in
    let known : edition_in editions a.edition ≡ some (edition_of c.in-Some.told) =
    ap (edition_in editions) (sym c.wide32.ensures.0) ∙ sym c.edition_in.ensures ∙ ap known_of c.in-Some.is in
    let same =
    sym
    (ap (λ (k : ℕ). write k a.power a.ids.now a.values.now room) (found_number editions a.edition _ known)
    ∙ told (edition_of c.in-Some.told) a.power a.ids.now a.values.now room) in
    record { replies = e.replies ∙ ap write_reply same; written = e.written ∙ ap (λ (o : Outcome (List ℕ)). write_out o a.out.now) same }
