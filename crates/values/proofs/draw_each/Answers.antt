-- `values::draw_each` meets its contract. Invariant: what is left are the values from ordinal o on. Assumes nothing.
use Rattle.format.specs.Kit.{◌≡◌, sym, ap, ◌∙◌, subst, Option, List, ◌∷◌, ℕ, suc, ◌+◌, ◌-◌, arith, ℤ, set}
use mir.Facts.{to_z-of_z}
use mir.Syntax.{w64}
use Rattle.format.specs.Stores.{Fill}
use Rattle.format.specs.Editions.{codec}
use Rattle.laws.proofs.Stores.{one_more, filled, reached}
use Rattle.laws.proofs.Fits.{fits_size}
use Rattle.laws.proofs.Editions.{lawful}
use Rattle.values.specs.Edition.{edition_of, fields_of, fetched_of, stored_value}
use Rattle.format.specs.Drawn.{drawn}
use Rattle.laws.proofs.Drawn.{drawn_some, drawn_none, drawn_zero}
use Rattle.values.proofs.draw_each.Goals as goal
use Rattle.values.proofs.draw_each.Goals.{After-value_of}

-- what is drawn is step 7
read : (c : After-value_of) → let a = c.args in
    fetched_of c.value_of.result ≡ (codec (edition_of a.edition)).value a.n (fields_of a.fields) a.section.now (c.args.x + (c.loop-i.i - c.args.from))
read c =
    let a = c.args in
    c.value_of.ensures ∙ ap (stored_value (edition_of a.edition) (fields_of a.fields) a.section.now c.slot_of-slot.result) c.number_in-stored.ensures
    ∙ sym c.slot_of-slot.ensures.2

pub returns-in_default : goal.returns-in_default
returns-in_default c =
    let l = c.loop-i in
    let e = drawn_none _ _ _ (sym (read (goal.at.returns-in_default c).After-value_of) ∙ ap fetched_of c.in_default.is) in
    (reached _ _ _ _ _ _ l.invariant e, filled _ _ _ _ _ _ l.invariant e)

pub loop-i-preserved : goal.loop-i-preserved
loop-i-preserved c =
    let l = c.loop-i in
    let a = c.args in
    let z = c.in-Some.value in
    let x : ℕ = a.x + (l.i - a.from) in
    let f : ℕ → Option ℤ = (codec (edition_of a.edition)).value a.n (fields_of a.fields) a.section.now in
    let o = sym (read (goal.at.loop-i-preserved c).After-value_of) ∙ ap fetched_of c.in-Some.is in
    let m = fits_size z ((lawful (edition_of a.edition)).fit a.n (fields_of a.fields) a.section.now x z o) in
    let k : a.end - l.i ≡ suc (a.end - (l.i + 1)) = omega arith in
    let one : suc x ≡ a.x + (l.i + 1 - a.from) = omega arith in
    let more = ap (λ (j : ℕ). drawn f j x) k ∙ drawn_some f (a.end - (l.i + 1)) x z o
    ∙ ap (λ (y : ℕ). z ∷ drawn f (a.end - (l.i + 1)) y) one in
    subst (λ (y : List ℤ). Fill a.values.now a.from (drawn f (a.end - a.from) a.x) y (l.i + 1) (drawn f (a.end - (l.i + 1)) (a.x + (l.i + 1 - a.from))))
    (sym (ap (set l.values l.i) (to_z-of_z {w = w64} {z = z} (record { sfits = m }))))
    (one_more _ _ _ _ _ _ l.invariant z _ more)

pub returns : goal.returns
returns c =
    let l = c.loop-i in
    let a = c.args in
    let f : ℕ → Option ℤ = (codec (edition_of a.edition)).value a.n (fields_of a.fields) a.section.now in
    let e = drawn_zero f (a.end - l.i) (a.x + (l.i - a.from)) (omega arith) in
    (omega (arith, reached _ _ _ _ _ _ l.invariant e), filled _ _ _ _ _ _ l.invariant e)
