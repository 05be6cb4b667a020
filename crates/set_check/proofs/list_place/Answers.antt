-- `set_check::list_place` meets its contract. Assumes nothing.
use Rattle.format.specs.Kit.{Bool, ◌+◌, ◌||◌, ◌∙◌, ap, arith, eqb, or_assoc, or-false, sym, zero-add}
use Rattle.format.specs.Kit.{◌≡◌, ◌≤◌, ℕ, cond, false, true, ltb}
use Rattle.std.specs.Int.{from_bool}
use Rattle.format.specs.Ids.{count_below}
use Rattle.format.specs.Walk.{listed}
use Rattle.set_check.proofs.Turns.{begins_so, count_end, count_on, listed_end, listed_on, rest_of}
use Rattle.set_check.proofs.list_place.Goals as goal

pub loop-i-init : goal.loop-i-init
loop-i-init c = let a = c.args in
    let e = sym (begins_so a.s.now a.at a.c a.r) in
    (zero-add _ ∙ ap (count_below a.r) e, ap (listed a.r) e, omega arith, omega arith)

-- 1 for a test that holds
one_or_none : (b : Bool) (n : ℕ) → n ≡ from_bool b → (n ≡ cond b 1 0) × (n ≤ 1)
one_or_none false n e = (e, omega arith)
one_or_none true n e = (e, omega arith)

pub loop-i-preserved : goal.loop-i-preserved
loop-i-preserved c = let a = c.args in
    let l = c.loop-i in
    let x = c.short_at-x in
    let n = c.from-below in
    let one = one_or_none (ltb x.result a.r) n.result n.ensures in (
      omega (arith, l.invariant.0, count_on a.s.now a.at a.c a.r l.i n.result x.result (omega arith) x.ensures.0 one.0),
      or_assoc l.there (eqb x.result a.r) (listed a.r (rest_of a.s.now a.at a.c (l.i + 1)))
          ∙ ap (λ (b : Bool). l.there || b) (sym (listed_on a.s.now a.at a.c a.r l.i x.result (omega arith) x.ensures.0))
          ∙ l.invariant.1,
      omega arith,
      omega arith,
    )

pub returns : goal.returns
returns c = let a = c.args in
    let l = c.loop-i in (
      record {
        below_is = omega (arith, l.invariant.0, count_end a.s.now a.at a.c a.r l.i (omega arith));
        there_is =
            sym (ap (λ (b : Bool). l.there || b) (listed_end a.s.now a.at a.c a.r l.i (omega arith)) ∙ or-false l.there) ∙ l.invariant.1;
      },
      omega arith,
    )
