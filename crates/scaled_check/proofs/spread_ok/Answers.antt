-- `scaled_check::spread_ok` meets its contract. Assumes nothing.
use Rattle.format.specs.Kit.{◌≡◌, sym, ◌∙◌, ◌&&◌, ◌-◌, ◌*◌, ◌^◌, ◌≤◌, mul-le-mul, arith, length}
use Rattle.format.specs.Limits.{max_count, max_width}
use Rattle.answers.specs.Replies.{fields_of}
use Rattle.scaled_values.specs.Held.{numbers_in}
use Rattle.scaled_values.proofs.Facts.{Rules, rules_kept}
use Rattle.scaled_check.specs.ValuesOk.{numbers_ok, spread_ok}
use Rattle.scaled_check.proofs.spread_ok.Goals as goal
use Rattle.scaled_check.proofs.spread_ok.Goals.{After-size, After-spare_ok, Start}

the_rules : (st : Start) → Rules st.args.order st.args.n (fields_of st.args.fields) (length st.args.s.now)
the_rules st = rules_kept _ _ _ _ st.requires.1

few : (st : Start) → st.args.n * st.args.fields.width ≤ max_count * max_width
few st = mul-le-mul st.requires.0 (the_rules st).narrow

pub overflow_mul-spare : goal.overflow_mul-spare
overflow_mul-spare c = omega (arith, few (goal.at.overflow_mul-spare c).Start, (the_rules (goal.at.overflow_mul-spare c).Start).bytes)

pub overflow_mul-n : goal.overflow_mul-n
overflow_mul-n c = omega (arith, few (goal.at.overflow_mul-n c).Start)

-- the bits that are left
spare : (c : After-size) → (c.size.result ≤ 8 * length c.args.s.now) × (8 * length c.args.s.now - c.size.result ≤ 7)
spare c = let r = (the_rules (goal.at.After-size c).Start).bytes in let e = c.size.ensures in (omega arith, omega arith)

-- the spare bits are tested before the numbers
tested : (c : After-spare_ok) → let a = c.args in let h = fields_of a.fields in
    spread_ok a.order a.n h a.s.now
    ≡ c.spare_ok.result && numbers_ok a.order h (2 ^ h.width - 1) 0 0 (numbers_in a.order h.width a.n a.s.now)
unfolding spread_ok
tested c = rw (c.spare_ok.ensures, c.size.ensures)

pub returns-else-spare_ok : goal.returns-else-spare_ok
returns-else-spare_ok c = c.if-spare_ok.false ∙ sym (tested (goal.at.returns-else-spare_ok c).After-spare_ok ∙ rw c.if-spare_ok.false)

pub returns-then-spare_ok : goal.returns-then-spare_ok
returns-then-spare_ok c =
    c.ok.ensures ∙ sym (tested (goal.at.returns-then-spare_ok c).After-spare_ok ∙ rw c.if-spare_ok.true)

pub overflow_sub-spare : goal.overflow_sub-spare
overflow_sub-spare c = (spare c).0

pub spare_ok-requires : goal.spare_ok-requires
spare_ok-requires c = omega (arith, (spare c).1)

pub invariant_of-numbers : goal.invariant_of-numbers
invariant_of-numbers c = let p = c.requires in record { kept = record { few = p.0; rules = p.1; some = p.2 } }
