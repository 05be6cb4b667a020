-- `column::edition_in` meets its contract. Assumes nothing.
use Rattle.format.specs.Kit.{arith, eq-eqb, ne_eqb}
use Rattle.format.specs.Editions.{number_of, editions, edition_in}
use Rattle.column.proofs.edition_in.Goals as goal

pub returns-in-1 : goal.returns-in-1
unfolding number_of editions edition_in
returns-in-1 c = rw (eq-eqb c.args.number 1 c.in-1.is)

pub returns-in-2 : goal.returns-in-2
unfolding number_of editions edition_in
returns-in-2 c = rw c.in-2.is

pub returns-in-3 : goal.returns-in-3
unfolding number_of editions edition_in
returns-in-3 c = rw c.in-3.is

pub returns-in-4 : goal.returns-in-4
unfolding number_of editions edition_in
returns-in-4 c = rw c.in-4.is

pub returns-in_default : goal.returns-in_default
unfolding number_of editions edition_in
returns-in_default c =
    let n = c.args.number in
    rw (
      ne_eqb n 1 (λ e. omega (arith, e)),
      ne_eqb n 2 (λ e. omega (arith, e)),
      ne_eqb n 3 (λ e. omega (arith, e)),
      ne_eqb n 4 (λ e. omega (arith, e)),
    )
