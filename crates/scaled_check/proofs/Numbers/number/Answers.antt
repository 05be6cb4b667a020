-- `scaled_check::Numbers::number` meets its contract. Assumes nothing.
use Rattle.format.specs.Kit.{ℕ, ◌*◌, and_mask, arith}
use Rattle.scaled_values.proofs.Facts.{rules_kept, few_bits}
use Rattle.scaled_check.proofs.Turns.{enough}
use Rattle.scaled_check.proofs.Numbers.number.Goals as goal

pub overflow_mul-bit : goal.overflow_mul-bit
overflow_mul-bit c = record { fits = few_bits (rules_kept _ _ _ _ c.args.self.now.kept.rules) c.args.self.now.kept.few (omega (arith, c.requires)) }

pub next_of-requires : goal.next_of-requires
next_of-requires c =
    let a = c.args.self.now in
    let rules = rules_kept _ _ _ _ a.kept.rules in
    let bit : ℕ = c.args.i * a.fields.width in
    (rules.allowed, c.requires, enough a.section.now rules, omega (arith, and_mask bit 3), omega (arith, and_mask bit 3))
