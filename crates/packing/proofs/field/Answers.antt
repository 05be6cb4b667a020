-- `packing::field` meets its contract: the mask is one less than a power.
use Rattle.format.specs.Kit.{◌≡◌, ap, ◌∙◌, ℕ, ◌*◌, ◌-◌, ◌/◌, ◌%◌, ◌^◌, ◌<◌, one-mul, mod-eq_of_lt, pow-lt, bit_and, and_mask}
use Rattle.packing.proofs.field.Goals as goal

-- Assumes nothing.
-- `1 << n`
one_shl : (n : ℕ) → n < 64 → 1 * 2 ^ n % 2 ^ 64 ≡ 2 ^ n
one_shl n h = rw one-mul (mod-eq_of_lt (pow-lt h))

pub returns : goal.returns
returns c =
    let n : ℕ = c.args.n in
    let y : ℕ = c.args.x / 2 ^ c.args.k in
    ap (λ (p : ℕ). bit_and y (p - 1)) (one_shl n c.requires.1) ∙ and_mask y n
