-- `read_in_block::dense::put_bits` meets its contract. Invariant: what is left are the bits from y on. Assumes nothing.
use Rattle.format.specs.Kit.{◌≡◌, sym, ap, ◌∙◌, List, ◌∷◌, ℕ, suc, ◌+◌, ◌-◌, ◌*◌, ◌/◌, ◌^◌, ◌<◌, arith, count_trailing_zeros, subst}
use Rattle.laws.proofs.Stores.{one_more, filled}
use Rattle.format.specs.ReadFrom.{id_after}
use Rattle.read_in_block.specs.Rows.{bits_from, BitsIn}
use Rattle.read_in_block.proofs.Rows.{after_more, after_none}
use Rattle.read_in_block.proofs.BitRows.{bits_more, bits_zero, bits_after_one}
use Rattle.read_in_block.proofs.dense.put_bits.Goals as goal
use Rattle.read_in_block.proofs.dense.put_bits.Goals.{In-loop-i}

-- the first bit that is left
first : (c : In-loop-i) → let a = c.args in let l = c.loop-i in
    let z = count_trailing_zeros 64 l.bits in
    (z < 64) × (l.y + z < 65536) × BitsIn (l.y + z + 1) (l.bits / 2 ^ (z + 1)) (a.end - (l.i + 1))
first c =
    let a = c.args in
    let l = c.loop-i in
    let k : a.end - l.i ≡ suc (a.end - (l.i + 1)) = omega (arith, c.loop-i-test.true) in
    bits_after_one l.y l.bits (a.end - (l.i + 1)) (subst (BitsIn l.y l.bits) k l.invariant.0)

pub loop-i-preserved : goal.loop-i-preserved
loop-i-preserved c =
    let l = c.loop-i in
    let a = c.args in
    let n : ℕ = a.end - (l.i + 1) in
    let f = first (goal.at.loop-i-preserved c).In-loop-i in
    let k : a.end - l.i ≡ suc n = omega (arith, c.loop-i-test.true) in
    let tz : c.zeros_below-z.result ≡ count_trailing_zeros 64 l.bits = c.zeros_below-z.ensures.0 in
    let bits : c.bits_above-bits.result ≡ l.bits / 2 ^ (count_trailing_zeros 64 l.bits + 1) = c.bits_above-bits.ensures ∙ ap (λ (x : ℕ). l.bits / 2 ^ (x + 1)) tz in
    let is : c.id_of-id.result ≡ a.b * 65536 + (l.y + count_trailing_zeros 64 l.bits) = c.id_of-id.ensures ∙ ap (λ (x : ℕ). a.b * 65536 + (l.y + x)) tz in
    let left : List ℕ = bits_from a.b (l.y + count_trailing_zeros 64 l.bits + 1) (l.bits / 2 ^ (count_trailing_zeros 64 l.bits + 1)) n in
    let more : bits_from a.b l.y l.bits (a.end - l.i) ≡ c.id_of-id.result ∷ left =
    ap (bits_from a.b l.y l.bits) k ∙ bits_more a.b l.y l.bits n ∙ ap (λ (id : ℕ). id ∷ left) (sym is) in
    let up : a.b * 65536 + (l.y + count_trailing_zeros 64 l.bits + 1) ≡ suc c.id_of-id.result = omega (arith, is) in
    rw (bits, tz) (
      f.2,
      one_more _ _ _ _ _ _ l.invariant.1 _ _ more,
      ap (λ (u : ℕ). id_after u left) up ∙ sym (after_more (a.b * 65536 + l.y) c.id_of-id.result left)
          ∙ ap (id_after (a.b * 65536 + l.y)) (sym more) ∙ l.invariant.2,
      omega (arith, f.1),
    )

pub returns : goal.returns
returns c =
    let l = c.loop-i in
    let a = c.args in
    let z : a.end - l.i ≡ 0 = omega (arith, c.loop-i-test.false) in
    let e = bits_zero a.b l.y l.bits _ z in
    (sym (after_none _) ∙ ap (id_after (a.b * 65536 + l.y)) (sym e) ∙ l.invariant.2, filled _ _ _ _ _ _ l.invariant.1 e)
