-- `layered_reading::runs::put_four` meets its contract. Assumes nothing.
use Rattle.format.specs.Kit.{◌≡◌, ap, ◌∙◌, ℕ, ◌+◌, ◌-◌, arith, length, take, drop, length-drop, length-take-le, put_mid}
use Rattle.laws.proofs.Stores.{part_put}
use Rattle.layered_reading.proofs.runs.put_four.Goals as goal

pub returns : goal.returns
returns g c =
    let a = c.args in
    let e : a.k + 4 - a.k ≡ 4 = omega arith in
    let n : length (take 4 (drop a.k a.from.now)) ≡ 4 = length-take-le 4 (drop a.k a.from.now) (omega (arith, length-drop a.k a.from.now, c.requires.1)) in
    ap (put_mid a.i (a.i + 4 - a.i) a.to.now) (c.copy_from_slice.ensures.after ∙ ap (λ (j : ℕ). take j (drop a.k a.from.now)) e)
    ∙ part_put a.to.now (take 4 (drop a.k a.from.now)) a.i (a.i + 4) (omega (arith, n)) c.requires.0
