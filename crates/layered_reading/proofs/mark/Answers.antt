-- `layered_reading::mark` meets its contract. Assumes nothing.
use Rattle.format.specs.Kit.{◌≡◌, ap, ◌∙◌, ℕ, ◌-◌, arith, length, take, drop, replicate, length-drop, length-take-le, length-replicate, put_mid}
use Rattle.laws.proofs.Stores.{part_put}
use Rattle.layered_reading.proofs.mark.Goals as goal

pub returns : goal.returns
returns c =
    let a = c.args in
    let n : length (take (a.end - a.i) (drop a.i a.columns.now)) ≡ a.end - a.i = length-take-le (a.end - a.i) (drop a.i a.columns.now) (omega (arith, length-drop a.i a.columns.now, c.requires.1)) in
    ap (put_mid a.i (a.end - a.i) a.columns.now) (c.fill.ensures.after (λ y e. e) ∙ ap (λ (k : ℕ). replicate k a.column) n)
    ∙ part_put a.columns.now (replicate (a.end - a.i) a.column) a.i a.end (omega (arith, length-replicate (a.end - a.i) a.column, c.requires.0)) c.requires.1
