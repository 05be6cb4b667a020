-- `read_in_block::sparse::rising` meets its contract. Invariant: entries that rise from `least` and entry k on rise from r and entry j on. Assumes nothing.
use Rattle.format.specs.Kit.{◌≡◌, refl, ℕ, suc, ◌+◌, ◌-◌, ◌*◌, ◌≤◌, arith, length}
use Rattle.read_in_block.specs.Rows.{Rising}
use Rattle.read_in_block.proofs.Rows.{rising_more}
use Rattle.read_in_block.proofs.sparse.rising.Goals as goal
use Rattle.read_in_block.proofs.sparse.rising.Goals.{At-loop-k, In-loop-k}

upto : (l : At-loop-k) → let a = l.args in Rising a.s.now a.t a.r a.j (l.loop-k.k - a.j)
upto l =
    let a = l.args in
    let k : ℕ = l.loop-k.k in
    let e : k - a.j + 0 ≡ k - a.j = omega arith in
    let q = l.loop-k.invariant.0 0 refl in
    rw e at q

pub returns-then-e-least : goal.returns-then-e-least
returns-then-e-least c =
    let v = c.loop-k.invariant in
    record {
      from = omega arith;
      most = omega (arith, c.loop-k-test.true);
      rises = upto (goal.at.returns-then-e-least c).At-loop-k;
      none = λ e h. let f : c.loop-k.k ≡ c.args.j = e in
          let g = c.short_at.ensures.0 in
          let w = rw f at g in
          omega (arith, c.if-e-least.true, c.size-e.ensures, w, v.1 f);
    }

pub loop-k-preserved : goal.loop-k-preserved
loop-k-preserved c =
    let a = c.args in
    let v = c.loop-k.invariant in
    let k : ℕ = c.loop-k.k in (
      λ n q.
          let e : k + 1 - a.j + n ≡ k - a.j + suc n = omega arith in
          rw e (v.0 (suc n) (rising_more a.s.now a.t 0 c.loop-k.least k c.size-e.result n
          (omega (arith, c.size-e.ensures, c.short_at.ensures.0)) (omega (arith, c.size-e.ensures, c.short_at.ensures.1))
          (omega (arith, c.if-e-least.false)) q)),
      λ e. absurd (omega (arith, e)),
    )

pub returns : goal.returns
returns c =
    let e : c.loop-k.k ≡ c.args.end = omega (arith, c.loop-k-test.false) in
    record {
      from = c.requires.0;
      most = omega arith;
      rises = rw e at (upto (goal.at.returns c).At-loop-k);
      none = λ e h. absurd (omega (arith, e, h));
    }

in_data : (c : In-loop-k) → let a = c.args in a.t + 2 * c.loop-k.k + 2 ≤ length a.s.now
in_data c = omega (arith, c.loop-k-test.true, c.requires.1)
