-- `run_writer::put_run` meets its contract. Assumes nothing.
use Rattle.format.specs.Kit.{◌≡◌, sym, ap, ap₂, ◌∙◌, subst, ℕ, List, ◌++◌, ◌+◌, ◌-◌, ◌*◌, ◌≤◌, arith, length, take, drop, length-take-le, length-drop, sets}
use Rattle.format.specs.Bits.{packed_bytes, packed}
use Rattle.format.specs.Values.{width_with, stored_with}
use Rattle.format.specs.ValueRuns.{Summary, summary_of, summary_bytes, run_bytes}
use Rattle.format.specs.Editions.{high_first}
use Rattle.laws.proofs.ValueRuns.{length_run}
use Rattle.signed.specs.Sign.{biased}
use Rattle.signed.proofs.Signs.{biased_unbiased}
use Rattle.run_writer.proofs.Laid.{run_put}
use Rattle.run_writer.proofs.put_run.Goals as goal
use Rattle.run_writer.proofs.put_run.Goals.{After-packed_bytes-bytes, After-summary_of-x}

-- the width, and the bytes
width_is : (c : After-summary_of-x) → let a = c.args in c.summary_of-x.result.width ≡ width_with a.divisor a.part.now
unfolding summary_of
width_is c = ap (λ (x : Summary). x.width) c.summary_of-x.ensures.0

bytes_are : (c : After-packed_bytes-bytes) → let a = c.args in
    c.packed_bytes-bytes.result ≡ length (run_bytes a.divisor a.part.now)
bytes_are c =
    let a = c.args in
    c.packed_bytes-bytes.ensures.0 ∙ ap (λ (w : ℕ). packed_bytes (length a.part.now) w) (width_is (goal.at.After-packed_bytes-bytes c).After-summary_of-x) ∙ sym (length_run a.divisor a.part.now)

mid_long : (c : After-packed_bytes-bytes) → let a = c.args in
    length c.put_summary.new.out ≡ length a.out.now
mid_long c = c.put_summary.auto.out

ends : (c : After-packed_bytes-bytes) → let a = c.args in
    a.from + a.start + c.packed_bytes-bytes.result ≤ length c.put_summary.new.out
ends c = omega (arith, c.requires.4, bytes_are c, mid_long c)

pub put_numbers-requires : goal.put_numbers-requires
unfolding summary_of width_with high_first
put_numbers-requires c =
    let a = c.args in
    let vs = a.part.now in
    let at : ℕ = a.from + a.start in
    let mid = c.put_summary.new.out in
    record {
      low_is = sym (biased_unbiased c.summary_of-x.result.smallest) ∙ ap biased (ap (λ (x : Summary). x.smallest) c.summary_of-x.ensures.0);
      positive = c.requires.1;
      width_is = width_is (goal.at.put_numbers-requires c).After-summary_of-x;
      fit = c.requires.3;
      enough =
          subst (λ (n : ℕ). packed_bytes (length vs) c.summary_of-x.result.width ≤ n)
          (sym (length-take-le (at + c.packed_bytes-bytes.result - at) (drop at mid) (omega (arith, ends (goal.at.put_numbers-requires c).After-packed_bytes-bytes, length-drop at mid))))
          (omega (arith, c.packed_bytes-bytes.ensures.0));
    }

pub returns : goal.returns
unfolding run_bytes high_first
returns c =
    let a = c.args in
    let vs = a.part.now in
    let mid = c.put_summary.new.out in
    let at : ℕ = a.from + a.start in
    let xs : List ℕ = run_bytes a.divisor vs in
    let same : packed c.summary_of-x.result.width (stored_with a.divisor vs) ≡ xs =
    ap (λ (w : ℕ). packed w (stored_with a.divisor vs)) (width_is (goal.at.returns c).After-summary_of-x) in
    let long : packed_bytes (length vs) c.summary_of-x.result.width ≡ length xs = sym c.packed_bytes-bytes.ensures.0 ∙ bytes_are (goal.at.returns c).After-packed_bytes-bytes in (
      bytes_are (goal.at.returns c).After-packed_bytes-bytes,
      run_put mid c.put_numbers.new.out xs at (at + c.packed_bytes-bytes.result) (ap (λ (n : ℕ). at + n) (bytes_are (goal.at.returns c).After-packed_bytes-bytes)) (ends (goal.at.returns c).After-packed_bytes-bytes)
          (c.put_numbers.ensures ∙ ap₂ (λ (y : List ℕ) (n : ℕ). y ++ drop n (take (at + c.packed_bytes-bytes.result - at) (drop at mid))) same long)
          ∙ ap (λ (l : List ℕ). sets l at xs)
          (c.put_summary.ensures ∙ ap (λ (x : Summary). sets a.out.now (25 * a.r) (summary_bytes x)) c.summary_of-x.ensures.0),
    )

pub packed_bytes-bytes-requires : goal.packed_bytes-bytes-requires
packed_bytes-bytes-requires c = (omega (arith, c.requires.2), c.summary_of-x.ensures.1)

pub overflow_add-at : goal.overflow_add-at
overflow_add-at c = omega (arith, ends c)

pub overflow_add-end : goal.overflow_add-end
overflow_add-end c = omega (arith, ends c)

pub slice_bounds-put_numbers-end : goal.slice_bounds-put_numbers-end
slice_bounds-put_numbers-end c = omega (arith, ends c)
