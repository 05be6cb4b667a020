-- `next::next_block` meets its contract. Assumes nothing.
use Rattle.format.specs.Kit.{◌≡◌, ap, ◌∙◌, ℕ, min, arith}
use Rattle.format.specs.Bytes.{low_at}
use Rattle.next.proofs.Passed.{passed_above, passed_below}
use Rattle.next.proofs.next_block.Goals as goal

pub returns-then-b-k : goal.returns-then-b-k
returns-then-b-k c =
    let a = c.args in
    let e = c.entry_at-e in
    let k : c.size-k.result ≡ low_at 2 a.s.now e.result.start =
    c.size-k.ensures ∙ c.short_at.ensures.0 in
    passed_above a.s.now a.q a.b e.result (omega arith) e.ensures (omega arith) (omega arith) (omega arith) c.min.result
    (c.min.ensures ∙ ap (λ (x : ℕ). min x 32766) k)

pub returns-then-j-eq0 : goal.returns-then-j-eq0
returns-then-j-eq0 c =
    let a = c.args in
    let e = c.entry_at-e in
    let k : c.size-k.result ≡ low_at 2 a.s.now e.result.start =
    c.size-k.ensures ∙ c.short_at.ensures.0 in
    passed_below a.s.now a.q a.b e.result (omega arith) e.ensures (omega arith) (omega arith) c.if-j-eq0.true (omega arith)
