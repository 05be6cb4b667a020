-- `read_in_block::sparse::put_entries` meets its contract. Invariant: what is left are the entries from k on. Assumes nothing.
use Rattle.format.specs.Kit.{◌≡◌, sym, ap, ◌∙◌, List, ◌∷◌, ℕ, suc, ◌+◌, ◌-◌, ◌*◌, ◌≤◌, arith, length}
use Rattle.laws.proofs.Stores.{one_more, filled}
use Rattle.next_in_block.specs.First.{entry_in}
use Rattle.format.specs.ReadFrom.{id_after}
use Rattle.read_in_block.specs.Rows.{entries_from}
use Rattle.read_in_block.proofs.Rows.{entries_more, entries_zero, after_more, after_none}
use Rattle.read_in_block.proofs.sparse.put_entries.Goals as goal
use Rattle.read_in_block.proofs.sparse.put_entries.Goals.{In-loop-i}

in_data : (c : In-loop-i) → let a = c.args in
    a.t + 2 * (a.j + (c.loop-i.i - a.from)) + 2 ≤ length a.s.now
in_data c = omega (arith, c.loop-i-test.true, c.requires.2)

pub loop-i-preserved : goal.loop-i-preserved
loop-i-preserved c =
    let l = c.loop-i in
    let a = c.args in
    let s : List ℕ = a.s.now in
    let n : ℕ = a.end - (l.i + 1) in
    let k : ℕ = a.j + (l.i - a.from) in
    let y : ℕ = entry_in s a.t k in
    let one : a.end - l.i ≡ suc n = omega (arith, c.loop-i-test.true) in
    let on : k + 1 ≡ a.j + (l.i + 1 - a.from) = omega arith in
    let is : c.id_of-id.result ≡ a.b * 65536 + y = omega (arith, c.id_of-id.ensures, c.size-e.ensures, c.short_at.ensures.0) in
    let more : entries_from s a.t a.b k (a.end - l.i) ≡ c.id_of-id.result ∷ entries_from s a.t a.b (a.j + (l.i + 1 - a.from)) n =
    ap (entries_from s a.t a.b k) one ∙ entries_more s a.t a.b k n
    ∙ ap (λ (id : ℕ). id ∷ entries_from s a.t a.b (k + 1) n) (sym is)
    ∙ ap (λ (m : ℕ). c.id_of-id.result ∷ entries_from s a.t a.b m n) on in
    let up : a.b * 65536 + (c.size-e.result + 1) ≡ suc c.id_of-id.result = omega (arith, c.id_of-id.ensures) in (
      one_more _ _ _ _ _ _ l.invariant.0 _ _ more,
      ap (λ (u : ℕ). id_after u (entries_from s a.t a.b (a.j + (l.i + 1 - a.from)) n)) up
          ∙ sym (after_more (a.b * 65536 + l.y) c.id_of-id.result _)
          ∙ ap (id_after (a.b * 65536 + l.y)) (sym more) ∙ l.invariant.1,
    )

pub returns : goal.returns
returns c =
    let l = c.loop-i in
    let a = c.args in
    let z : a.end - l.i ≡ 0 = omega (arith, c.loop-i-test.false) in
    let e = entries_zero a.s.now a.t a.b (a.j + (l.i - a.from)) _ z in
    (sym (after_none _) ∙ ap (id_after (a.b * 65536 + l.y)) (sym e) ∙ l.invariant.1, filled _ _ _ _ _ _ l.invariant.0 e)
