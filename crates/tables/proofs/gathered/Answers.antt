-- `tables::gathered` meets its contract. The loop's invariant: the first n entries, with the values still to come, are the table of all.
use Rattle.format.specs.Kit.{◌≡◌, sym, ap, ◌∙◌, subst, ℕ, ◌^◌, ◌<◌, arith, rules, ℤ, mag, List, length, length-replicate}
use mir.Syntax.{w64}
use mir.Val.{to_z, of_z}
use Rattle.signed.specs.Sign.{biased, unbiased}
use Rattle.signed.proofs.Signs.{read_back, unbiased_biased}
use Rattle.tables.specs.Holds.{Holds}
use Rattle.tables.proofs.PutIn.{gathered_none, gathered_many, gathered_more, gathered_end}
use Rattle.tables.proofs.gathered.Goals as goal

-- the value of a turn
value : (v : ℤ) (b : ℕ) → mag v < 2 ^ 63 → b ≡ biased (to_z w64 (of_z w64 v)) → v ≡ unbiased b
value v b f e = sym (ap unbiased (e ∙ ap biased (read_back v f)) ∙ unbiased_biased v f)

-- what the table holds after it
holds : (room : ℕ) (t : List ℤ) (us : List ℤ) (r : ℕ) (t' : List ℤ) → length t ≡ room → Holds (length t) us r t' → Holds room us r t'
holds room t us r t' e h = subst (λ (k : ℕ). Holds k us r t') e h

pub returns-then-n-table : goal.returns-then-n-table
returns-then-n-table g c =
    let h = holds _ _ _ _ _ c.loop-x.invariant.0.size c.added-n.ensures in
    gathered_many c.loop-x.invariant.0 (unbiased c.biased.result) c.loop-x-test.true (value _ _ (search rules) c.biased.ensures) c.added-n.new.table
    c.added-n.result h (omega (arith, c.if-n-table.true, h.size))

pub loop-x-preserved : goal.loop-x-preserved
loop-x-preserved g c =
    let h = holds _ _ _ _ _ c.loop-x.invariant.0.size c.added-n.ensures in (
      gathered_more c.loop-x.invariant.0 (unbiased c.biased.result) c.loop-x-test.true (value _ _ (search rules) c.biased.ensures) c.added-n.new.table
          c.added-n.result h (omega (arith, c.if-n-table.false, h.size)),
      c.added-n.auto.guesses ∙ c.loop-x.invariant.1,
    )

pub loop-x-init : goal.loop-x-init
loop-x-init g c = (gathered_none _ _, length-replicate {A = ℕ} _ 0)

pub added-n-requires : goal.added-n-requires
added-n-requires g c =
    let t = c.loop-x.invariant.0 in
    (omega (arith, t.fits, t.size), t.up, omega (arith, c.loop-x.invariant.1, c.requires.0), omega (arith, c.loop-x.invariant.1, c.requires.1))

pub returns : goal.returns
returns g c = gathered_end c.loop-x.invariant.0 c.loop-x-test.false
