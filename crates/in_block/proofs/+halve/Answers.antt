-- `in_block::halve` meets its contract: it stops where nothing is left, hits, or goes on in one half.
use Rattle.format.specs.Kit.{sym, ap, ◌∙◌, ◌+◌, ◌/◌, ◌<◌, ◌≤◌, arith}
use Rattle.in_block.specs.Place.{in_one_word}
use Rattle.in_block.proofs.Entries.{half, narrower, stops, hits, goes}
use Rattle.in_block.proofs.+halve.Goals as goal

pub returns-then-lo-hi : goal.returns-then-lo-hi
returns-then-lo-hi t c k h = let a = c.args in stops a.s.now.now a.at a.lo a.hi a.r a.probes k h c.if-lo-hi.true

pub returns-then-x-r : goal.returns-then-x-r
returns-then-x-r t c k h =
    let a = c.args in
    let l : a.lo < a.hi = omega arith in
    hits a.s.now.now a.at a.lo a.hi a.r a.probes k h l (sym c.short_at-x.ensures.0 ∙ c.if-x-r.true) c.long.result c.long.ensures

pub returns : goal.returns
returns t c k h =
    let a = c.args in
    let x = c.short_at-x in
    let l : a.lo < a.hi = omega arith in
    let f =
    half x.result a.r a.lo ((a.lo + a.hi) / 2) a.hi c.left.result c.left-2.result c.if-x-r.false
    c.left.ensures c.left-2.ensures in
    let n = narrower x.result a.r a.lo a.hi c.left.result c.left-2.result l f in
    let u : a.hi ≤ k = h in
    c.halve.ensures k (omega (arith, n, u))
    ∙ ap in_one_word
    (goes a.s.now.now a.at a.lo a.hi a.r a.probes k h x.result c.left.result c.left-2.result l x.ensures.0 f)
