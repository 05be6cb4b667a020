-- `layered_page::under::fill_under` meets its contract. Assumes nothing.
use Rattle.format.specs.Kit.{rules, refl, ◌+◌, ◌-◌, ◌≤◌, ◌<◌, arith, length, drop, length-drop, length-take-le}
use Rattle.layered_page.proofs.Parts.{begins, part_laid, goes_on, os_kept, vs_kept, ks_kept, ends}
use Rattle.layered_page.proofs.under.fill_under.Goals as goal
use Rattle.layered_page.proofs.under.fill_under.Goals.{After-part_end-end}

-- where the part ends
here : (c : After-part_end-end) →
    let l = c.loop-i in
    let a = c.args in
    (l.i < c.part_end-end.result) × (c.part_end-end.result ≤ length a.ids.now) × (c.part_end-end.result ≤ l.i + 256)
    × (c.part_end-end.result ≤ length l.ordinals) × (c.part_end-end.result ≤ length l.values) × (c.part_end-end.result ≤ length l.kinds)
here c =
    let l = c.loop-i in
    let p = c.requires.4 in
    let g = l.invariant.0 in
    let t = c.loop-i-test.true in
    let e = c.part_end-end.ensures in
    let o = os_kept _ _ _ g p in
    let v = vs_kept _ _ _ g p in
    let k = ks_kept _ _ _ g p in (
      omega (arith, t, e),
      omega (arith, e, l.invariant.1),
      omega (arith, e),
      omega (arith, e, l.invariant.1, o.0, o.1),
      omega (arith, e, l.invariant.1, v.0, v.1),
      omega (arith, e, l.invariant.1, k.0, k.1),
    )

pub part-counts-requires : goal.part-counts-requires
part-counts-requires c =
    let l = c.loop-i in
    let h = here (goal.at.part-counts-requires c).After-part_end-end in
    let a = c.args in
    let p = c.requires in (
      rw (length-take-le (c.part_end-end.result - l.i) (drop l.i a.ids.now) (omega (arith, h.1, length-drop l.i a.ids.now)))
          (omega (arith, h.2)),
      p.0,
      p.1,
      p.2,
      p.3,
      part_laid _ _ _ l.invariant.0 c.part_end-end.result (omega (arith, h.0)) h.1,
    )

pub loop-i-preserved : goal.loop-i-preserved
loop-i-preserved c =
    let l = c.loop-i in
    let h = here (goal.at.loop-i-preserved c).After-part_end-end in (
      goes_on _ _ _ l.invariant.0 c.part_end-end.result (omega (arith, h.0)) h.1 c.part-counts.ensures c.wrapping_add_u64-below.ensures.value
          c.wrapping_sub_u64-above.ensures.value (search rules),
      l.invariant.1,
    )

pub loop-i-init : goal.loop-i-init
loop-i-init c = (begins _ _ _ _ _ _ _ c.requires.4 c.requires.5, refl)

pub returns : goal.returns
returns c = ends _ _ _ c.loop-i.invariant.0 (omega (arith, c.loop-i-test.false, c.loop-i.invariant.1))
