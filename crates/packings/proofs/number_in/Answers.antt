-- `packings::number_in` meets its contract. Assumes nothing.
use Rattle.format.specs.Kit.{refl, ap, ◌∙◌, subst, List, ℕ, arith, length}
use Rattle.format.specs.Bits.{bit_at, gather, fetched}
use Rattle.format.specs.Bytes.{low_at}
use Rattle.format.specs.BitsLow.{bit_low_at, gather_low, fetched_low}
use Rattle.format.specs.Editions.{high_first, low_first}
use Rattle.laws.proofs.Taken.{gather_in_part}
use Rattle.low_packing.proofs.Words.{part_low, part_as_number}
use Rattle.packings.specs.declared.Order as Od
use Rattle.packings.specs.Packings.{Reach}
use Rattle.packings.proofs.number_in.Goals as goal

pub number_of-requires : goal.number_of-requires
number_of-requires c =
    let e = c.ends_of-e.ensures in
    (c.requires.0, c.requires.1, c.requires.2, c.requires.4, e.some, e.few, e.inside)

pub number_of-requires-in-Low : goal.number_of-requires-in-Low
number_of-requires-in-Low c =
    let e = c.ends_of-e.ensures in
    let reach = subst (λ (o : Od.Order). Reach o c.args.skip c.args.w) c.in-Low.is c.requires.3 in
    (c.requires.1, reach, omega (arith, c.requires.4, reach), e.some, e.inside)

pub returns-in-High : goal.returns-in-High
unfolding high_first fetched
returns-in-High c =
    let a = c.args in
    let s : List ℕ = a.s.now in
    rw c.in-High.is
    (λ t b i e l fits h.
    c.number_of.ensures s (λ k. (c.type_inv.s k).fits) refl c.ends_of-e.ensures
    ∙ ap (λ (l : List ℕ). gather (bit_at l) a.skip a.w) e
    ∙ gather_in_part t b (length s) a.skip a.w (omega (arith, c.requires.4))
    ∙ ap (λ (j : ℕ). gather (bit_at t) j a.w) h)

pub returns-in-Low : goal.returns-in-Low
unfolding low_first fetched_low
returns-in-Low c =
    let a = c.args in
    let s : List ℕ = a.s.now in
    rw c.in-Low.is
    (λ t b i e l fits h.
    c.number_of-in-Low.ensures s (λ k. (c.type_inv.s k).fits) refl c.ends_of-e.ensures
    ∙ part_low t b (length s) a.skip a.w _ fits l (omega (arith, c.requires.4))
    (ap (λ (l : List ℕ). low_at (length l) l 0) e ∙ part_as_number t b (length s))
    ∙ ap (λ (j : ℕ). gather_low (bit_low_at t) j a.w) h)
