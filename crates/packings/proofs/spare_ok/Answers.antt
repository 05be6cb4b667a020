-- `packings::spare_ok` meets its contract. Assumes nothing.
use Rattle.std.specs.List.{slice_get}
use Rattle.std.proofs.Common.{Some, None}
use Rattle.std.proofs.lemmas.Option.{get_or_from_slice_get, slice_get-get_or}
use Rattle.format.specs.Kit.{◌≡◌, refl, sym, List, ◌∷◌, [], ℕ, ◌-◌, arith, length, get_or, pow_pos}
use Rattle.packings.specs.Packings.{spare_ok}
use Rattle.packings.proofs.Spare.{spare_none}
use Rattle.packings.proofs.spare_ok.Goals as goal

none_last : (s : List ℕ) → None ≡ slice_get s (length s - 1) → length s ≡ 0
none_last [] e = refl
none_last (x ∷ s) e = let f = slice_get-get_or (x ∷ s) (length (x ∷ s) - 1) 0 (omega arith) in absurd (cc (e, f))

some_last : (s : List ℕ) (x : ℕ) → Some x ≡ slice_get s (length s - 1) → x ≡ get_or s (length s - 1) 0
some_last s x e = sym (get_or_from_slice_get s (length s - 1) x 0 (sym e))

pub returns-in_default : goal.returns-in_default
returns-in_default c =
    let a = c.args in
    sym (spare_none a.order a.s.now a.spare (none_last a.s.now (rw c.in_default.is at c.last.ensures.value)))

pub nonzero_rem-result : goal.nonzero_rem-result
nonzero_rem-result c = rw c.pow2.ensures (pow_pos c.args.spare)

pub nonzero_div-result : goal.nonzero_div-result
nonzero_div-result c = rw c.pow2-in-Low.ensures (pow_pos (8 - c.args.spare))

pub returns-in-High : goal.returns-in-High
unfolding spare_ok
returns-in-High c =
    let e = some_last c.args.s.now c.in-Some.field-0.now c.in-Some.ensures.value in
    rw (c.in-High.is, c.pow2.ensures, c.from-last.ensures, e)

pub returns-in-Low : goal.returns-in-Low
unfolding spare_ok
returns-in-Low c =
    let e = some_last c.args.s.now c.in-Some.field-0.now c.in-Some.ensures.value in
    rw (c.in-Low.is, c.pow2-in-Low.ensures, c.from-last.ensures, e)
