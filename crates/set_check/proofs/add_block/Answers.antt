-- `set_check::add_block` meets its contract. Assumes nothing.
use Rattle.format.specs.Kit.{◌≡◌, ap, ◌∙◌, Bool, ℕ, ◌/◌, arith, refl}
use Rattle.format.specs.Ids.{count_below}
use Rattle.format.specs.Walk.{listed}
use Rattle.set_blocks.specs.Found.{places_of}
use Rattle.laws.proofs.Digits.{below_all}
use Rattle.set_check.proofs.Walking.{added_high, added_low, added_same}
use Rattle.set_check.proofs.add_block.Goals as goal

pub overflow_add-result : goal.overflow_add-result
overflow_add-result c =
    omega (arith, c.requires.1.count_le, c.requires.2, c.requires.3)

pub returns-then-number-home : goal.returns-then-number-home
returns-then-number-home c =
    let a = c.args in
    let u = below_all 256 a.s.now (λ i. (c.type_inv.s i).fits) in
    added_low a.s.now u a.block c.requires.0 c.requires.1 a.id a.t _ c.requires.2
    (omega (arith, c.if-number-home.true, c.long-home.ensures, c.number_of.ensures.0)) refl refl refl

pub returns-then-home-number : goal.returns-then-home-number
returns-then-home-number c =
    let a = c.args in
    let u = below_all 256 a.s.now (λ i. (c.type_inv.s i).fits) in
    added_high a.s.now u a.block c.requires.0 c.requires.1 a.id a.t _ c.requires.2
    (omega (arith, c.if-home-number.true, c.long-home.ensures, c.number_of.ensures.0)) refl refl refl

pub place_in-p-requires : goal.place_in-p-requires
place_in-p-requires c =
    (c.requires.0, c.place_of.ensures.1)

pub overflow_add-result-2 : goal.overflow_add-result-2
overflow_add-result-2 c =
    omega (arith, c.place_in-p.ensures.1, c.requires.2, c.requires.3)

pub returns : goal.returns
returns c =
    let a = c.args in
    let u = below_all 256 a.s.now (λ i. (c.type_inv.s i).fits) in
    let e = c.place_in-p.ensures.0 in
    let place = c.place_of.ensures.0 in
    let home : a.block.block ≡ a.id / 65536 =
    omega (arith, c.if-home-number.false, c.if-number-home.false, c.number_of.ensures.0, c.long-home.ensures) in
    added_same a.s.now u a.block c.requires.0 c.requires.1 a.id a.t _ c.requires.2 home _ _
    (e.below_is ∙ ap (λ (r : ℕ). count_below r (places_of a.s.now a.block)) place)
    (e.there_is ∙ ap {B = Bool} (λ (r : ℕ). listed r (places_of a.s.now a.block)) place) refl refl refl

pub overflow_add-count : goal.overflow_add-count
overflow_add-count c = omega (arith, c.requires.1.count_le, c.requires.3)
