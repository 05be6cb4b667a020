-- `set_check::place_in` meets its contract. Assumes nothing.
use Rattle.format.specs.Kit.{◌≡◌, ap, ◌∙◌, not, ◌+◌, arith, drop}
use Rattle.format.specs.IdsRead.{shorts}
use Rattle.format.specs.Ids.{count_below}
use Rattle.format.specs.Pairs.{Below}
use Rattle.laws.proofs.Digits.{below_all}
use Rattle.set_format.proofs.ByKind.{length_le}
use Rattle.set_format.proofs.Inside.{below_bitmap, below_list, below_missing, bitmap_fits, list_fits, there_bitmap, there_list, there_missing}
use Rattle.set_blocks.specs.Kinds.{kind_number}
use Rattle.set_blocks.specs.Found.{places_of}
use Rattle.set_blocks.proofs.Steps.{kind_le}
use Rattle.set_check.specs.Tally.{Placed}
use Rattle.set_check.proofs.place_in.Goals as goal
use Rattle.set_check.proofs.place_in.Goals.{After-long-x, After-list_place-p}

bytes : (c : After-long-x) → Below 256 c.args.s.now
bytes c = below_all 256 c.args.s.now (λ i. (c.type_inv.s i).fits)

pub bits_place-requires : goal.bits_place-requires
bits_place-requires c =
    let a = c.args in
    let u = bytes (goal.at.bits_place-requires c).After-long-x in
    (bitmap_fits a.s.now u (kind_number a.block.kind) a.block.long a.block.start c.requires.0.data_is a.r c.requires.1 (ap kind_number c.in-Bitmap.is), c.requires.1)

pub returns-in-Bitmap : goal.returns-in-Bitmap
returns-in-Bitmap c =
    let a = c.args in
    let b = a.block in
    let u = bytes (goal.at.returns-in-Bitmap c).After-long-x in
    let e = c.bits_place.ensures in
    let k = ap kind_number c.in-Bitmap.is in (
      record {
        below_is = e.0 ∙ below_bitmap a.s.now u (kind_number b.kind) b.long b.start c.requires.0.data_is a.r c.requires.1 k;
        there_is = e.1 ∙ there_bitmap a.s.now u (kind_number b.kind) b.long b.start c.requires.0.data_is a.r c.requires.1 k;
      },
      e.2,
    )

pub list_place-requires : goal.list_place-requires
list_place-requires c =
    let a = c.args in
    let k : kind_number a.block.kind ≡ 0 = ap kind_number c.in-Listed.is in
    list_fits a.s.now (bytes (goal.at.list_place-requires c).After-long-x) (kind_number a.block.kind) a.block.long a.block.start c.requires.0.data_is a.r c.requires.1 (omega arith)

pub returns-in-Listed : goal.returns-in-Listed
returns-in-Listed c =
    let a = c.args in
    let b = a.block in
    let o = c.requires.0 in
    let u = bytes (goal.at.returns-in-Listed c).After-long-x in
    let p : Placed a.r (shorts b.long (drop b.start a.s.now)) c.list_place.result = rw c.long-x.ensures at c.list_place.ensures.0 in
    let k = ap kind_number c.in-Listed.is in (
      record {
        below_is = p.below_is ∙ below_list a.s.now u (kind_number b.kind) b.long b.start o.data_is a.r c.requires.1 k;
        there_is = p.there_is ∙ there_list a.s.now u (kind_number b.kind) b.long b.start o.data_is a.r c.requires.1 k;
      },
      omega (arith, c.list_place.ensures.1, length_le (kind_number b.kind) b.long (kind_le b.kind) o.long_is),
    )

pub list_place-p-requires : goal.list_place-p-requires
list_place-p-requires c =
    let a = c.args in
    let k : kind_number a.block.kind ≡ 1 = ap kind_number c.in-Missing.is in
    list_fits a.s.now (bytes (goal.at.list_place-p-requires c).After-long-x) (kind_number a.block.kind) a.block.long a.block.start c.requires.0.data_is a.r c.requires.1 (omega arith)

-- what the list of the missing ones says of the place itself
missing_ones : (c : After-list_place-p) → (let a = c.args in Placed a.r (shorts a.block.long (drop a.block.start a.s.now)) c.list_place-p.result)
missing_ones c = rw c.long-x.ensures at c.list_place-p.ensures.0

-- the places below r that are there, and those that are not
both_below : (c : After-list_place-p) → (let a = c.args in count_below a.r (places_of a.s.now a.block) + c.list_place-p.result.below ≡ a.r)
both_below c =
    let a = c.args in
    let b = a.block in
    let m =
    below_missing a.s.now (bytes (goal.at.After-list_place-p c).After-long-x) (kind_number b.kind) b.long b.start c.requires.0.data_is a.r c.requires.1
    (ap kind_number c.in-Missing.is) in
    omega (arith, (missing_ones c).below_is, m)

pub overflow_sub-result : goal.overflow_sub-result
overflow_sub-result c = omega (arith, c.long-x.ensures, both_below (goal.at.overflow_sub-result c).After-list_place-p)

pub returns-in-Missing : goal.returns-in-Missing
returns-in-Missing c =
    let a = c.args in
    let b = a.block in
    let at = (goal.at.returns-in-Missing c).After-list_place-p in (
      record {
        below_is = omega (arith, c.long-x.ensures, both_below at);
        there_is =
            ap not (missing_ones at).there_is
            ∙ there_missing a.s.now (bytes (goal.at.returns-in-Missing c).After-long-x) (kind_number b.kind) b.long b.start c.requires.0.data_is a.r c.requires.1
            (ap kind_number c.in-Missing.is);
      },
      omega (arith, c.long-x.ensures, c.requires.1),
    )
