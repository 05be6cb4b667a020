-- `set_blocks::data_count` meets its contract. Assumes nothing.
use Rattle.format.specs.Kit.{◌≡◌, sym, ap, ◌∙◌, ◌+◌, ◌≤◌, arith, length, eqb-false, eqb-true}
use Rattle.format.specs.Pairs.{Below}
use Rattle.format.specs.SetCalls.{set_data_bytes}
use Rattle.laws.proofs.Digits.{below_all}
use Rattle.set_format.proofs.ByKind.{bytes_bitmap, bytes_list, count_bitmap, count_listed, count_missing, cut_off, length_le, not_ascending, other_ones}
use Rattle.set_blocks.specs.Kinds.{kind_number}
use Rattle.set_blocks.proofs.Steps.{kind_le, by_test}
use Rattle.set_blocks.proofs.data_count.Goals as goal
use Rattle.set_blocks.proofs.data_count.Goals.{Start, Else-s-at}

small : (c : Start) → c.args.c ≤ 4096
small c = length_le (kind_number c.args.kind) c.args.c (kind_le c.args.kind) c.requires

-- after the first two tests the data are not cut off, and they are bytes
fits : (c : Else-s-at) → (let a = c.args in a.at + set_data_bytes (kind_number a.kind) a.c ≤ length a.s.now)
fits c = let d = c.data_bytes.ensures.0 in omega arith

all_bytes : (c : Else-s-at) → Below 256 c.args.s.now
all_bytes c = below_all 256 c.args.s.now (λ i. (c.type_inv.s i).fits)

pub data_bytes-requires : goal.data_bytes-requires
data_bytes-requires c = small (goal.at.data_bytes-requires c).Start

pub returns-then-at-s : goal.returns-then-at-s
returns-then-at-s c = let a = c.args in sym (cut_off (kind_number a.kind) a.c a.s.now a.at (omega arith))

pub returns-then-s-at : goal.returns-then-s-at
returns-then-s-at c =
    let a = c.args in
    let d = c.data_bytes.ensures.0 in
    sym (cut_off (kind_number a.kind) a.c a.s.now a.at (omega arith))

pub list_count-requires : goal.list_count-requires
list_count-requires c =
    let k : kind_number c.args.kind ≡ 0 = ap kind_number c.in-Listed.is in
    omega (arith, fits (goal.at.list_count-requires c).Else-s-at, bytes_list (kind_number c.args.kind) c.args.c (omega arith))

pub returns-in-Listed : goal.returns-in-Listed
returns-in-Listed c =
    let a = c.args in
    let t = kind_number a.kind in
    let k : t ≡ 0 = ap kind_number c.in-Listed.is in
    let f = fits (goal.at.returns-in-Listed c).Else-s-at in
    c.list_count.ensures ∙ by_test _ _ _ (not_ascending t a.c a.s.now a.at (omega arith) f) (count_listed t a.c a.s.now a.at k f)

pub list_count-requires-in-Missing : goal.list_count-requires-in-Missing
list_count-requires-in-Missing c =
    let k : kind_number c.args.kind ≡ 1 = ap kind_number c.in-Missing.is in
    omega (arith, fits (goal.at.list_count-requires-in-Missing c).Else-s-at, bytes_list (kind_number c.args.kind) c.args.c (omega arith))

pub returns-in-Missing : goal.returns-in-Missing
returns-in-Missing c =
    let a = c.args in
    let t = kind_number a.kind in
    let k : t ≡ 1 = ap kind_number c.in-Missing.is in
    let at = (goal.at.returns-in-Missing c).Else-s-at in
    c.list_count-in-Missing.ensures
    ∙ by_test _ _ _ (not_ascending t a.c a.s.now a.at (omega arith) (fits at)) (count_missing t a.c a.s.now a.at (all_bytes at) k (fits at))

pub bitmap_count-requires : goal.bitmap_count-requires
bitmap_count-requires c =
    omega (arith, fits (goal.at.bitmap_count-requires c).Else-s-at, bytes_bitmap (kind_number c.args.kind) c.args.c (ap kind_number c.in-Bitmap.is))

pub returns-in-Bitmap : goal.returns-in-Bitmap
returns-in-Bitmap c =
    let a = c.args in
    let t = kind_number a.kind in
    let k : t ≡ 2 = ap kind_number c.in-Bitmap.is in
    let at = (goal.at.returns-in-Bitmap c).Else-s-at in
    c.bitmap_count.ensures
    ∙ by_test _ _ _ (λ q. other_ones t a.c a.s.now a.at k (fits at) (eqb-false _ _ q)) (λ q. count_bitmap t a.c a.s.now a.at (all_bytes at) k (fits at) (eqb-true _ _ q))

pub overflow_sub-c : goal.overflow_sub-c
overflow_sub-c c = omega (arith, small (goal.at.overflow_sub-c c).Start)
