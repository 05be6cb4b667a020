-- `scaled_reader::fill_windows` meets its contract. Assumes nothing.
use Rattle.format.specs.Kit.{◌≡◌, sym, subst, true, ◌≤◌, length}
use Rattle.format.specs.Codec.{scaled}
use Rattle.answers.specs.Replies.{fields_of}
use Rattle.packings.specs.declared.Order as Od
use Rattle.packings.specs.Packings.{packing_of}
use Rattle.scaled_reader.specs.Stored.{AllFit, FilledTo}
use Rattle.scaled_reader.proofs.fill_windows.Goals as goal

pub fill_high-requires : goal.fill_high-requires
fill_high-requires c =
    let a = c.args in
    subst (λ (o : Od.Order).
    ((scaled (packing_of o)).fields_ok a.n (fields_of a.fields) (length a.section.now) ≡ true) × (a.n ≤ length a.values.now)
    × AllFit o a.n (fields_of a.fields) a.section.now)
    c.in-High.is (c.requires.1, c.requires.2, c.requires.3)

pub returns-in-High : goal.returns-in-High
returns-in-High c =
    let f = c.fill_high in
    let a = c.args in
    subst (λ (o : Od.Order).
    (f.result ≤ a.n) × FilledTo o a.n (fields_of a.fields) a.section.now a.values.now f.new.values f.result)
    (sym c.in-High.is) f.ensures

pub fill_ones-requires : goal.fill_ones-requires
fill_ones-requires c = c.requires

pub shape_of-values-then-fields-gt14 : goal.shape_of-values-then-fields-gt14
shape_of-values-then-fields-gt14 c = c.fill_ones.ensures.1.kept

pub returns-then-fields-gt14 : goal.returns-then-fields-gt14
returns-then-fields-gt14 c = c.fill_ones.ensures

pub fill_fours-requires : goal.fill_fours-requires
fill_fours-requires c = let p = c.requires in (p.1, p.2, p.3, p.0)

pub shape_of-values-in-High : goal.shape_of-values-in-High
shape_of-values-in-High c = c.fill_high.ensures.1.kept

pub shape_of-values-in-Low : goal.shape_of-values-in-Low
shape_of-values-in-Low c = c.fill_fours.ensures.1.kept

pub returns-in-Low : goal.returns-in-Low
returns-in-Low c = c.fill_fours.ensures
