-- `lookup::apart::steps_of` meets its contract: `locate` leaves step 7, and the value section answers it. Assumes nothing.
use Rattle.format.specs.Kit.{◌≡◌, refl, sym, ap, ◌∙◌, subst, eqb-true}
use mir.Facts.{to_z-of_z}
use mir.Syntax.{w64}
use Rattle.format.specs.Opening.{Opened, value_of}
use Rattle.format.specs.LookUp.{halved, steps, step_probes}
use Rattle.values.specs.Edition.{edition_of, fetched_of}
use Rattle.lookup.specs.Steps.{Asked, located, ProbedIn}
use Rattle.answers.specs.Words.{laid_out}
use Rattle.lookup.specs.declared.Located as Lo
use Rattle.lookup.proofs.Whole.{Parted, id_part_lem, value_fits, value_found, value_outside, not_located}
use Rattle.lookup.proofs.apart.steps_of.Goals as goal
use Rattle.lookup.proofs.apart.steps_of.Goals.{After-locate-place, After-size, After-value_in, Start}

-- the column that is lent
abbrev col : Start → Opened
col s = laid_out (edition_of s.args.edition) s.args.words.now

parted : (c : After-size) → Parted c.args.bytes.now (col (goal.at.After-size c).Start) c.size-start.result c.size.result
parted c =
    let e = c.laid-column.ensures in
    record {
      starts = c.size-start.ensures ∙ ap (λ (x : Opened). x.start) e;
      ids = c.size.ensures ∙ ap (λ (x : Opened). x.head.id_bytes) e;
      whole = eqb-true _ _ c.requires.1;
    }

asked : (c : After-locate-place) → Asked (col (goal.at.After-locate-place c).Start) c.args.id c.ask_of.result
asked c =
    subst (λ (x : Opened). Asked x c.args.id c.ask_of.result) c.laid-column.ensures c.ask_of.ensures.0

-- step 7 is left
left : (c : After-locate-place) → located c.args.bytes.now (col (goal.at.After-locate-place c).Start) c.locate-place.result ≡ steps halved c.args.bytes.now (col (goal.at.After-locate-place c).Start) c.args.id
left c =
    c.locate-place.ensures.steps_left c.args.bytes.now (col (goal.at.After-locate-place c).Start) c.args.id (asked c) (id_part_lem (parted (goal.at.After-locate-place c).After-size))

probed : (c : After-locate-place) → ProbedIn (step_probes c.args.bytes.now (col (goal.at.After-locate-place c).Start) c.args.id) c.locate-place.result
probed c =
    c.locate-place.ensures.probed c.args.bytes.now (col (goal.at.After-locate-place c).Start) c.args.id (asked c) (id_part_lem (parted (goal.at.After-locate-place c).After-size))

left_at : (c : After-value_in) → steps halved c.args.bytes.now (col (goal.at.After-value_in c).Start) c.args.id ≡ located c.args.bytes.now (col (goal.at.After-value_in c).Start) (Lo.Located.At c.in-At.ordinal c.in-At.counted c.in-At.probes)
left_at c =
    sym (left (goal.at.After-value_in c).After-locate-place) ∙ ap (located c.args.bytes.now (col (goal.at.After-value_in c).Start)) c.in-At.is

read : (c : After-value_in) → fetched_of c.value_in.result ≡ value_of c.args.bytes.now (col (goal.at.After-value_in c).Start) c.in-At.ordinal
read c =
    c.value_in.ensures ∙ ap (value_of c.args.bytes.now (col (goal.at.After-value_in c).Start)) c.wide32-ordinal.ensures.0

pub returns-in_default-place : goal.returns-in_default-place
returns-in_default-place c =
    (sym (not_located _ _ c.locate-place.result c.in_default.not-At c.in_default-place.not-Absent) ∙ left (goal.at.returns-in_default-place c).After-locate-place, tt, (refl, refl))

pub returns-in_default : goal.returns-in_default
returns-in_default c =
    (sym (ap (located c.args.bytes.now (col (goal.at.returns-in_default c).Start)) c.in-Absent.is) ∙ left (goal.at.returns-in_default c).After-locate-place, rw c.in-Absent.is at (probed (goal.at.returns-in_default c).After-locate-place), tt)

pub returns-in_default-value_in : goal.returns-in_default-value_in
returns-in_default-value_in c =
    (sym (left_at (goal.at.returns-in_default-value_in c).After-value_in ∙ value_outside _ _ c.value_in.result (read (goal.at.returns-in_default-value_in c).After-value_in) c.in_default-value_in.is), tt, (refl, refl))

pub returns : goal.returns
returns c =
    let z = c.in-Some.value in
    let e = c.in-Some.is in
    let f = value_fits c.args.bytes.now (col (goal.at.returns c).Start) _ z (sym (read (goal.at.returns c).After-value_in) ∙ ap fetched_of e) in
    let r = to_z-of_z {w = w64} {z = z} (record { sfits = f }) in (
      rw (r, c.wide32-ordinal.ensures.0) (sym (left_at (goal.at.returns c).After-value_in ∙ value_found _ _ c.value_in.result (read (goal.at.returns c).After-value_in) z e)),
      rw c.in-At.is at (probed (goal.at.returns c).After-locate-place),
      rw r f,
    )
