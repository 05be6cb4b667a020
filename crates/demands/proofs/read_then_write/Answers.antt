-- `demands::read_then_write` meets its contract. Assumes nothing.
use Rattle.format.specs.Kit.{◌≡◌, refl, sym, ap, ◌∙◌, List, ℕ, arith, sub-zero, length, take}
use Rattle.format.specs.Refusals.{Outcome, done}
use Rattle.format.specs.Editions.{number_of, editions}
use Rattle.format.specs.Opening.{open_column}
use Rattle.format.specs.Writer.{write_reply, write_out}
use Rattle.std.specs.Prelude.{Ok, Err}
use Rattle.column.specs.Opened.{column_of}
use Rattle.demands.proofs.Replies.{not_done}
use Rattle.demands.proofs.Lists.{reads, not_refused}
use Rattle.demands.proofs.Writing.{read_room, power_small, number_small, first_places, again, opened_edition, opened_power}
use Rattle.demands.proofs.read_then_write.Goals as goal
use Rattle.demands.proofs.read_then_write.Goals.{After-number_of-number}

-- refused, though the bytes hold a list and the buffers have room
pub returns-in_err-n : goal.returns-in_err-n
returns-in_err-n c =
    let a = c.args in
    let e = c.in_err-n.ensures in
    λ n x hi hv ho.
    let f = reads a.bytes.now a.ids.now _ a.values.now _ (Err c.in_err-n.field-0.0) e.replies e.ids_filled e.values_filled n x hi hv in
    not_done (Err c.in_err-n.field-0.0) c.in_err-n.field-0.0 refl _ f.count

pub returns-in_err-opened : goal.returns-in_err-opened
returns-in_err-opened c =
    λ n x hi hv ho. not_refused c.args.bytes.now c.in_err-opened.ensures n x

-- the column that was opened
opens : (c : After-number_of-number) → open_column editions c.args.bytes.now ≡ done (column_of c.in_ok-opened.opened)
opens c = sym c.in_ok-opened.ensures

pub overflow_cast-number : goal.overflow_cast-number
overflow_cast-number c = omega (arith, number_small c.number_of-number.result _ c.number_of-number.ensures)

pub overflow_cast-power : goal.overflow_cast-power
overflow_cast-power c =
    omega (arith, power_small _ _ (opens (goal.at.overflow_cast-power c).After-number_of-number))

pub slice_bounds-write-end : goal.slice_bounds-write-end
slice_bounds-write-end c =
    omega (arith, (read_room _ _ _ (Ok c.in_ok-n.n) c.in_ok-n.ensures.replies _ refl).0, c.read.auto)

pub slice_bounds-write-end-2 : goal.slice_bounds-write-end-2
slice_bounds-write-end-2 c =
    omega (arith, (read_room _ _ _ (Ok c.in_ok-n.n) c.in_ok-n.ensures.replies _ refl).1, c.read.auto)

pub returns : goal.returns
unfolding write_reply write_out
returns c =
    let a = c.args in
    let e = c.in_ok-n.ensures in
    let is = c.read.new.ids in
    let xs = c.read.new.values in
    let m : ℕ = c.in_ok-n.n in
    λ n x hi hv ho.
    let f = reads a.bytes.now a.ids.now is a.values.now xs (Ok c.in_ok-n.n) e.replies e.ids_filled e.values_filled n x hi hv in
    let d = f.count in
    let s : length x.ids ≡ m = cc in
    let i = ap (λ (k : ℕ). take k is) (sub-zero m) ∙ first_places m x.ids _ is s f.ids_there in
    let v = ap (λ (k : ℕ). take k xs) (sub-zero m) ∙ first_places m x.values _ xs (sym x.valid.lengths ∙ s) f.values_there in
    let b =
    again a.bytes.now n x _ _ _ _
    (c.number_of-number.ensures ∙ ap number_of (opened_edition a.bytes.now _ (opens (goal.at.returns c).After-number_of-number) n x))
    (opened_power a.bytes.now _ (opens (goal.at.returns c).After-number_of-number) n x) i v (length a.out.now) ho in
    (c.write.ensures.replies ∙ ap write_reply b, c.write.ensures.written ∙ ap (λ (o : Outcome (List ℕ)). write_out o a.out.now) b)
