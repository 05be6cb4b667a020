-- `writer::put_column` meets its contract. Assumes nothing.
use Rattle.format.specs.Kit.{◌≡◌, ap, ap₂, ◌∙◌, List, arith, ℕ, ◌+◌, ◌≤◌, length, sets}
use Rattle.format.specs.Bytes.{bytes_of}
use Rattle.format.specs.HeaderNumbers.{number}
use Rattle.format.specs.Ids.{id_section}
use Rattle.format.specs.Editions.{Edition, codec}
use Rattle.format.specs.Column.{Head, head_numbers, column}
use Rattle.values.specs.Edition.{edition_of}
use Rattle.column.specs.Opened.{head_is}
use Rattle.writer.proofs.Written.{power_as, column_length, ids_bytes, fields_are, parts_put, values_room}
use Rattle.writer.proofs.put_column.Goals as goal
use Rattle.writer.proofs.put_column.Goals.{After-size, After-size-p, Start}

abbrev ed : Start → Edition
ed s = edition_of s.args.head.edition

abbrev head : Start → Head
head s = head_is s.args.head

-- the column is header, id section and value section
three : (s : Start)
    → (let a = s.args in
    length (column (ed s) a.power a.ids.now a.values.now)
    ≡ length (bytes_of number (head_numbers (head s))) + length (id_section a.power a.ids.now) + length ((codec (ed s)).section a.values.now))
three s = let a = s.args in column_length (ed s) a.power a.ids.now a.values.now (head s) s.requires.1.head

ids_long : (s : Start) → (head s).id_bytes ≡ length (id_section s.args.power s.args.ids.now)
ids_long s = let a = s.args in ids_bytes (ed s) a.power a.ids.now a.values.now (head s) s.requires.1

the_power : (c : After-size-p) → c.size-p.result ≡ c.args.power
the_power c = c.size-p.ensures ∙ c.wide32.ensures.0

-- the value section goes to the place after header and id section, and has room there
fits : (c : After-size)
    → (c.put_header-start.result + c.size.result + length ((codec (ed (goal.at.After-size c).Start)).section c.args.values.now)
    ≤ length c.put_section.new.out)
fits c =
    omega (
      arith,
      three (goal.at.After-size c).Start,
      ids_long (goal.at.After-size c).Start,
      c.requires.2,
      c.size.ensures,
      c.put_header-start.ensures.0,
      c.put_header-start.auto.out,
      c.put_section.auto.out,
    )

pub put_header-start-requires : goal.put_header-start-requires
put_header-start-requires c = omega (arith, three (goal.at.put_header-start-requires c).Start, c.requires.2)

pub put_section-requires : goal.put_section-requires
put_section-requires c =
    let a = c.args in
    let e : length (id_section c.size-p.result a.ids.now) ≡ length (id_section a.power a.ids.now) =
    ap (λ (x : ℕ). length (id_section x a.ids.now)) (the_power (goal.at.put_section-requires c).After-size-p) in (
      c.requires.0.ascending,
      c.requires.0.range,
      power_as a.power a.ids.now a.values.now c.size-p.result c.requires.0 (the_power (goal.at.put_section-requires c).After-size-p),
      omega (arith, e, three (goal.at.put_section-requires c).Start, c.requires.2, c.put_header-start.ensures.0, c.put_header-start.auto.out),
    )

pub overflow_add-at : goal.overflow_add-at
overflow_add-at c = omega (arith, fits c)

pub slice_bounds-put-count : goal.slice_bounds-put-count
slice_bounds-put-count c = omega (arith, fits (goal.at.slice_bounds-put-count c).After-size)

pub slice_bounds-put-start : goal.slice_bounds-put-start
slice_bounds-put-start c = omega (arith, fits (goal.at.slice_bounds-put-start c).After-size)

pub put-requires : goal.put-requires
put-requires c =
    let a = c.args in (
      fields_are (ed (goal.at.put-requires c).Start) a.power a.ids.now a.values.now (head (goal.at.put-requires c).Start) c.requires.1,
      c.requires.0.fit,
      c.requires.3,
      values_room (ed (goal.at.put-requires c).Start) a.power a.ids.now a.values.now (head (goal.at.put-requires c).Start) c.requires.1.head c.put_section.new.out
          (c.put_header-start.result + c.size.result) (fits (goal.at.put-requires c).After-size),
    )

pub returns : goal.returns
returns c =
    let t = c.put_section in
    let a = c.args in
    let i = c.put_header-start in
    parts_put (ed (goal.at.returns c).Start) a.power a.ids.now a.values.now (head (goal.at.returns c).Start) c.requires.1.head a.out.now t.new.out c.put.new.out
    i.result (i.result + c.size.result) c.requires.2 i.ensures.0 (ap (λ (x : ℕ). i.result + x) (c.size.ensures ∙ ids_long (goal.at.returns c).Start))
    (t.ensures ∙ ap₂ (λ (x : List ℕ) (y : ℕ). sets x i.result (id_section y a.ids.now)) i.ensures.1 (the_power (goal.at.returns c).After-size-p))
    (omega (arith, i.auto.out, t.auto.out)) c.put.ensures
