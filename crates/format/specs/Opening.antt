-- Opening a column: refusals 7 to 11 in order (document 01, "Header", "Refusal numbers"), and where its parts stand.
-- Assumes nothing.
use Rattle.std.specs.Prelude.{◌+◌, ◌*◌, ◌&&◌}
use Rattle.format.specs.Kit.{ℕ, Bool, List, Option, length, get_or, take, drop, leb, eqb, ℤ}
use Rattle.format.specs.Limits.{power_ok, max_count, max_jumps}
use Rattle.format.specs.Refusals.{Outcome, done, and_then, need, given, EDITION, HEADER, LENGTH}
use Rattle.format.specs.HeaderNumbers.{number_at, numbers_at}
use Rattle.format.specs.Editions.{Edition, edition_in, codec}
use Rattle.format.specs.Column.{Head}

-- the eight numbers after the edition
unfoldable pub head_from : Edition → List ℕ → Head
head_from ed ns =
    record {
      edition = ed;
      count = get_or ns 0 0;
      power = get_or ns 1 0;
      id_bytes = get_or ns 2 0;
      jump_count = get_or ns 3 0;
      fields = record { width = get_or ns 4 0; smallest = get_or ns 5 0; divisor = get_or ns 6 0 };
      value_bytes = get_or ns 7 0;
    }

-- the header rules: n, p, J within limits; L at least 6 + 8J; w, g and V as the edition says
unfoldable pub head_ok : Head → Bool
head_ok h =
    leb h.count max_count && power_ok h.power && leb h.jump_count max_jumps && leb (6 + 8 * h.jump_count) h.id_bytes
    && (codec h.edition).fields_ok h.count h.fields h.value_bytes

-- an opened column: its header, and where the id section starts
pub record Opened : Type 0 where
  pub head : Head
  pub start : ℕ

-- header + L + V is the byte count
abbrev pub length_ok : List ℕ → Opened → Bool
length_ok bytes c = eqb (c.start + c.head.id_bytes + c.head.value_bytes) (length bytes)

-- by a reader that knows these editions; EDITION is tested as soon as the first number is read
unfoldable pub open_column : List Edition → List ℕ → Outcome Opened
open_column known bytes =
    and_then (number_at bytes 0) (λ k.
    and_then (given (edition_in known k.0) EDITION 0) (λ ed.
    and_then (numbers_at 8 bytes k.1) (λ r.
    let c : Opened = record { head = head_from ed r.0; start = r.1 } in
    need (head_ok c.head) HEADER 0
    (need (length_ok bytes c) LENGTH 0
    (done c)))))

-- ---- the parts of an opened column

unfoldable pub id_part : List ℕ → Opened → List ℕ
id_part bytes c = take c.head.id_bytes (drop c.start bytes)

unfoldable pub value_part : List ℕ → Opened → List ℕ
value_part bytes c = drop (c.start + c.head.id_bytes) bytes

-- step 7's value of an ordinal in a value section, and none where the step fails: the one road to a value, taken by look-up, walk,
-- check and reading
unfoldable pub value_in : Head → List ℕ → ℕ → Option ℤ
value_in h s i = (codec h.edition).value h.count h.fields s i

unfoldable pub value_of : List ℕ → Opened → ℕ → Option ℤ
value_of bytes c i = value_in c.head (value_part bytes c) i
