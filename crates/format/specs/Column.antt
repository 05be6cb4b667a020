-- Document 01, "What a column is" and "Header": the header's numbers and the whole column, of any edition. Assumes nothing.
use Rattle.std.specs.Prelude.{◌∷◌, ◌++◌}
use Rattle.format.specs.Kit.{ℕ, List, [], length, ℤ}
use Rattle.format.specs.Bytes.{bytes_of}
use Rattle.format.specs.HeaderNumbers.{number}
use Rattle.format.specs.Ids.{id_section, jumps}
use Rattle.format.specs.Codec.{Fields}
use Rattle.format.specs.Editions.{Edition, number_of, codec}

-- the header's numbers: the edition; n; p; L; J; w, the smallest value's number and g; V
pub record Head : Type 0 where
  pub edition : Edition
  pub count : ℕ
  pub power : ℕ
  pub id_bytes : ℕ
  pub jump_count : ℕ
  pub fields : Fields
  pub value_bytes : ℕ

-- the header of a column whose sections are l and v bytes long
unfoldable pub head_of : Edition → ℕ → List ℕ → List ℤ → ℕ → ℕ → Head
head_of ed p ids vs l v =
    record {
      edition = ed;
      count = length ids;
      power = p;
      id_bytes = l;
      jump_count = length (jumps p ids);
      fields = (codec ed).fields vs;
      value_bytes = v;
    }

-- in order
unfoldable pub head_numbers : Head → List ℕ
head_numbers h =
    number_of h.edition ∷ h.count ∷ h.power ∷ h.id_bytes ∷ h.jump_count
    ∷ h.fields.width ∷ h.fields.smallest ∷ h.fields.divisor ∷ h.value_bytes ∷ []

-- header, id section, value section, and nothing after them
unfoldable pub column : Edition → ℕ → List ℕ → List ℤ → List ℕ
column ed p ids vs =
    let is : List ℕ = id_section p ids in
    let xs : List ℕ = (codec ed).section vs in
    bytes_of number (head_numbers (head_of ed p ids vs (length is) (length xs))) ++ (is ++ xs)
