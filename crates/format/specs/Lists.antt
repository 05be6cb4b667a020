-- The list that bytes hold: of a column (document 01: "The list of accepted bytes is the pair list whose column they are"), of a bare id section
-- (document 02, [9]) and of a set on disk ([14]). Assumes nothing.
use Rattle.std.specs.Prelude.{◌≡◌}
use Rattle.format.specs.Kit.{ℕ, suc, List, length, ℤ}
use Rattle.format.specs.Limits.{max_id}
use Rattle.format.specs.Pairs.{Asc, Below, ValidIds}
use Rattle.format.specs.Editions.{Edition, Knows}
use Rattle.format.specs.Valid.{Valid}
use Rattle.format.specs.Column.{column}
use Rattle.format.specs.Ids.{jumps}
use Rattle.format.specs.Orders.{Order, id_section_in}
use Rattle.format.specs.SetBytes.{set_bytes}

-- the bytes are the column of a list of n pairs, in one of the editions that are known
pub record ColumnOf (known : List Edition) (bytes : List ℕ) (n : ℕ) : Type 0 where
  pub edition : Edition
  pub knows : Knows known edition
  pub power : ℕ
  pub ids : List ℕ
  pub values : List ℤ
  pub valid : Valid edition power ids values
  pub same_bytes : column edition power ids values ≡ bytes
  pub count : length ids ≡ n

-- they are the id section of a list of n ids within the limit, with j jump entries
pub record SectionIn (o : Order) (p j : ℕ) (s : List ℕ) (n : ℕ) : Type 0 where
  pub ids : List ℕ
  pub ascending : Asc 0 ids
  pub range : Below (suc max_id) ids
  pub bytes : id_section_in o p ids ≡ s
  pub entries : length (jumps p ids) ≡ j
  pub count : length ids ≡ n

-- and these two lists are one, whatever entry counts and numbers of ids were told of them
pub record OneList {o : Order} {p i j : ℕ} {s : List ℕ} {m n : ℕ} (x : SectionIn o p i s m) (y : SectionIn o p j s n) : Type 0 where
  pub ids : x.ids ≡ y.ids
  pub entries : i ≡ j
  pub count : m ≡ n

-- they are the set of a list of n ids
pub record SetOf (bytes : List ℕ) (n : ℕ) : Type 0 where
  pub ids : List ℕ
  pub valid : ValidIds ids
  pub same_bytes : set_bytes ids ≡ bytes
  pub count : length ids ≡ n
