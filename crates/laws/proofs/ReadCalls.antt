-- The calls by their tests; and that from a column opened before the call answers as it does from the bytes. Assumes nothing.
use Rattle.format.specs.Kit.{◌≡◌, true, false, List, ℕ, leb}
use Rattle.format.specs.Limits.{max_id}
use Rattle.format.specs.Refusals.{done, refused, and_then, need, HEADER, LENGTH, ID}
use Rattle.format.specs.Editions.{Edition}
use Rattle.format.specs.Opening.{Opened, open_column, head_ok, length_ok}
use Rattle.laws.proofs.Open.{opened_ok}
use Rattle.format.specs.ReadFrom.{read_steps, read_from, read_from_in}

module _ (known : List Edition) (bytes : List ℕ) (t room : ℕ) where
  pub id_above : leb t max_id ≡ false → read_from known bytes t room ≡ refused ID 0
  unfolding read_from need
  id_above h = rw h

  module _ (h : leb t max_id ≡ true) where
    pub not_opened : (why w : ℕ) → open_column known bytes ≡ refused why w → read_from known bytes t room ≡ refused why w
    unfolding read_from need and_then
    not_opened why w e = rw (h, e)

    pub opened : (c : Opened) → open_column known bytes ≡ done c → read_from known bytes t room ≡ read_steps bytes c t room
    unfolding read_from need and_then
    opened c e = rw (h, e)

module _ (bytes : List ℕ) (c : Opened) (t room : ℕ) where
  pub id_above_in : leb t max_id ≡ false → read_from_in bytes c t room ≡ refused ID 0
  unfolding read_from_in need
  id_above_in h = rw h

  module _ (h : leb t max_id ≡ true) where
    pub header_in : head_ok c.head ≡ false → read_from_in bytes c t room ≡ refused HEADER 0
    unfolding read_from_in need
    header_in e = rw (h, e)

    pub length_in : head_ok c.head ≡ true → length_ok bytes c ≡ false → read_from_in bytes c t room ≡ refused LENGTH 0
    unfolding read_from_in need
    length_in e f = rw (h, e, f)

    pub steps_in : head_ok c.head ≡ true → length_ok bytes c ≡ true → read_from_in bytes c t room ≡ read_steps bytes c t room
    unfolding read_from_in need
    steps_in e f = rw (h, e, f)

  pub opened_read_from : (known : List Edition) → open_column known bytes ≡ done c → read_from_in bytes c t room ≡ read_from known bytes t room
  unfolding read_from_in read_from and_then need
  opened_read_from known o =
      let k = opened_ok known bytes c o in
      rw (o, k.rules, k.lengths)
