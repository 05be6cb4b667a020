-- The calls, by the tests that come first. Assumes nothing.
use Rattle.format.specs.Kit.{◌≡◌, refl, List, ℕ, ℤ, true, false, leb}
use Rattle.format.specs.Limits.{max_id}
use Rattle.format.specs.Refusals.{done, refused, and_then, need, HEADER, LENGTH, ID}
use Rattle.format.specs.Editions.{Edition}
use Rattle.format.specs.Opening.{Opened, open_column, head_ok, length_ok}
use Rattle.format.specs.Layered.{correction}
use Rattle.format.specs.LayeredReading.{next_of_both, layered_steps, LayeredRead, read_to, refused_read, both_then, answering_from, column_from, column_from_in}
use Rattle.format.specs.LayeredReading.{read_layered, read_layered_in, layered_read_reply, layered_read_after}
use Rattle.layered_reading.specs.Parts.{read_layered_steps}
use Rattle.layered_reading.specs.Buffers.{RefusedAs, Leaves}
use Rattle.std.specs.Prelude.{Ok, Err}
use Rattle.std.specs.declared.result.Result.{Result}
use Rattle.answers.specs.declared.Readout as Ro
use Rattle.layered.specs.declared.LayerRefusal as Rf

pub leaves_as : (o p : LayeredRead) (r : Result Ro.Readout Rf.LayerRefusal) (ids ids' : List ℕ) (vs vs' : List ℤ) (cs cs' : List ℕ) → o ≡ p
    → Leaves p r ids ids' vs vs' cs cs' → Leaves o r ids ids' vs vs' cs cs'
leaves_as o p r ids ids' vs vs' cs cs' e h = rw e h

pub refused_leaves : (o : LayeredRead) (r : Result Ro.Readout Rf.LayerRefusal) (ids : List ℕ) (vs : List ℤ) (cs : List ℕ) → RefusedAs o r → Leaves o r ids ids vs vs cs cs
unfolding layered_read_reply layered_read_after
refused_leaves o (Ok (Ro.Readout.More n)) ids vs cs e = absurd e
refused_leaves o (Ok (Ro.Readout.Ended n)) ids vs cs e = absurd e
refused_leaves o (Err y) ids vs cs e = rw e (refl, (refl, (refl, refl)))

-- the reading of two columns that are there
abbrev pub read_both : List ℕ → List ℕ → ℕ → ℕ → Opened → Opened → LayeredRead
read_both m c t room y x = read_to (layered_steps (next_of_both m x c y) room t)

-- ---- from columns opened before

module _ (m : List ℕ) (x : Opened) (c : List ℕ) (y : Opened) (t room : ℕ) where
  pub id_above_in : leb t max_id ≡ false → read_layered_in m x c y t room ≡ refused_read correction ID 0
  unfolding read_layered_in column_from_in both_then need
  id_above_in h = rw h refl

  module _ (h : leb t max_id ≡ true) where
    pub header_above_in : head_ok y.head ≡ false → read_layered_in m x c y t room ≡ refused_read correction HEADER 0
    unfolding read_layered_in column_from_in both_then need
    header_above_in k = rw (h, k) refl

    module _ (k : head_ok y.head ≡ true) where
      pub length_above_in : length_ok c y ≡ false → read_layered_in m x c y t room ≡ refused_read correction LENGTH 0
      unfolding read_layered_in column_from_in both_then need
      length_above_in l = rw (h, k, l) refl

      module _ (l : length_ok c y ≡ true) where
        pub header_below_in : head_ok x.head ≡ false
            → read_layered_in m x c y t room ≡ both_then (answering_from c t y) (refused HEADER 0) (read_both m c t room)
        unfolding read_layered_in column_from_in need
        header_below_in i = rw (h, k, l, i) refl

        module _ (i : head_ok x.head ≡ true) where
          pub length_below_in : length_ok m x ≡ false
              → read_layered_in m x c y t room ≡ both_then (answering_from c t y) (refused LENGTH 0) (read_both m c t room)
          unfolding read_layered_in column_from_in need
          length_below_in j = rw (h, k, l, i, j) refl

          pub steps_in : length_ok m x ≡ true → read_layered_in m x c y t room ≡ read_layered_steps m x c y t room
          unfolding read_layered_in column_from_in need
          steps_in j = rw (h, k, l, i, j) refl

-- ---- from bytes

module _ (known : List Edition) (m c : List ℕ) (t room : ℕ) where
  pub id_above : leb t max_id ≡ false → read_layered known m c t room ≡ refused_read correction ID 0
  unfolding read_layered column_from both_then need
  id_above h = rw h refl

  module _ (h : leb t max_id ≡ true) where
    pub open_above : (why w : ℕ) → open_column known c ≡ refused why w → read_layered known m c t room ≡ refused_read correction why w
    unfolding read_layered column_from both_then need and_then
    open_above why w e = rw (h, e) refl

    module _ (y : Opened) (ey : open_column known c ≡ done y) where
      pub open_below : (why w : ℕ) → open_column known m ≡ refused why w
          → read_layered known m c t room ≡ both_then (answering_from c t y) (refused why w) (read_both m c t room)
      unfolding read_layered column_from need and_then
      open_below why w e = rw (h, ey, e) refl

      pub steps_from : (x : Opened) → open_column known m ≡ done x → read_layered known m c t room ≡ read_layered_steps m x c y t room
      unfolding read_layered column_from need and_then
      steps_from x e = rw (h, ey, e) refl
