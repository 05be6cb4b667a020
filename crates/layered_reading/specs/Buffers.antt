-- What a buffer holds of a column, what a merge of two leaves, and how a reading ends. Lists afterwards have a '. Assumes nothing.
use Rattle.std.specs.Prelude.{◌≤◌, ◌<◌, ◌≡◌, Ok, Err}
use Rattle.std.specs.declared.result.Result.{Result}
use Rattle.format.specs.Kit.{ℕ, true, false, List, ℤ, length}
use Rattle.format.specs.Limits.{max_id}
use Rattle.format.specs.Opening.{Opened, head_ok, length_ok}
use Rattle.format.specs.Next.{next_steps}
use Rattle.format.specs.ReadFrom.{answered}
use Rattle.format.specs.Layered.{Layer}
use Rattle.format.specs.LayeredReading.{LayeredNext, next_of_both, LayeredRead, refused_read, both_then, answering_from}
use Rattle.format.specs.LayeredReading.{layered_read_reply, layered_read_after}
use Rattle.format.specs.LayeredReading.{pair_id, pair_value, pair_column}
use Rattle.layered_reading.specs.Turns.{LayeredReads}
use Rattle.layered_reading.specs.Parts.{Holds, Stopped, Refuses, Alone}
use Rattle.answers.specs.declared.Refusal as Re
use Rattle.answers.specs.declared.Readout as Ro
use Rattle.answers.specs.Replies.{refusal_number, refusal_with, refused_as}
use Rattle.layered.specs.Answers.{layer_of, layered_readout_of, refused_in}
use Rattle.layered.specs.declared.Layer as La
use Rattle.layered.specs.declared.LayerRefusal as Rf
use Rattle.layered_reading.specs.declared.Buffer.{Buffer}
use Rattle.layered_reading.specs.declared.Met.{Met}

-- ---- one column's buffer

-- its places stand in the two lists
pub record Within (is : List ℕ) (vs : List ℤ) (h : Buffer) : Type 0 where
  pub order : h.at ≤ h.count
  pub in_ids : h.count ≤ length is
  pub in_values : h.count ≤ length vs

-- of a buffer without a pair, before its column ended, nothing is known but that the column can be asked
pub record Loose (bytes : List ℕ) (c : Opened) (t : ℕ) (is : List ℕ) (vs : List ℤ) (h : Buffer) : Type 0 where
  pub within : Within is vs h
  pub known : (h.at ≡ h.count → h.ended ≡ false → ⊥) → Holds bytes c t is vs h.at h.count h.ended
  pub target : h.at ≡ h.count → h.ended ≡ false → t ≤ max_id

-- a buffer that was filled for so many pairs
pub record Fresh (bytes : List ℕ) (c : Opened) (t want : ℕ) (is : List ℕ) (vs : List ℤ) (h : Buffer) : Type 0 where
  pub within : Within is vs h
  pub holds : Holds bytes c t is vs h.at h.count h.ended
  pub answers : answered (next_steps bytes c t) ≡ true
  pub some : 0 < want → h.at ≡ h.count → h.ended ≡ true

abbrev pub Filled : List ℕ → Opened → ℕ → ℕ → List ℕ → List ℤ → Result Buffer Re.Refusal → Type 0
Filled bytes c t want is vs (Ok h) = Fresh bytes c t want is vs h
Filled bytes c t want is vs (Err why) = next_steps bytes c t ≡ refused_as why

-- ---- the lists

-- lists with room for so many pairs, of which i are there
pub record Lists (room i : ℕ) (ids : List ℕ) (vs : List ℤ) (cs : List ℕ) : Type 0 where
  pub upto : i ≤ room
  pub in_ids : room ≤ length ids
  pub in_values : room ≤ length vs
  pub in_columns : room ≤ length cs

-- ---- two buffers merged

-- of two columns (the machine column m, x and the correction c, y): the part of the reading that was merged, and what the buffers hold then
pub record Merged (m : List ℕ) (x : Opened) (c : List ℕ) (y : Opened) (room i t : ℕ) (mi : List ℕ) (mv : List ℤ) (mh : Buffer) (ci : List ℕ) (cv : List ℤ)
    (ch : Buffer) (i' t' m' c' : ℕ) (ids ids' : List ℕ) (vs vs' : List ℤ) (cs cs' : List ℕ) : Type 0 where
  pub reads : LayeredReads (next_of_both m x c y) room i t ids vs cs i' t' ids' vs' cs'
  pub lower : Holds m x t' mi mv m' mh.count mh.ended
  pub upper : Holds c y t' ci cv c' ch.count ch.ended

abbrev pub MergesTo : ℕ → ℕ → ℕ → List ℕ → List ℤ → Buffer → List ℕ → List ℤ → Buffer → ℕ → ℕ → ℕ → ℕ → List ℕ → List ℕ → List ℤ → List ℤ → List ℕ
    → List ℕ → Type 0
MergesTo room i t mi mv mh ci cv ch i' t' m' c' ids ids' vs vs' cs cs' =
    (m : List ℕ) (x : Opened) (c : List ℕ) (y : Opened) → Holds m x t mi mv mh.at mh.count mh.ended
    → Holds c y t ci cv ch.at ch.count ch.ended → Merged m x c y room i t mi mv mh ci cv ch i' t' m' c' ids ids' vs vs' cs cs'

pub record Merges (room i t : ℕ) (mi : List ℕ) (mv : List ℤ) (mh : Buffer) (ci : List ℕ) (cv : List ℤ) (ch : Buffer) (w : Met) (ids ids' : List ℕ)
    (vs vs' : List ℤ) (cs cs' : List ℕ) : Type 0 where
  pub upto : w.count ≤ room
  pub in_machine : w.machine ≤ mh.count
  pub in_correction : w.correction ≤ ch.count
  pub goes_on : i < room → mh.at < mh.count → ch.at < ch.count → i < w.count
  pub merges : MergesTo room i t mi mv mh ci cv ch w.count w.target w.machine w.correction ids ids' vs vs' cs cs'

-- ---- the end

abbrev pub Ends : (ℕ → LayeredNext) → ℕ → ℕ → ℕ → Result Ro.Readout Rf.LayerRefusal → List ℕ → List ℕ → List ℤ → List ℤ → List ℕ → List ℕ → Type 0
Ends next room i t (Ok (Ro.Readout.More n)) ids ids' vs vs' cs cs' = Stopped next room i t ids vs cs n false ids' vs' cs'
Ends next room i t (Ok (Ro.Readout.Ended n)) ids ids' vs vs' cs cs' = Stopped next room i t ids vs cs n true ids' vs' cs'
Ends next room i t (Err r) ids ids' vs vs' cs cs' =
    Refuses next i t (layer_of r.layer) (refusal_number r.why) (refusal_with r.why) ids ids' vs vs' cs cs'

-- a refusal by a column, after i pairs
abbrev pub StopsBy : La.Layer → Re.Refusal → ℕ → Result Ro.Readout Rf.LayerRefusal → Type 0
StopsBy layer why i r = (i ≡ 0 → r ≡ Err (refused_in layer why)) × ((i ≡ 0 → ⊥) → r ≡ Ok (Ro.Readout.More i))

-- ---- one column alone

abbrev pub Rests : Layer → List ℕ → Opened → ℕ → ℕ → ℕ → Result Ro.Readout Rf.LayerRefusal → List ℕ → List ℕ → List ℤ → List ℤ → List ℕ → List ℕ → Type 0
Rests layer bytes c room i t r ids ids' vs vs' cs cs' =
    (next : ℕ → LayeredNext) → Alone layer next bytes c t → Ends next room i t r ids ids' vs vs' cs cs'

-- ---- both columns

-- a column that keeps the header rules and fits its bytes
pub record Kept (bytes : List ℕ) (c : Opened) : Type 0 where
  pub rules : head_ok c.head ≡ true
  pub whole : length_ok bytes c ≡ true

-- a reply that is this refusal
abbrev pub RefusedAs : LayeredRead → Result Ro.Readout Rf.LayerRefusal → Type 0
RefusedAs o (Ok (Ro.Readout.More n)) = ⊥
RefusedAs o (Ok (Ro.Readout.Ended n)) = ⊥
RefusedAs o (Err r) = o ≡ refused_read (layer_of r.layer) (refusal_number r.why) (refusal_with r.why)

-- the machine column is refused, and the correction is asked first
abbrev pub BelowRefused : List ℕ → Opened → ℕ → Re.Refusal → Result Ro.Readout Rf.LayerRefusal → Type 0
BelowRefused c y t why r = (read : Opened → Opened → LayeredRead) → RefusedAs (both_then (answering_from c t y) (refused_as why) read) r

-- the reply, and each list
abbrev pub Leaves : LayeredRead → Result Ro.Readout Rf.LayerRefusal → List ℕ → List ℕ → List ℤ → List ℤ → List ℕ → List ℕ → Type 0
Leaves o r ids ids' vs vs' cs cs' =
    (layered_readout_of r ≡ layered_read_reply o)
    × ((ids' ≡ layered_read_after pair_id o ids) × ((vs' ≡ layered_read_after pair_value o vs) × (cs' ≡ layered_read_after pair_column o cs)))
