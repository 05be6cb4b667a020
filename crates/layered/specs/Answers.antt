-- The code's layered answers as `format`'s. Assumes nothing.
use Rattle.format.specs.Kit.{ℕ, true, false}
use Rattle.std.specs.Prelude.{◌≡◌}
use Rattle.format.specs.Refusals.{Outcome, done}
use Rattle.format.specs.LookUp.{Look}
use Rattle.answers.specs.Replies.{refusal_number, refusal_with, refused_as}
use Rattle.format.specs.Layered as Ld
use Rattle.format.specs.LayeredReading.{LayeredCount, count_to, refused_count}
use Rattle.layered.specs.declared.Layer as La
use Rattle.layered.specs.declared.Part.{Part}
use Rattle.std.specs.Prelude.{Ok, Err}
use Rattle.std.specs.declared.result.Result.{Result}
use Rattle.answers.specs.declared.Refusal as Re
use Rattle.answers.specs.declared.Readout as Ro
use Rattle.layered.specs.declared.LayeredLook as Ly
use Rattle.layered.specs.declared.LayeredWords as Lw
use Rattle.layered.specs.declared.LayerRefusal as Rf

abbrev pub layer_of : La.Layer → Ld.Layer
layer_of La.Layer.Machine = Ld.machine
layer_of La.Layer.Correction = Ld.correction

abbrev pub layered_of : Result Ly.LayeredLook Rf.LayerRefusal → Ld.LayeredLook
layered_of (Ok (Ly.LayeredLook.Found layer o v w k)) = Ld.found_in (layer_of layer) o v w k
layered_of (Ok (Ly.LayeredLook.Absent w k)) = Ld.absent_in w k
layered_of (Err r) = Ld.refused_by (layer_of r.layer) (refusal_number r.why) (refusal_with r.why)

-- the correction's answer r is t, which is the call's; where the id is absent there, t is what the machine column's answer makes of it
abbrev pub Topped : Result Ly.LayeredLook Rf.LayerRefusal → Outcome Look → Ld.LayeredLook → Type 0
Topped (Ok (Ly.LayeredLook.Found layer o v w k)) below t = layered_of (Ok (Ly.LayeredLook.Found layer o v w k)) ≡ t
Topped (Ok (Ly.LayeredLook.Absent w k)) below t = Ld.underneath k below ≡ t
Topped (Err r) below t = layered_of (Err r) ≡ t

-- the words that an answer tells of a column; a refusal has none to tell
abbrev pub words_in : Ld.Layer → Result Ly.LayeredLook Rf.LayerRefusal → ℕ
words_in layer (Ok (Ly.LayeredLook.Found l o v w k)) = Ld.of_layer w k layer
words_in layer (Ok (Ly.LayeredLook.Absent w k)) = Ld.of_layer w k layer
words_in layer (Err r) = 0

-- a page's sums of words, the machine column's first
abbrev pub layered_reply_of : Result Lw.LayeredWords Re.Refusal → Outcome (ℕ × ℕ)
layered_reply_of (Ok sums) = done (sums.machine_words, sums.correction_words)
layered_reply_of (Err why) = refused_as why

abbrev pub layered_readout_of : Result Ro.Readout Rf.LayerRefusal → LayeredCount
layered_readout_of (Ok (Ro.Readout.More n)) = count_to n false
layered_readout_of (Ok (Ro.Readout.Ended n)) = count_to n true
layered_readout_of (Err r) = refused_count (layer_of r.layer) (refusal_number r.why) (refusal_with r.why)

-- this column refuses
abbrev pub refused_in : La.Layer → Re.Refusal → Rf.LayerRefusal
refused_in layer why = record { layer = layer; why = why }

-- the sums of words, the machine column's first
abbrev pub counted : ℕ → ℕ → Lw.LayeredWords
counted w k = record { machine_words = w; correction_words = k }

abbrev pub part_of : Part → Ld.Part
part_of p = Ld.part (layer_of p.layer) p.start p.len
