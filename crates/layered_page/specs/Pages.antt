-- What a layered page leaves: lists before and after (with '), and the sums of words. `top` looks an id up in the correction, `low` in the machine
-- column. Assumes nothing.
use Rattle.std.specs.Prelude.{◌≡◌, ◌+◌, ◌%◌, ◌^◌, ◌≤◌, ◌<◌, ◌++◌}
use Rattle.format.specs.Kit.{ℕ, List, map, ℤ, drop, get_or, length}
use Rattle.format.specs.Refusals.{Outcome, done, refused}
use Rattle.format.specs.LookUp.{Look}
use Rattle.format.specs.Page.{place_kind, place_ordinal, place_value, page_words}
use Rattle.format.specs.Layered.{LayeredLook, on_top}
use Rattle.format.specs.LayeredPage.{layered_kind, layered_ordinal, layered_value, layered_column, machine_words, correction_words, sum_of}
use Rattle.format.specs.LayeredPage.{layered_reply, layered_after}
use Rattle.layered.specs.Answers.{layered_reply_of}
use Rattle.layered_page.specs.Absent.{put_all, lost_words}
use Rattle.std.specs.declared.result.Result.{Result}
use Rattle.answers.specs.declared.Refusal as Re
use Rattle.layered.specs.declared.LayeredWords as Lw

-- an id in both
abbrev pub both : (ℕ → Outcome Look) → (ℕ → Outcome Look) → ℕ → LayeredLook
both top low id = on_top (top id) (low id)

-- no look-up is refused with 0 or 1, the kinds of found and absent
abbrev pub Numbered : (ℕ → Outcome Look) → Type 0
Numbered look = (id why w : ℕ) → look id ≡ refused why w → 1 < why

-- ---- a part of the page, in lists of as many places

-- the correction's answers
pub record Laid (top : ℕ → Outcome Look) (ids os : List ℕ) (vs : List ℤ) (ks : List ℕ) : Type 0 where
  pub in_ordinals : os ≡ map place_ordinal (map top ids)
  pub in_values : vs ≡ map place_value (map top ids)
  pub in_kinds : ks ≡ map place_kind (map top ids)

-- places that are all there,
pub record Within (ps os : List ℕ) (vs : List ℤ) (ks : List ℕ) : Type 0 where
  pub in_ordinals : (t : ℕ) → t < length ps → get_or ps t 0 < length os
  pub in_values : (t : ℕ) → t < length ps → get_or ps t 0 < length vs
  pub in_kinds : (t : ℕ) → t < length ps → get_or ps t 0 < length ks

-- and as many answers, or more
pub record Spread (ps os : List ℕ) (vs : List ℤ) (ks bos : List ℕ) (bvs : List ℤ) (bks : List ℕ) : Type 0 where
  pub within : Within ps os vs ks
  pub ordinals_long : length ps ≤ length bos
  pub values_long : length ps ≤ length bvs
  pub kinds_long : length ps ≤ length bks

-- the machine column's answers for the ids asked for, in these places; and the words: the machine column's, and those that the correction's page counts
-- too many
pub record Answers (top low : ℕ → Outcome Look) (asked ps os os' : List ℕ) (vs vs' : List ℤ) (ks ks' : List ℕ) (machine lost : ℕ) : Type 0 where
  pub in_ordinals : os' ≡ put_all os ps (map place_ordinal (map low asked))
  pub in_values : vs' ≡ put_all vs ps (map place_value (map low asked))
  pub in_kinds : ks' ≡ put_all ks ps (map place_kind (map low asked))
  pub machine_words_is : machine ≡ page_words (map low asked) % 2 ^ 64
  pub lost_words_is : lost ≡ lost_words top (map place_kind (map low asked)) asked % 2 ^ 64

-- both columns' answers, and these words
pub record Under (top low : ℕ → Outcome Look) (ids os' : List ℕ) (vs' : List ℤ) (ks' : List ℕ) (machine lost : ℕ) : Type 0 where
  pub in_ordinals : os' ≡ map layered_ordinal (map (both top low) ids)
  pub in_values : vs' ≡ map layered_value (map (both top low) ids)
  pub in_kinds : ks' ≡ map layered_kind (map (both top low) ids)
  pub machine_words_is : machine ≡ sum_of machine_words (map (both top low) ids) % 2 ^ 64
  pub lost_words_is : (sum_of correction_words (map (both top low) ids) + lost) % 2 ^ 64 ≡ page_words (map top ids) % 2 ^ 64

-- ---- the whole page, before the places that stay

pub record Above (top : ℕ → Outcome Look) (ids os : List ℕ) (vs : List ℤ) (ks : List ℕ) : Type 0 where
  pub in_ordinals : os ≡ map place_ordinal (map top ids) ++ drop (length ids) os
  pub in_values : vs ≡ map place_value (map top ids) ++ drop (length ids) vs
  pub in_kinds : ks ≡ map place_kind (map top ids) ++ drop (length ids) ks

pub record Whole (top low : ℕ → Outcome Look) (ids os os' : List ℕ) (vs vs' : List ℤ) (ks ks' : List ℕ) (r : Result Lw.LayeredWords Re.Refusal) : Type 0 where
  pub in_ordinals : os' ≡ map layered_ordinal (map (both top low) ids) ++ drop (length ids) os
  pub in_values : vs' ≡ map layered_value (map (both top low) ids) ++ drop (length ids) vs
  pub in_kinds : ks' ≡ map layered_kind (map (both top low) ids) ++ drop (length ids) ks
  pub reply : layered_reply_of r
      ≡ done (sum_of machine_words (map (both top low) ids) % 2 ^ 64, sum_of correction_words (map (both top low) ids) % 2 ^ 64)

-- the reply, and each list
abbrev pub Leaves : Outcome (List LayeredLook) → Result Lw.LayeredWords Re.Refusal → List ℕ → List ℕ → List ℤ → List ℤ → List ℕ → List ℕ → List ℕ → List ℕ → Type 0
Leaves p r os os' vs vs' ks ks' cs cs' =
    (layered_reply_of r ≡ layered_reply p)
    × ((os' ≡ layered_after layered_ordinal p os) × ((vs' ≡ layered_after layered_value p vs)
    × ((ks' ≡ layered_after layered_kind p ks) × (cs' ≡ layered_after layered_column p cs))))
