-- What one place of a page holds, and what a page leaves: the three lists before and after (with '), and the words. Assumes nothing.
use Rattle.std.specs.Prelude.{◌≡◌, ◌≤◌, ◌%◌, ◌^◌}
use Rattle.format.specs.Kit.{List, ℕ, ℤ, map, set, sets}
use Rattle.format.specs.Refusals.{Outcome}
use Rattle.format.specs.LookUp.{Look}
use Rattle.format.specs.Page.{place_kind, place_ordinal, place_value, place_words, page_words, page_reply, page_after}
use Rattle.answers.specs.Replies.{reply_of}
use Rattle.page.specs.declared.Held.{Held}
use Rattle.std.specs.declared.result.Result.{Result}
use Rattle.answers.specs.declared.Refusal as Re

-- what a place holds is that of an answer
pub record Holds (x : Outcome Look) (h : Held) : Type 0 where
  pub ordinal : h.ordinal ≡ place_ordinal x
  pub value : h.value ≡ place_value x
  pub kind : h.kind ≡ place_kind x
  pub words : h.words ≡ place_words x

-- it is stored in place i
pub record Stored (h : Held) (i : ℕ) (os os' : List ℕ) (vs vs' : List ℤ) (ks ks' : List ℕ) : Type 0 where
  pub ordinal : os' ≡ set os i h.ordinal
  pub value : vs' ≡ set vs i h.value
  pub kind : ks' ≡ set ks i h.kind

-- lists of so many ordinals, values and kinds have room for n
pub record Room (n ordinals values kinds : ℕ) : Type 0 where
  pub ordinals_long : n ≤ ordinals
  pub values_long : n ≤ values
  pub kinds_long : n ≤ kinds

-- answers in the first places
pub record Paged (xs : List (Outcome Look)) (os os' : List ℕ) (vs vs' : List ℤ) (ks ks' : List ℕ) (w : ℕ) : Type 0 where
  pub in_ordinals : os' ≡ sets os 0 (map place_ordinal xs)
  pub in_values : vs' ≡ sets vs 0 (map place_value xs)
  pub in_kinds : ks' ≡ sets ks 0 (map place_kind xs)
  pub words : w ≡ page_words xs % 2 ^ 64

-- the call's reply, and each list
abbrev pub Leaves : Outcome (List (Outcome Look)) → Result ℕ Re.Refusal → List ℕ → List ℕ → List ℤ → List ℤ → List ℕ → List ℕ → Type 0
Leaves p r os os' vs vs' ks ks' =
    (reply_of r ≡ page_reply p)
    × ((os' ≡ page_after place_ordinal p os) × ((vs' ≡ page_after place_value p vs) × (ks' ≡ page_after place_kind p ks)))
