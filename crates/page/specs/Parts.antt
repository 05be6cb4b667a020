-- A part of a page: ids i to e (e not included), the lists before and after, and the words. Assumes nothing.
use Rattle.std.specs.Prelude.{◌≡◌, ◌+◌, ◌-◌, ◌%◌, ◌^◌, ◌≤◌, ◌<◌}
use Rattle.format.specs.Kit.{List, ℕ, zero, suc, ℤ, pos, length, get_or}
use Rattle.format.specs.Refusals.{Outcome}
use Rattle.format.specs.LookUp.{Look}
use Rattle.format.specs.Page.{place_words}
use Rattle.page.specs.Placed.{Holds}
use Rattle.page.specs.declared.Held.{Held}

-- ---- the three lists

pub record Lists : Type 0 where
  pub ordinals : List ℕ
  pub values : List ℤ
  pub kinds : List ℕ

abbrev pub three : List ℕ → List ℤ → List ℕ → Lists
three os vs ks = record { ordinals = os; values = vs; kinds = ks }

-- what stands in place j, with words
abbrev pub place_in : Lists → ℕ → ℕ → Held
place_in l j w = record { ordinal = get_or l.ordinals j 0; kind = get_or l.kinds j 0; value = get_or l.values j (pos 0); words = w }

-- they keep their lengths,
pub record Kept (l m : Lists) : Type 0 where
  pub in_ordinals : length m.ordinals ≡ length l.ordinals
  pub in_values : length m.values ≡ length l.values
  pub in_kinds : length m.kinds ≡ length l.kinds

-- and change in places i to e (e not included) alone
pub record Within (i e : ℕ) (l m : Lists) : Type 0 where
  pub kept : Kept l m
  pub below : (j w : ℕ) → j < i → place_in m j w ≡ place_in l j w
  pub above : (j w : ℕ) → e ≤ j → place_in m j w ≡ place_in l j w

-- ---- words: f i and the n - 1 after it

unfoldable pub total : (ℕ → ℕ) → ℕ → ℕ → ℕ
total f i zero = 0
total f i (suc n) = total f i n + f (i + n)

-- ---- answers in places i to e, by a look-up

abbrev pub answer_of : (ℕ → Outcome Look) → List ℕ → ℕ → Outcome Look
answer_of look ids j = look (get_or ids j 0)

abbrev pub words_at : (ℕ → Outcome Look) → List ℕ → ℕ → ℕ
words_at look ids j = place_words (answer_of look ids j)

abbrev pub answered_at : (ℕ → Outcome Look) → List ℕ → Lists → ℕ → Type 0
answered_at look ids l j = Holds (answer_of look ids j) (place_in l j (words_at look ids j))

pub record Filled (look : ℕ → Outcome Look) (ids : List ℕ) (i e : ℕ) (l m : Lists) (v w : ℕ) : Type 0 where
  pub within : Within i e l m
  pub each : (j : ℕ) → i ≤ j → j < e → answered_at look ids m j
  pub words : w ≡ (v + total (words_at look ids) i (e - i)) % 2 ^ 64
