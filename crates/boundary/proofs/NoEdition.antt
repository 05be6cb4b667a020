-- A column handed in whose edition number is none. Assumes nothing.
use Rattle.format.specs.Kit.{◌≡◌, false, and-false, List, none, ℕ, ◌+◌, ◌<◌, arith, get_or, leb, ℤ}
use Rattle.format.specs.Limits.{max_id, max_width}
use Rattle.format.specs.Refusals.{refused, need, EDITION, HEADER, ID, BACK}
use Rattle.format.specs.Editions.{plain, number_of, editions, edition_in}
use Rattle.format.specs.Column.{Head}
use Rattle.format.specs.Opening.{head_ok}
use Rattle.format.specs.LookUp.{look_up_in}
use Rattle.format.specs.Next.{next_in}
use Rattle.format.specs.FirstBetween.{first_between_in}
use Rattle.laws.proofs.Editions.{wide}
use Rattle.answers.specs.Words.{numbers_in, opened_in}

too_wide : (h : Head) → max_width < h.fields.width → head_ok h ≡ false
unfolding head_ok
too_wide h w = rw (wide h.edition h.count h.fields h.value_bytes w, and-false)

-- it is refused with HEADER, after ID and before anything else
pub no_edition : (bytes ws : List ℕ) (id : ℕ) → edition_in editions (get_or ws 2 0) ≡ none
    → look_up_in bytes (opened_in ws) id ≡ need (leb id max_id) ID 0 (refused HEADER 0)
unfolding look_up_in need
no_edition bytes ws id e = rw (e, too_wide (numbers_in plain (max_width + 1) ws).head (omega arith))

pub no_edition_next : (bytes ws : List ℕ) (last t : ℕ) → edition_in editions (get_or ws 2 0) ≡ none
    → next_in bytes (opened_in ws) last t ≡ need (leb t max_id) ID 0 (need (leb last t) BACK 0 (refused HEADER 0))
unfolding next_in need
no_edition_next bytes ws last t e = rw (e, too_wide (numbers_in plain (max_width + 1) ws).head (omega arith))

-- the question is for edition 3 alone, and refuses such a column as any other
pub no_edition_between : (bytes ws : List ℕ) (a b : ℤ) → edition_in editions (get_or ws 2 0) ≡ none
    → first_between_in bytes (opened_in ws) a b ≡ refused EDITION 0
unfolding first_between_in need number_of
no_edition_between bytes ws a b e = rw e
