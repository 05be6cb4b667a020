-- Opening a column step by step: the first step that fails decides. Assumes nothing.
use Rattle.format.specs.Kit.{◌≡◌, List, none, some, ℕ}
use Rattle.format.specs.Refusals.{done, refused, and_then, given, EDITION}
use Rattle.answers.specs.Replies.{refused_as}
use Rattle.answers.specs.declared.Refusal.{Refusal}
use Rattle.format.specs.HeaderNumbers.{number_at, numbers_at}
use Rattle.format.specs.Editions.{Edition, editions, edition_in}
use Rattle.format.specs.Opening.{head_from, open_column}
use Rattle.column.specs.Opened.{judged_as}

module _ (bytes : List ℕ) where
  pub no_number : (why : Refusal) → number_at bytes 0 ≡ refused_as why → open_column editions bytes ≡ refused_as why
  unfolding open_column and_then
  no_number why e = rw e

  module _ (k at : ℕ) (e : number_at bytes 0 ≡ done (k, at)) where
    pub no_edition : edition_in editions k ≡ none → open_column editions bytes ≡ refused EDITION 0
    unfolding open_column and_then given
    no_edition n = rw (e, n)

    module _ (ed : Edition) (known : edition_in editions k ≡ some ed) where
      pub no_numbers : (why : Refusal) → numbers_at 8 bytes at ≡ refused_as why → open_column editions bytes ≡ refused_as why
      unfolding open_column and_then given
      no_numbers why f = rw (e, known, f)

      pub all_numbers : (ns : List ℕ) (start : ℕ) → numbers_at 8 bytes at ≡ done (ns, start)
          → open_column editions bytes ≡ judged_as bytes (record { head = head_from ed ns; start = start })
      unfolding open_column and_then given
      all_numbers ns start f = rw (e, known, f)
