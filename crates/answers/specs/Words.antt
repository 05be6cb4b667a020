-- The words in which a column and each call's answer cross the C boundary: include/signalfern.h names the same words. Those that a case
-- leaves free are 0, and a value is in two's complement. Assumes nothing.
use Rattle.std.specs.Prelude.{◌+◌, ◌∷◌}
use Rattle.format.specs.Kit.{ℕ, Bool, cond, eqb, List, [], get_or, Option, none, some}
use Rattle.format.specs.Limits.{max_width}
use Rattle.format.specs.Bytes.{twos}
use Rattle.format.specs.Refusals.{Outcome, done, refused}
use Rattle.format.specs.Orders.{Order, low_byte, high_byte}
use Rattle.format.specs.Editions.{Edition, plain, number_of, editions, edition_in}
use Rattle.format.specs.Opening.{Opened}
use Rattle.format.specs.LookUp.{Look, found, absent}
use Rattle.format.specs.Next.{Candidate, candidate_at, no_candidate, last_after}
use Rattle.format.specs.Layered.{layer_number, LayeredLook, found_in, absent_in, refused_by, Part, part}
use Rattle.format.specs.LayeredReading.{LayeredCount, count_to, refused_count}
use Rattle.format.specs.Judge.{Verdict, accepted, faulty}
use Rattle.format.specs.SetCalls.{Member, member_at, no_member}

-- refusal 0: the byte count or n; otherwise the refusal's number and the number with it
abbrev pub reply_words : Outcome ℕ → List ℕ
reply_words (done n) = 0 ∷ n ∷ []
reply_words (refused why w) = why ∷ w ∷ []

-- ---- a column

-- refusal 0: an opened column
abbrev pub column_words : Outcome Opened → List ℕ
column_words (done c) =
    0 ∷ 0 ∷ number_of c.head.edition ∷ c.head.count ∷ c.head.power ∷ c.head.id_bytes ∷ c.head.jump_count ∷ c.head.fields.width
    ∷ c.head.fields.smallest ∷ c.head.fields.divisor ∷ c.head.value_bytes ∷ c.start ∷ []
column_words (refused why w) = why ∷ w ∷ 0 ∷ 0 ∷ 0 ∷ 0 ∷ 0 ∷ 0 ∷ 0 ∷ 0 ∷ 0 ∷ 0 ∷ []

-- a column handed in goes by its numbers, from the fourth word on: in this edition, with stored numbers of w bits
abbrev pub numbers_in : Edition → ℕ → List ℕ → Opened
numbers_in ed w ws =
    record {
      head =
          record {
            edition = ed;
            count = get_or ws 3 0;
            power = get_or ws 4 0;
            id_bytes = get_or ws 5 0;
            jump_count = get_or ws 6 0;
            fields = record { width = w; smallest = get_or ws 8 0; divisor = get_or ws 9 0 };
            value_bytes = get_or ws 10 0;
          };
      start = get_or ws 11 0;
    }

abbrev pub laid_out : Edition → List ℕ → Opened
laid_out ed ws = numbers_in ed (get_or ws 7 0) ws

-- where its edition number is none, a header rule is broken: no edition has this width (`no-edition` says what is answered then)
abbrev pub opened_by : List ℕ → Option Edition → Opened
opened_by ws (some ed) = laid_out ed ws
opened_by ws none = numbers_in plain (max_width + 1) ws

-- its edition's number is the third word; the first two do not matter
abbrev pub opened_in : List ℕ → Opened
opened_in ws = opened_by ws (edition_in editions (get_or ws 2 0))

-- ---- look-ups

-- an answer with n probes: kind 0 found, 1 absent, otherwise the refusal's number
abbrev pub answer_words : ℕ → Outcome Look → List ℕ
answer_words n (done (found o v w)) = 0 ∷ 0 ∷ o ∷ twos v ∷ w ∷ n ∷ []
answer_words n (done (absent w)) = 1 ∷ 0 ∷ 0 ∷ 0 ∷ w ∷ n ∷ []
answer_words n (refused why w) = why ∷ w ∷ 0 ∷ 0 ∷ 0 ∷ 0 ∷ []

-- document 02, [3], a page of n ids: refusal 0, n and the sum of words; otherwise the refusal's number and the number with it
abbrev pub page_words : ℕ → Outcome ℕ → List ℕ
page_words n (done w) = 0 ∷ n ∷ w ∷ []
page_words n (refused why w) = why ∷ w ∷ 0 ∷ []

-- document 02, [1]: kind 0 found, 1 none, otherwise the refusal's number; with the cursor afterwards
abbrev pub candidate_words : Outcome Candidate → ℕ → List ℕ
candidate_words (done (candidate_at id o v)) last = 0 ∷ 0 ∷ id ∷ o ∷ twos v ∷ last ∷ []
candidate_words (done no_candidate) last = 1 ∷ 0 ∷ 0 ∷ 0 ∷ 0 ∷ last ∷ []
candidate_words (refused why w) last = why ∷ w ∷ 0 ∷ 0 ∷ 0 ∷ last ∷ []

-- a pair: kind 0 found, 1 none, otherwise the refusal's number
abbrev pub pair_words : Outcome Candidate → List ℕ
pair_words (done (candidate_at id o v)) = 0 ∷ 0 ∷ id ∷ o ∷ twos v ∷ []
pair_words (done no_candidate) = 1 ∷ 0 ∷ 0 ∷ 0 ∷ 0 ∷ []
pair_words (refused why w) = why ∷ w ∷ 0 ∷ 0 ∷ 0 ∷ []

-- pairs from an id on: kind 0 more, 1 none left, otherwise the refusal's number; and how many there are
abbrev pub readout_words : Outcome (ℕ × Bool) → List ℕ
readout_words (done x) = cond x.1 1 0 ∷ 0 ∷ x.0 ∷ []
readout_words (refused why w) = why ∷ w ∷ 0 ∷ []

-- from this cursor, for this target
abbrev pub next_words : Outcome Candidate → ℕ → ℕ → List ℕ
next_words o last t = candidate_words o (last_after o last t)

-- document 02, [11]: kind 0 found, 1 none, otherwise the refusal's number
abbrev pub between_words : Outcome (Option ℕ) → List ℕ
between_words (done (some i)) = 0 ∷ 0 ∷ i ∷ []
between_words (done none) = 1 ∷ 0 ∷ 0 ∷ []
between_words (refused why w) = why ∷ w ∷ 0 ∷ []

-- ---- two columns (document 02, [10])

-- kind 0 found, 1 absent, otherwise the refusal's number; the machine column's words before the correction's
abbrev pub layered_words : LayeredLook → List ℕ
layered_words (found_in layer o v w k) = 0 ∷ 0 ∷ layer_number layer ∷ o ∷ twos v ∷ w ∷ k ∷ []
layered_words (absent_in w k) = 1 ∷ 0 ∷ 0 ∷ 0 ∷ 0 ∷ w ∷ k ∷ []
layered_words (refused_by layer why x) = why ∷ x ∷ layer_number layer ∷ 0 ∷ 0 ∷ 0 ∷ 0 ∷ []

-- a part by its column, its place there and its length
abbrev pub part_words : Part → List ℕ
part_words (part layer a n) = layer_number layer ∷ a ∷ n ∷ []

-- a page of n ids: refusal 0, n and the sums of words, the machine column's before the correction's; otherwise the refusal's number and the number with it
abbrev pub layered_page_words : ℕ → Outcome (ℕ × ℕ) → List ℕ
layered_page_words n (done x) = 0 ∷ n ∷ x.0 ∷ x.1 ∷ []
layered_page_words n (refused why w) = why ∷ w ∷ 0 ∷ 0 ∷ []

-- pairs of both columns from an id on: kind 0 more, 1 none left, otherwise the refusal's number; the number with it, and the column that refused; and how
-- many pairs there are
abbrev pub layered_readout_words : LayeredCount → List ℕ
layered_readout_words (count_to n e) = cond e 1 0 ∷ 0 ∷ 0 ∷ n ∷ []
layered_readout_words (refused_count layer why w) = why ∷ w ∷ layer_number layer ∷ 0 ∷ []

-- ---- id sections and sets

-- document 02, [9]: 0 is low byte first, and any other number high byte first
abbrev pub order_in : ℕ → Order
order_in high = cond (eqb high 0) low_byte high_byte

-- kind 0 accepted, with the number of ids; 1 faulty, with place and reason; otherwise the refusal's number, which is HEADER's
abbrev pub judgement_words : Outcome Verdict → List ℕ
judgement_words (done (accepted n)) = 0 ∷ n ∷ 0 ∷ 0 ∷ []
judgement_words (done (faulty why at)) = 1 ∷ 0 ∷ at ∷ why ∷ []
judgement_words (refused why w) = why ∷ 0 ∷ 0 ∷ 0 ∷ []

-- document 02, [14]: kind 0 found, 1 absent, otherwise the refusal's number
abbrev pub member_words : Outcome Member → List ℕ
member_words (done (member_at o)) = 0 ∷ 0 ∷ o ∷ []
member_words (done no_member) = 1 ∷ 0 ∷ 0 ∷ []
member_words (refused why w) = why ∷ w ∷ 0 ∷ []
