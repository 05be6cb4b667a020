-- The steps in a column, by any rule that finds what is listed, and so the look-up, answer as the pair list does, with the words of
-- its formula. Assumes nothing.
use Rattle.format.specs.Kit.{◌≡◌, sym, ap, ap₂, ◌∙◌, List, ℕ, ◌+◌, ◌*◌, ◌/◌, ◌%◌, ◌≤◌, div-add-mod', arith, ℤ, length, le-leb}
use Rattle.format.specs.Refusals.{Outcome, done, and_then, need}
use Rattle.format.specs.Ids.{runs, count_below}
use Rattle.format.specs.Editions.{Edition, Knows, codec}
use Rattle.format.specs.Valid.{Valid}
use Rattle.format.specs.Column.{column, head_of}
use Rattle.format.specs.LookUp.{Look, Rule, halved, steps, look_up}
use Rattle.format.specs.Walk.{in_block, listed, words, list_answer}
use Rattle.laws.proofs.Runs.{ids_runs}
use Rattle.laws.proofs.Jumps.{ids_under}
use Rattle.laws.proofs.Find.{places_of, count_runs, listed_runs, in_runs_is}
use Rattle.laws.proofs.Place.{words_in, Finds}
use Rattle.laws.proofs.Halving.{halved_finds}
use Rattle.laws.proofs.Lawful.{Lawful}
use Rattle.laws.proofs.RoundTrip.{blocks_asc, blocks_fine, the_head, the_column, opened, ids_part}
use Rattle.laws.proofs.Entered.{met}
use Rattle.laws.proofs.FromEntry.{answered, by_block, from_entry_lem}

-- ---- by the list alone

module _ {ed : Edition} (p : ℕ) (ids : List ℕ) (vs : List ℤ) (ok : Valid ed p ids vs) (id : ℕ) where
  parts : id / 65536 * 65536 + id % 65536 ≡ id
  parts = div-add-mod' id 65536

  -- the listed ids below, and whether the id is listed, by the id's block
  pub the_count : count_below id ids ≡ ids_under (id / 65536) (runs ids) + count_below (id % 65536) (places_of (id / 65536) (runs ids))
  the_count =
      ap₂ count_below (sym parts) (sym (ids_runs ids))
      ∙ count_runs (id / 65536) (id % 65536) 0 (runs ids) (omega arith) (blocks_asc p ids vs ok) (blocks_fine p ids vs ok)

  pub the_test : listed id ids ≡ listed (id % 65536) (places_of (id / 65536) (runs ids))
  the_test =
      ap₂ listed (sym parts) (sym (ids_runs ids))
      ∙ listed_runs (id / 65536) (id % 65536) 0 (runs ids) (omega arith) (blocks_asc p ids vs ok) (blocks_fine p ids vs ok)

  pub by_list : by_block p ids vs id ≡ list_answer p ids vs id
  unfolding by_block answered words_in words list_answer
  by_list = rw (← the_count, ← the_test, ← the_block)
    where
      the_block : in_block (id / 65536) ids ≡ length (places_of (id / 65536) (runs ids))
      the_block = ap (in_block (id / 65536)) (sym (ids_runs ids)) ∙ in_runs_is (id / 65536) 0 (runs ids) (blocks_asc p ids vs ok) (blocks_fine p ids vs ok)

-- ---- the steps, for every edition whose codec is lawful

module _ (ed : Edition) (law : Lawful (codec ed)) (p : ℕ) (ids : List ℕ) (vs : List ℤ) (ok : Valid ed p ids vs) (id : ℕ) (hid : id ≤ 2147352575) where
  pub stepped : (rule : Rule) → Finds rule → steps rule (column ed p ids vs) (the_column ed p ids vs) id ≡ done (list_answer p ids vs id)
  unfolding steps the_column head_of the_head
  stepped rule finds =
      rw (ids_part ed law p ids vs ok) (from_entry_lem ed law p ids vs ok rule finds id _ (met p ids vs ok id hid))
      ∙ ap {B = Outcome Look} (λ (x : Look). done x) (by_list p ids vs ok id)

  pub looked : (known : List Edition) → Knows known ed → look_up known (column ed p ids vs) id ≡ done (list_answer p ids vs id)
  unfolding look_up need and_then
  looked known k = rw (le-leb id 2147352575 hid, opened ed law p ids vs ok known k) (stepped halved halved_finds)
