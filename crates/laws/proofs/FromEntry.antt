-- The look-up from an entry (steps 2 to 7), by any rule that finds what is listed, answers as the pair list does. Assumes nothing.
use Rattle.format.specs.Kit.{◌≡◌, refl, ap, ◌∙◌, inl, inr, cond, or-true, List, [], some, ℕ, ◌+◌, ◌/◌, ◌%◌, ◌<◌, ◌≤◌, arith, eqb, ℤ, pos}
use Rattle.format.specs.Kit.{length, get_or, eq-eqb, ne_eqb, le-leb}
use Rattle.format.specs.Refusals.{Outcome, done, and_then, need, given}
use Rattle.format.specs.Bytes.{low_at}
use Rattle.format.specs.Ids.{runs, id_section, jumps, block_bytes, Entry, count_below, kind_of, by_kind}
use Rattle.format.specs.Editions.{Edition, codec}
use Rattle.format.specs.Valid.{Valid}
use Rattle.format.specs.Column.{column, head_of}
use Rattle.format.specs.Opening.{Opened, value_of}
use Rattle.format.specs.LookUp.{Look, found, absent, inside, nowhere, Rule, answer, from_entry}
use Rattle.format.specs.Walk.{listed}
use Rattle.laws.proofs.Cases.{true_or}
use Rattle.laws.proofs.Jumps.{ids_under}
use Rattle.laws.proofs.Find.{count_lt}
use Rattle.laws.proofs.Place.{words_in, Finds, place_is}
use Rattle.laws.proofs.Entered.{there, entries_from, Here, Away, Met}
use Rattle.laws.proofs.Lawful.{Lawful}
use Rattle.laws.proofs.RoundTrip.{power_ge, power16, the_head, the_column, ids_part, values_part, value_back}

-- the answer for place r of a block with places rs, before which o ids stand
unfoldable pub answered : List ℤ → ℕ → ℕ → List ℕ → ℕ → Look
answered vs o r rs w = cond (listed r rs) (found (o + count_below r rs) (get_or vs (o + count_below r rs) (pos 0)) w) (absent w)

-- ---- what the list says, by the id's block

module _ (p : ℕ) (ids : List ℕ) (vs : List ℤ) (id : ℕ) where
  unfoldable pub by_block : Look
  by_block =
      answered vs (ids_under (id / 65536) (runs ids)) (id % 65536) (there ids id)
      (words_in p (length (there ids id)) (id % 65536) (listed (id % 65536) (there ids id)))

  pub none_there : there ids id ≡ [] → by_block ≡ absent 0
  unfolding by_block answered words_in kind_of by_kind listed
  none_there e = rw e

-- ---- what the steps say

module _ (ed : Edition) (law : Lawful (codec ed)) (p : ℕ) (ids : List ℕ) (vs : List ℤ) (ok : Valid ed p ids vs) where
  abbrev bytes : List ℕ
  bytes = column ed p ids vs

  abbrev col : Opened
  col = the_column ed p ids vs

  p16 : p ≤ 16
  p16 = power16 p ids vs ok

  p6 : (p ≡ 0 → ⊥) → 6 ≤ p
  p6 e = omega (arith, power_ge p ok.power (ne_eqb p 0 e))

  pub value_is : (i : ℕ) → i < length ids → value_of bytes col i ≡ some (get_or vs i (pos 0))
  unfolding value_of the_column
  value_is i k = rw (values_part ed law p ids vs ok) (value_back ed law p ids vs ok i (omega (arith, ok.lengths)))

  -- step 7 for a place of a block with places rs, before which o ids stand
  list_answer_lem : (o r : ℕ) (rs : List ℕ) (w : ℕ) → o + length rs ≤ length ids
      → answer bytes col o (cond (listed r rs) (inside (count_below r rs) w) (nowhere w)) ≡ done (answered vs o r rs w)
  unfolding answered answer and_then given
  list_answer_lem o r rs w k =
      true_or (listed r rs) (λ e. rw (e, value_is (o + count_below r rs) (omega (arith, count_lt r rs e)))) (λ e. rw e)

  module _ (rule : Rule) (finds : Finds rule) (id : ℕ) where
    of_here : (e : Entry) → Here p ids id e → from_entry rule bytes col id e ≡ done (by_block p ids vs id)
    unfolding from_entry need the_column head_of the_head by_block
    of_here e h =
        rw (
          ids_part ed law p ids vs ok,
          h.number,
          h.count,
          le-leb (e.1 + 4) (entries_from p ids) h.head_end,
          le-leb (id / 65536) (id / 65536) (omega arith),
          or-true (eqb (length (jumps p ids)) 0),
          eq-eqb (id / 65536) (id / 65536) refl,
          le-leb (e.1 + block_bytes p (length (there ids id))) (entries_from p ids) h.data_end,
          le-leb (e.0 + length (there ids id)) (length ids) h.last,
        )
        (ap (answer bytes col e.0)
        (place_is rule finds p (there ids id) (id_section p ids) (e.1 + 4) h.rest h.ascending h.inside h.its_data p16 p6 (id % 65536)
        (omega arith))
        ∙ list_answer_lem e.0 (id % 65536) (there ids id) (words_in p (length (there ids id)) (id % 65536) (listed (id % 65536) (there ids id))) h.last
        ∙ ap {B = Outcome Look}
        (λ (o : ℕ). done (answered vs o (id % 65536) (there ids id) (words_in p (length (there ids id)) (id % 65536) (listed (id % 65536) (there ids id)))))
        h.ordinal)

    of_away : (e : Entry) → Away p ids id e → from_entry rule bytes col id e ≡ done (by_block p ids vs id)
    unfolding from_entry need the_column head_of the_head
    of_away e a =
        rw (
          ids_part ed law p ids vs ok,
          le-leb (e.1 + 4) (entries_from p ids) a.head_end,
          a.above,
          ne_eqb (low_at 2 (id_section p ids) e.1) (id / 65536) a.other,
          none_there p ids vs id a.nothing,
        )

    pub from_entry_lem : (e : Entry) → Met p ids id e → from_entry rule bytes col id e ≡ done (by_block p ids vs id)
    from_entry_lem e (inl h) = of_here e h
    from_entry_lem e (inr a) = of_away e a
