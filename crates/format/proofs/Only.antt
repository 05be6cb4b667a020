-- The refusal numbers that a definition can give, on any input: chains of tests, each of which refuses with a number of one kind, and the parts of the
-- calls. Assumes nothing.
use Rattle.format.specs.Kit.{◌≡◌, subst, Bool, true, false, cond, not, ◌&&◌, List, Option, none, some, ℕ, zero, suc, ◌/◌, arith, eqb, ltb, ℤ, le_z}
use Rattle.format.specs.Limits.{block_places}
use Rattle.format.specs.Refusals.{Outcome, done, refused, and_then, need, given, need_none, SHORT, NUMBER, EDITION, HEADER, LENGTH, DAMAGED, BROKEN}
use Rattle.format.specs.Bytes.{low_at}
use Rattle.format.specs.HeaderNumbers.{Got, got, short, bad, got_at, number_at, numbers_at}
use Rattle.format.specs.Ids.{Entry}
use Rattle.format.specs.Editions.{Edition}
use Rattle.format.specs.Opening.{Opened, open_column, id_part, value_part, value_of}
use Rattle.format.specs.Check.{accepted}
use Rattle.format.specs.LookUp.{Look, Place, found, absent, inside, nowhere, broken, Rule, answer, from_entry, steps}
use Rattle.format.specs.Next.{Candidate, decides, in_turn, next_steps}
use Rattle.format.specs.SetCalls.{data_from, length_from, kind_from, block_from, blocks_from, set_ids}
use Rattle.format.specs.ValueRuns.{Summary, run_length, run_count, summary_at}
use Rattle.format.specs.FirstBetween.{between, skipped, scan_from, runs_from, between_steps}
use Rattle.format.specs.BetweenFrom.{from_value, between_steps_from}
use Rattle.format.specs.ReadFrom.{read_steps}
use Rattle.format.specs.PairAt.{pair_from, pair_steps}
use Rattle.format.specs.LayeredReading.{answering_from}

-- ---- numbers of one kind

-- a result, or a refusal with a number of this kind
unfoldable pub Only : (ℕ → Type 0) → {A : Type 0} → Outcome A → Type 0
Only P (done a) = Unit {0}
Only P (refused why w) = P why

pub only : {A : Type 0} (P : ℕ → Type 0) (o : Outcome A) (why w : ℕ) → Only P o → o ≡ refused why w → P why
unfolding Only
only P (done a) why w h e = absurd (let z : ◌≡◌ {A = ℕ} 0 1 = cc in omega arith)
only P (refused v x) why w h e =
    let same : v ≡ why = cc in
    subst P same h

-- ---- chains of tests

module _ (P : ℕ → Type 0) where
  module _ {A : Type 0} where
    pub at_done : (a : A) → Only P (done a)
    unfolding Only
    at_done a = tt

    at_cond : (t : Bool) (x y : Outcome A) → Only P x → Only P y → Only P (cond t x y)
    at_cond true x y h j = h
    at_cond false x y h j = j

    pub at_need : (t : Bool) (why w : ℕ) (next : Outcome A) → P why → Only P next → Only P (need t why w next)
    unfolding Only need
    at_need true why w next h n = n
    at_need false why w next h n = h

    pub at_none : (o : Option ℕ) (why : ℕ) (next : Outcome A) → P why → Only P next → Only P (need_none o why next)
    unfolding Only need_none
    at_none none why next h n = n
    at_none (some i) why next h n = h

    pub at_given : (o : Option A) (why w : ℕ) → P why → Only P (given o why w)
    unfolding Only given
    at_given (some a) why w h = tt
    at_given none why w h = h

  pub at_then : {A B : Type 0} (o : Outcome A) (f : A → Outcome B) → Only P o → ((a : A) → Only P (f a)) → Only P (and_then o f)
  unfolding Only and_then
  at_then (done a) f h n = n a
  at_then (refused why w) f h n = h

  -- ---- the parts of the calls

  -- opening
  module _ (s : P SHORT) (n : P NUMBER) where
    of_got : (bytes : List ℕ) (at : ℕ) (g : Got) → Only P (got_at bytes at g)
    unfolding Only got_at
    of_got bytes at (got v j) = tt
    of_got bytes at short = s
    of_got bytes at (bad j) = n

    of_number : (bytes : List ℕ) (at : ℕ) → Only P (number_at bytes at)
    unfolding number_at
    of_number bytes at = of_got bytes at _

    of_numbers : (m : ℕ) (bytes : List ℕ) (at : ℕ) → Only P (numbers_at m bytes at)
    unfolding numbers_at
    of_numbers zero bytes at = at_done _
    of_numbers (suc m) bytes at = at_then _ _ (of_number bytes at) (λ v. at_then _ _ (of_numbers m bytes v.1) (λ r. at_done _))

    pub of_open : P EDITION → P HEADER → P LENGTH → (known : List Edition) (bytes : List ℕ) → Only P (open_column known bytes)
    unfolding open_column
    of_open e h l known bytes =
        at_then _ _ (of_number bytes 0) (λ v.
        at_then _ _ (at_given _ _ _ e) (λ ed.
        at_then _ _ (of_numbers 8 bytes v.1) (λ r. at_need _ _ _ _ h (at_need _ _ _ _ l (at_done _)))))

  -- what follows it in the check and the reading
  pub of_accepted : P DAMAGED → (bytes : List ℕ) (c : Opened) → Only P (accepted bytes c)
  unfolding accepted
  of_accepted d bytes c = at_then _ _ (at_given _ _ _ d) (λ q. at_need _ _ _ _ d (at_done q))

  -- and in the look-up
  module _ (b : P BROKEN) (bytes : List ℕ) (c : Opened) where
    of_answer : (o : ℕ) (x : Place) → Only P (answer bytes c o x)
    unfolding Only answer
    of_answer o (inside i w) = at_then _ _ (at_given _ _ _ b) (λ v. tt)
    of_answer o (nowhere w) = tt
    of_answer o broken = b

    of_entry : (rule : Rule) (id : ℕ) (e : Entry) → Only P (from_entry rule bytes c id e)
    unfolding from_entry
    of_entry rule id e =
        at_need _ _ _ _ b
        (at_need _ _ _ _ b
        (at_cond (not (eqb (low_at 2 (id_part bytes c) e.1) (id / block_places))) _ _ (at_done (absent 0))
        (at_need _ BROKEN 0 _ b (of_answer e.0 _))))

    pub of_steps : (rule : Rule) (id : ℕ) → Only P (steps rule bytes c id)
    unfolding steps
    of_steps rule id = of_entry rule id _

    -- ids in turn
    of_decided : (id : ℕ) (o : Outcome Look) (above : Outcome Candidate) → Only P o → Only P above → Only P (decides id o above)
    unfolding Only decides
    of_decided id (done (found o v w)) above h n = tt
    of_decided id (done (absent w)) above h n = n
    of_decided id (refused why w) above h n = h

    of_turns : (m id : ℕ) (more : Outcome Candidate) → Only P more → Only P (in_turn m bytes c id more)
    unfolding in_turn
    of_turns zero id more h = h
    of_turns (suc m) id more h = of_decided id _ _ (of_steps _ id) (of_turns m (suc id) more h)

    pub of_next : (t : ℕ) → Only P (next_steps bytes c t)
    unfolding next_steps
    of_next t = of_turns _ t _ (at_done _)

    -- pairs in turn: the first candidate decides
    pub of_read : (t room : ℕ) → Only P (read_steps bytes c t room)
    unfolding read_steps
    of_read t room = at_then _ _ (of_next t) (λ x. at_done _)

    -- one of two columns, which the first candidate decides
    pub of_answering : (t : ℕ) → Only P (answering_from bytes t c)
    unfolding answering_from
    of_answering t = at_then _ _ (of_next t) (λ x. at_done _)

    -- the pair with an ordinal
    of_pair_from : (o j : ℕ) (e : Entry) → Only P (pair_from bytes c o j e)
    unfolding pair_from
    of_pair_from o j e =
        at_need _ _ _ _ b (at_need _ _ _ _ b (at_need _ _ _ _ b (at_need _ _ _ _ b
        (at_then _ _ (at_given _ _ _ b) (λ r. at_then _ _ (at_given _ _ _ b) (λ v. at_done _))))))

    pub of_pair : (o : ℕ) → Only P (pair_steps bytes c o)
    unfolding pair_steps
    of_pair o = at_cond (ltb o c.head.count) _ _ (of_pair_from o _ _) (at_done _)

    -- values in turn
    module _ (f : ℕ → Option ℤ) (low high : ℤ) where
      of_scan : (m i : ℕ) (more : Outcome (Option ℕ)) → Only P more → Only P (scan_from f low high m i more)
      unfolding scan_from
      of_scan zero i more h = h
      of_scan (suc m) i more h =
          at_then _ _ (at_given _ _ _ b) (λ v. at_cond (between low high v) _ _ (at_done _) (of_scan m (suc i) more h))

      of_runs : (x : ℕ → Summary) (n m r : ℕ) → Only P (runs_from f x low high n m r)
      unfolding runs_from
      of_runs x n zero r = at_done _
      of_runs x n (suc m) r =
          at_cond (skipped low high (x r)) _ _ (of_runs x n m (suc r)) (of_scan _ _ _ (of_runs x n m (suc r)))

    pub of_between : (low high : ℤ) → Only P (between_steps bytes c low high)
    unfolding between_steps
    of_between low high =
        at_cond (le_z low high) _ _ (of_runs (value_of bytes c) low high (summary_at (value_part bytes c)) c.head.count (run_count c.head.count) 0)
        (at_done _)

    pub of_between_from : (o : ℕ) (low high : ℤ) → Only P (between_steps_from bytes c o low high)
    unfolding between_steps_from from_value
    of_between_from o low high =
        let later = of_runs (value_of bytes c) low high (summary_at (value_part bytes c)) c.head.count _ _ in
        at_cond (le_z low high && ltb o c.head.count) _ _
        (at_cond (skipped low high (summary_at (value_part bytes c) (o / run_length))) _ _ later (of_scan (value_of bytes c) low high _ _ _ later))
        (at_done _)

  -- a set's blocks, and the list that they hold (document 02, [14])
  module _ (s : P SHORT) (n : P NUMBER) (d : P DAMAGED) (bytes : List ℕ) where
    of_block_lem : (next at : ℕ) → Only P (block_from next bytes at)
    unfolding block_from kind_from length_from data_from
    of_block_lem next at =
        at_then _ _ (of_number s n bytes at) (λ b. at_need _ _ _ _ d
        (at_then _ _ (of_number s n bytes _) (λ t. at_need _ _ _ _ d
        (at_then _ _ (of_number s n bytes _) (λ c. at_need _ _ _ _ d (at_need _ _ _ _ d (at_done _)))))))

    of_blocks : (m next at : ℕ) → Only P (blocks_from m next bytes at)
    unfolding blocks_from
    of_blocks zero next at = at_need _ _ _ _ d (at_done _)
    of_blocks (suc m) next at = at_then _ _ (of_block_lem next at) (λ h. at_then _ _ (of_blocks m _ _) (λ gs. at_done _))

    pub of_set : Only P (set_ids bytes)
    unfolding set_ids
    of_set = at_then _ _ (of_number s n bytes 0) (λ m. at_need _ _ _ _ d (at_then _ _ (of_blocks _ 0 _) (λ gs. at_done _)))
