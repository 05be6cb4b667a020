-- What the writers wrote, and what the planner proposed. Assumes nothing.
use mathlib.Core.Logic.{◌↔◌}
use Rattle.format.specs.Kit.{◌≡◌, refl, sym, ap, ◌∙◌, true, false, List, [], ◌∷◌, ◌++◌, ℕ, zero-le, ◌≤◌, ◌<◌, arith, ℤ, length, take, drop, take_at}
use Rattle.format.specs.Limits.{max_count}
use Rattle.format.specs.Refusals.{Outcome, done, refused, BUFFER, PLAN}
use Rattle.format.specs.Editions.{Edition, plain, lucene, runs, table, number_of, editions}
use Rattle.format.specs.Pairs.{Pairs, Each, Fits, ValidIds}
use Rattle.format.specs.Plan.{plan_ok, planned, plan_edition, chosen, plan}
use Rattle.format.specs.Column.{column, head_of}
use Rattle.format.specs.Opening.{Opened, open_column}
use Rattle.format.specs.Writer.{write_as, write_planned, write, write_reply, write_out}
use Rattle.format.specs.Check.{reading, read_reply}
use Rattle.format.specs.SetBytes.{set_bytes, set_write}
use Rattle.laws.proofs.Tests.{result, needed, passed}
use Rattle.laws.proofs.Cases.{false_true}
use Rattle.laws.proofs.Rules.{head_facts}
use Rattle.laws.proofs.Open.{opened_ok}
use Rattle.laws.proofs.Places.{asc_length}
use Rattle.laws.proofs.RoundTrip.{the_head, the_column}
use Rattle.laws.proofs.Unique.{written_valid}
use Rattle.laws.proofs.Plans.{proposes, planned_is, planned_passes, planned_write, own_planned, planned_taken}
use Rattle.laws.proofs.Demands.{told, written_told, reads_columns_all}
use Rattle.set_format.proofs.Demands as Sd
use Rattle.format.specs.Lists.{SetOf}
use Rattle.answers.specs.Replies.{reply_of}
use Rattle.format.specs.Says.{Within, ListSays, WriteSays, PlannedSays, PlanSays}
use Rattle.laws.proofs.WritersSay.{write_exactly, planned_exactly, plan_exactly, seventeen_exactly}
use Rattle.demands.specs.Terms.{Allowed, column_in, Writes, Holds}
use Rattle.demands.proofs.Replies.{reply_refused, output_put, puts}
use Rattle.demands.proofs.Lists.{as_read}
use Rattle.std.specs.declared.result.Result.{Result}
use Rattle.answers.specs.declared.Refusal as Re

-- ---- exactly the bytes, whenever there is room: by each writer's table

in_limits : (p : ℕ) (ids : List ℕ) (vs : List ℤ) → Allowed p ids vs → Within p ids
in_limits p ids vs a = record { power = a.power; ascending = a.ascending; range = a.within }

pub write_writes : (k p : ℕ) (ids : List ℕ) (vs : List ℤ) (out out' : List ℕ) (r : Result ℕ Re.Refusal) → reply_of r ≡ write_reply (write k p ids vs (length out))
    → out' ≡ write_out (write k p ids vs (length out)) out → (ed : Edition) → k ≡ number_of ed → Allowed p ids vs → Writes (column_in ed p ids vs) out out' r
write_writes k p ids vs out out' r kept after ed e a =
    puts (column_in ed p ids vs) out out' r _ kept after
    (λ h. (write_exactly k p ids vs (length out) _).1 (WriteSays.in_edition a.one_value_each ed e (ListSays.written (in_limits p ids vs a) refl h refl)))
    (λ h. (write_exactly k p ids vs (length out) _).1 (WriteSays.in_edition a.one_value_each ed e (ListSays.no_room (in_limits p ids vs a) refl h refl)))

pub planned_writes : (p : ℕ) (ids : List ℕ) (vs us : List ℤ) (out out' : List ℕ) (r : Result ℕ Re.Refusal)
    → reply_of r ≡ write_reply (write_planned p ids vs us (length out)) → out' ≡ write_out (write_planned p ids vs us (length out)) out
    → Allowed p ids vs → plan_ok us vs ≡ true → Writes (column (plan_edition us) p ids vs) out out' r
planned_writes p ids vs us out out' r kept after a t =
    puts (column (plan_edition us) p ids vs) out out' r _ kept after
    (λ h. (planned_exactly p ids vs us (length out) _).1 (PlannedSays.by_plan a.one_value_each (ListSays.written (in_limits p ids vs a) t h refl)))
    (λ h. (planned_exactly p ids vs us (length out) _).1 (PlannedSays.by_plan a.one_value_each (ListSays.no_room (in_limits p ids vs a) t h refl)))

pub set_writes : (ids out out' : List ℕ) (r : Result ℕ Re.Refusal) → reply_of r ≡ write_reply (set_write ids (length out)) → out' ≡ write_out (set_write ids (length out)) out
    → ValidIds ids → Writes (set_bytes ids) out out' r
set_writes ids out out' r kept after ok =
    puts (set_bytes ids) out out' r _ kept after (λ h. Sd.written ids ok (length out) h) (λ h. Sd.no_room ids ok (length out) h)

-- ---- what was written is a column, or a set

abbrev pub as_column : (ed : Edition) (p : ℕ) (ids : List ℕ) (vs : List ℤ) (room : ℕ) (b : List ℕ) → Each Fits vs → write_as ed p ids vs room ≡ done b
    → (bytes : List ℕ) → bytes ≡ b → Holds bytes (length ids)
as_column ed p ids vs room b fit e bytes same =
    let v = written_valid ed p ids vs room b fit e in
    record {
      edition = ed;
      power = p;
      ids = ids;
      values = vs;
      valid = v.0;
      bytes_are = v.1 ∙ sym same;
      count = refl;
    }

-- the edition that `write` was told
pub told_edition : (k p : ℕ) (ids : List ℕ) (vs : List ℤ) (room : ℕ) (b : List ℕ) → write k p ids vs room ≡ done b
    → (ed : Edition) × (write_as (chosen ed vs) p ids vs room ≡ done b)
unfolding write
told_edition k p ids vs room b e = let t = passed _ _ b (needed _ _ _ _ b e).1 in (t.0, t.2)

abbrev pub wrote_holds : (k p : ℕ) (ids : List ℕ) (vs : List ℤ) (out out' : List ℕ) (r : Result ℕ Re.Refusal)
    → reply_of r ≡ write_reply (write k p ids vs (length out)) → out' ≡ write_out (write k p ids vs (length out)) out
    → (n : ℕ) → Each Fits vs → reply_of r ≡ done n → Holds (take n out') (length ids)
wrote_holds k p ids vs out out' r kept after n fit e =
    let b = output_put out out' r _ kept after n e in
    let t = told_edition k p ids vs (length out) b.0 b.1 in
    as_column (chosen t.0 vs) p ids vs (length out) b.0 fit t.1 _ b.2

abbrev pub planned_holds : (p : ℕ) (ids : List ℕ) (vs us : List ℤ) (out out' : List ℕ) (r : Result ℕ Re.Refusal)
    → reply_of r ≡ write_reply (write_planned p ids vs us (length out)) → out' ≡ write_out (write_planned p ids vs us (length out)) out
    → (n : ℕ) → Each Fits vs → reply_of r ≡ done n → Holds (take n out') (length ids)
planned_holds p ids vs us out out' r kept after n fit e =
    let b = output_put out out' r _ kept after n e in
    let t = planned_taken p ids vs us (length out) b.0 b.1 in
    as_column (plan_edition us) p ids vs (length out) b.0 fit (sym (planned_write p ids vs us (length out) t) ∙ b.1) _ b.2

abbrev pub wrote_a_set : (ids out out' : List ℕ) (r : Result ℕ Re.Refusal) → reply_of r ≡ write_reply (set_write ids (length out))
    → out' ≡ write_out (set_write ids (length out)) out → (n : ℕ) → reply_of r ≡ done n → (bytes : List ℕ) → bytes ≡ take n out' → SetOf bytes (length ids)
wrote_a_set ids out out' r kept after n e bytes same =
    let b = output_put out out' r _ kept after n e in
    let v = Sd.written_valid ids (length out) b.0 b.1 in
    record { ids = ids; valid = v.0; same_bytes = v.1 ∙ sym (same ∙ b.2); count = refl }

-- and bytes that hold a list are what the writer writes for it
pub is_written : (bytes : List ℕ) (n : ℕ) (x : Holds bytes n)
    → Allowed x.power x.ids x.values × (column_in x.edition x.power x.ids x.values ≡ bytes)
unfolding chosen
is_written bytes n x =
    let v = x.valid in (
      record { power = v.power; ascending = v.ascending; within = v.range; one_value_each = v.lengths },
      rw v.taken x.bytes_are,
    )

pub one_set : (bytes : List ℕ) (m n : ℕ) (x : SetOf bytes m) (y : SetOf bytes n) → x.ids ≡ y.ids
one_set bytes m n x y = Sd.one_list x.ids y.ids x.valid y.valid (x.same_bytes ∙ sym y.same_bytes)

-- ---- plans

pub seventeen : (p : ℕ) (ids : List ℕ) (vs us : List ℤ) (room : ℕ) (r : Result ℕ Re.Refusal) → reply_of r ≡ write_reply (write_planned p ids vs us room) → (w : ℕ)
    → (reply_of r ≡ refused PLAN w) ↔ ((length ids ≡ length vs) × Within p ids × (plan_ok us vs ≡ false) × (w ≡ 0))
unfolding write_reply
seventeen p ids vs us room r kept w =
    let s = seventeen_exactly p ids vs us room w in
    (λ e. s.0 (reply_refused _ PLAN w (sym kept ∙ e)), λ t. kept ∙ ap write_reply (s.1 t))

-- what was proposed is never refused with 17, for any list of values
pub proposed_taken : (p : ℕ) (ids : List ℕ) (vs us : List ℤ) (room : ℕ) (r : Result ℕ Re.Refusal) → us ≡ planned vs → reply_of r ≡ write_reply (write_planned p ids vs us room)
    → (w : ℕ) → reply_of r ≡ refused PLAN w → ⊥
proposed_taken p ids vs us room r e kept w f =
    false_true (sym ((seventeen p ids vs us room r kept w).0 f).2 ∙ ap (λ (l : List ℤ). plan_ok l vs) e ∙ planned_passes vs)

few_values : (p : ℕ) (ids : List ℕ) (vs : List ℤ) → Allowed p ids vs → length vs ≤ max_count
few_values p ids vs a = omega (arith, a.one_value_each, asc_length 0 2147352576 ids zero-le a.ascending a.within)

-- and the bytes are those of edition 4
pub proposed_writes : (p : ℕ) (ids : List ℕ) (vs us : List ℤ) (out out' : List ℕ) (r : Result ℕ Re.Refusal) → us ≡ planned vs
    → reply_of r ≡ write_reply (write_planned p ids vs us (length out)) → out' ≡ write_out (write_planned p ids vs us (length out)) out
    → Allowed p ids vs → Writes (column_in table p ids vs) out out' r
proposed_writes p ids vs us out out' r e kept after a =
    let t : write_planned p ids vs us (length out) ≡ write (number_of table) p ids vs (length out) =
    ap (λ (l : List ℤ). write_planned p ids vs l (length out)) e ∙ own_planned p ids vs (length out) (few_values p ids vs a)
    ∙ sym (told table p ids vs (length out)) in
    write_writes (number_of table) p ids vs out out' r (kept ∙ ap write_reply t) (after ∙ ap (λ (o : Outcome (List ℕ)). write_out o out) t) table refl a

none_else : (l vs : List ℤ) → plan_ok l vs ≡ true → ((u : ℤ) (us : List ℤ) → plan_ok (u ∷ us) vs ≡ false) → l ≡ []
none_else [] vs t f = refl
none_else (u ∷ us) vs t f = false_true (sym (f u us) ∙ t)

module _ (vs lent lent' : List ℤ) (q : Result ℕ Re.Refusal) (kept : reply_of q ≡ write_reply (plan vs (length lent)))
    (after : lent' ≡ write_out (plan vs (length lent)) lent) where
  given : 256 ≤ length lent → plan vs (length lent) ≡ done (planned vs)
  given h = (plan_exactly vs (length lent) (done (planned vs))).1 (PlanSays.proposed h refl)

  -- the planner's own list, into 256 places or more
  proposed : 256 ≤ length lent → (l : List ℤ) → planned vs ≡ l → (reply_of q ≡ done (length l)) × (lent' ≡ l ++ drop (length l) lent)
  unfolding write_reply write_out
  proposed h l e =
      let f = given h ∙ ap {B = Outcome (List ℤ)} (λ (x : List ℤ). done x) e in
      (kept ∙ ap write_reply f, after ∙ ap (λ (o : Outcome (List ℤ)). write_out o lent) f)

  -- which is the table that the small check takes, wherever it takes one, and else plain
  pub proposes_table : 256 ≤ length lent → length vs ≤ max_count → (u : ℤ) (us : List ℤ) → plan_ok (u ∷ us) vs ≡ true
      → (reply_of q ≡ done (length (u ∷ us))) × (lent' ≡ (u ∷ us) ++ drop (length (u ∷ us)) lent)
  unfolding plan_ok
  proposes_table h few u us t = proposed h (u ∷ us) (planned_is vs few ∙ proposes (u ∷ us) vs t)

  pub proposes_none : 256 ≤ length lent → ((u : ℤ) (us : List ℤ) → plan_ok (u ∷ us) vs ≡ false) → (reply_of q ≡ done 0) × (lent' ≡ lent)
  proposes_none h f = proposed h [] (none_else (planned vs) vs (planned_passes vs) f)

  -- a plan that was handed back is what the planner proposes
  pub proposed_is : (n : ℕ) → reply_of q ≡ done n → take n lent' ≡ planned vs
  proposed_is n e =
      let b = output_put lent lent' q _ kept after n e in
      b.2 ∙ go b.0 ((plan_exactly vs (length lent) (done b.0)).0 b.1)
    where
      go : (b : List ℤ) → PlanSays vs (length lent) (done b) → b ≡ planned vs
      go b (PlanSays.buffer h f) = absurd (let z : ◌≡◌ {A = ℕ} 0 1 = cc in omega arith)
      go b (PlanSays.proposed h f) = ap (result b) f

  pub no_buffer : length lent < 256 → reply_of q ≡ refused BUFFER 256
  unfolding write_reply
  no_buffer h = kept ∙ ap write_reply ((plan_exactly vs (length lent) (refused BUFFER 256)).1 (PlanSays.buffer h refl))

  -- into 256 places or more it is handed back, and into fewer it is not
  pub proposed_room : (n : ℕ) → reply_of q ≡ done n → length lent < 256 → ⊥
  proposed_room n e h = let f = sym (no_buffer h) ∙ e in let z : ◌≡◌ {A = ℕ} 0 1 = cc in omega arith

  pub room_proposed : (why w : ℕ) → reply_of q ≡ refused why w → 256 ≤ length lent → ⊥
  room_proposed why w e h = let f = sym (proposed h (planned vs) refl).0 ∙ e in let z : ◌≡◌ {A = ℕ} 0 1 = cc in omega arith

  pub plan_not_17 : (w : ℕ) → reply_of q ≡ refused PLAN w → ⊥
  plan_not_17 w e = go ((plan_exactly vs (length lent) (refused PLAN w)).0 (reply_refused _ PLAN w (sym kept ∙ e)))
    where
      go : PlanSays vs (length lent) (refused PLAN w) → ⊥
      go (PlanSays.buffer h f) = let z : PLAN ≡ BUFFER = cc in omega arith
      go (PlanSays.proposed h f) = let z : ◌≡◌ {A = ℕ} 0 1 = cc in omega arith

-- ---- read and written again

-- what is read of them, and the edition and the power that they are opened with, give the bytes back
pub again : (bytes : List ℕ) (n : ℕ) (x : Holds bytes n) (k p : ℕ) (ids : List ℕ) (vs : List ℤ)
    → k ≡ number_of x.edition → p ≡ x.power → ids ≡ x.ids → vs ≡ x.values → (room : ℕ) → length bytes ≤ room
    → write k p ids vs room ≡ done bytes
again bytes n x k p ids vs ek ep ei ev room h =
    rw (ek, ep, ei, ev)
    (written_told x.edition x.power x.ids x.values x.valid room (omega (arith, ap length x.bytes_are))
    ∙ ap {B = Outcome (List ℕ)} (λ (b : List ℕ). done b) x.bytes_are)

-- the edition and the power of an opened column are the list's
pub opened_edition : (bytes : List ℕ) (c : Opened) → open_column editions bytes ≡ done c → (n : ℕ) (x : Holds bytes n) → c.head.edition ≡ x.edition
unfolding the_column head_of the_head
opened_edition bytes c o n x = ap (λ (c : Opened). c.head.edition) (ap (result c) (sym o ∙ (as_read bytes n x).is_opened))

pub opened_power : (bytes : List ℕ) (c : Opened) → open_column editions bytes ≡ done c → (n : ℕ) (x : Holds bytes n) → c.head.power ≡ x.power
unfolding the_column head_of the_head
opened_power bytes c o n x = ap (λ (c : Opened). c.head.power) (ap (result c) (sym o ∙ (as_read bytes n x).is_opened))

-- the first places of a buffer
pub first_places : {A : Type 0} (n : ℕ) (l rest buffer : List A) → length l ≡ n → buffer ≡ l ++ rest → take n buffer ≡ l
first_places n l rest buffer e b = ap (take n) b ∙ take_at l rest n e

-- what the code on the way asks: the buffers had room, and both numbers are small
pub read_room : (bytes : List ℕ) (i v : ℕ) (r : Result ℕ Re.Refusal) → reply_of r ≡ read_reply (reading editions bytes i v) → (n : ℕ) → reply_of r ≡ done n
    → (n ≤ i) × (n ≤ v)
unfolding read_reply
read_room bytes i v r kept n e = go (reading editions bytes i v) refl
  where
    go : (o : Outcome Pairs) → reading editions bytes i v ≡ o → (n ≤ i) × (n ≤ v)
    go (done q) f =
        let s = reads_columns_all bytes i v q f in
        let d = sym (kept ∙ ap read_reply f) ∙ e in
        let m : length q.ids ≡ n = cc in
        (omega (arith, s.ids_fit), omega (arith, s.values_fit))
    go (refused why w) f = absurd (let d = sym (kept ∙ ap read_reply f) ∙ e in let z : ◌≡◌ {A = ℕ} 0 1 = cc in omega arith)

pub power_small : (bytes : List ℕ) (c : Opened) → open_column editions bytes ≡ done c → c.head.power ≤ 15
power_small bytes c o = (head_facts c.head (opened_ok editions bytes c o).rules).power.most

pub number_small : (k : ℕ) (ed : Edition) → k ≡ number_of ed → k ≤ 4
unfolding number_of
number_small k plain e = omega arith
number_small k lucene e = omega arith
number_small k runs e = omega arith
number_small k table e = omega arith
