-- Each call that asks answers by the bytes' list; and its words and probes on any bytes. Assumes nothing.
use Rattle.format.specs.Kit.{◌≡◌, refl, sym, ap, ap₂, ◌∙◌, subst, List, [], ◌∷◌, map, ℕ, ◌≤◌, ◌-◌, min, arith, ℤ, length, drop, pow_pos}
use Rattle.format.specs.Kit.{leb, leb-true, eq-eqb, ne_eqb}
use Rattle.format.specs.Limits.{max_id}
use Rattle.format.specs.Refusals.{Outcome, done, refused, and_then, need, EDITION}
use Rattle.format.specs.Editions.{runs, editions}
use Rattle.format.specs.Column.{head_of}
use Rattle.format.specs.Opening.{Opened, open_column}
use Rattle.format.specs.LookUp.{Look, found, absent, step_probes, look_up, look_up_probes, look_up_in}
use Rattle.format.specs.Walk.{words, stride_words, FewWords}
use Rattle.format.specs.Layered.{look_up_layered, look_up_layered_in, layered_part, lists_part}
use Rattle.format.specs.Page.{place_kind, place_ordinal, place_value, place_words, page, page_reply, page_after}
use Rattle.format.specs.Next as Nx
use Rattle.format.specs.Next.{next, next_in, last_after, list_next}
use Rattle.format.specs.FirstBetween.{first_in, first_between}
use Rattle.format.specs.BetweenFrom.{first_between_from}
use Rattle.format.specs.ReadFrom.{Readout, read_from, readout_reply, readout_after}
use Rattle.format.specs.PairAt.{pair_at, list_pair}
use Rattle.format.specs.LayeredReading.{LayeredRead, pair_id, pair_value, pair_column, read_layered, layered_read_reply, layered_read_after}
use Rattle.format.specs.SetBytes.{set_bytes}
use Rattle.format.specs.SetCalls.{set_find, as_member}
use Rattle.laws.proofs.Cases.{true_or}
use Rattle.laws.proofs.Editions.{knows_all, lawful, lawful_reader}
use Rattle.laws.proofs.RoundTrip.{the_head, the_column}
use Rattle.laws.proofs.Tests.{result}
use Rattle.laws.proofs.Words.{words_le}
use Rattle.laws.proofs.Probes.{step_probes_few, opened_probes_lem, look_up_probes_few, accepted_probes}
use Rattle.laws.proofs.Paged.{enough}
use Rattle.laws.proofs.Sequences.{accepted_next}
use Rattle.laws.proofs.InTurn.{opened_next}
use Rattle.laws.proofs.FirstBetween.{accepted_between, other_between}
use Rattle.laws.proofs.BetweenFrom.{accepted_between_from, other_between_from}
use Rattle.laws.proofs.ReadFrom.{accepted_read_from}
use Rattle.laws.proofs.PairAt.{accepted_pair_at}
use Rattle.laws.proofs.Layered as Ld
use Rattle.laws.proofs.MergedReadings.{merged_read}
use Rattle.laws.proofs.Demands.{opened_look_up}
use Rattle.format.specs.Lists.{SetOf}
use Rattle.set_format.proofs.Demands.{alike}
use Rattle.answers.specs.Replies.{reply_of, answer_of, candidate_of, readout_of, Probed}
use Rattle.answers.specs.declared.Next.{Next}
use Rattle.answers.specs.declared.Readout as Ro
use Rattle.layered.specs.Answers.{layered_of, layered_readout_of}
use Rattle.demands.specs.Terms.{Holds, pairs_of, WordsBound, FewProbes, Answers, LayeredAnswers, asked, PageAnswers, NextAnswers, ReadFromAnswers}
use Rattle.demands.specs.Terms.{LayeredReadAnswers}
use Rattle.demands.proofs.Lists.{as_read}
use Rattle.std.specs.Prelude.{Ok, Err}
use Rattle.std.specs.declared.result.Result.{Result}
use Rattle.answers.specs.declared.Refusal as Re
use Rattle.answers.specs.declared.Look as Lk
use Rattle.layered.specs.declared.LayeredLook as Ly
use Rattle.layered.specs.declared.LayerRefusal as Rf

-- ---- words and probes, on any bytes

pub few : (p w : ℕ) → w ≤ stride_words p → WordsBound p w
unfolding stride_words
few p w h =
    record {
      with_ranks = λ k. let e = ne_eqb p 0 (λ z. absurd (omega arith)) in rw e at h;
      without_ranks = λ k. rw (eq-eqb p 0 k) at h;
    }

one : (p w : ℕ) → w ≤ 1 → WordsBound p w
one p w h = record { with_ranks = λ k. omega (arith, pow_pos (p - 6)); without_ranks = λ k. omega arith }

pub few_told : (p : ℕ) (o : Outcome Look) → FewWords p o → WordsBound p (place_words o)
unfolding place_words
few_told p (done (found i v w)) h = few p w h
few_told p (done (absent w)) h = one p w h
few_told p (refused why x) h = one p 0 (omega arith)

few_probes : (n : ℕ) → n ≤ 12 → (a : Result Lk.Look Re.Refusal) → Probed n a → FewProbes a
few_probes n h (Ok (Lk.Look.Found o v w k)) e = omega arith
few_probes n h (Ok (Lk.Look.Absent w k)) e = omega arith
few_probes n h (Err why) e = tt

pub look_up_probes_lem : (bytes : List ℕ) (id : ℕ) (a : Result Lk.Look Re.Refusal) → Probed (look_up_probes editions bytes id) a → FewProbes a
look_up_probes_lem bytes id a k = few_probes (look_up_probes editions bytes id) (look_up_probes_few editions bytes id) a k

pub look_up_in_probes : (bytes : List ℕ) (c : Opened) (id : ℕ) (a : Result Lk.Look Re.Refusal) → Probed (step_probes bytes c id) a → FewProbes a
look_up_in_probes bytes c id a k = few_probes (step_probes bytes c id) (step_probes_few bytes c id) a k

-- ---- the look-up

pub answered : (bytes : List ℕ) (id : ℕ) (a : Result Lk.Look Re.Refusal) → answer_of a ≡ look_up editions bytes id → Probed (look_up_probes editions bytes id) a
    → (n : ℕ) (x : Holds bytes n) → id ≤ max_id → Answers x id a
unfolding the_column head_of the_head
answered bytes id a k p n x h =
    let q = as_read bytes n x in
    let s = q.answers id h in
    record {
      by_list = k ∙ s.looked;
      opened = q.opened;
      is_opened = q.is_opened;
      by_walk = s.walked;
      few_words = few x.power (words x.power x.ids id) s.few_words;
      by_halving =
          subst (λ (m : ℕ). Probed m a)
          (opened_probes_lem editions bytes q.opened id q.is_opened
          ∙ accepted_probes editions (lawful_reader editions) bytes q.opened q.pairs q.is_opened q.is_accepted id h)
          p;
    }

pub opened_answered : (bytes : List ℕ) (id : ℕ) (a : Result Lk.Look Re.Refusal) (c : Opened) → open_column editions bytes ≡ done c → answer_of a ≡ look_up_in bytes c id
    → Probed (step_probes bytes c id) a → (n : ℕ) (x : Holds bytes n) → id ≤ max_id → Answers x id a
opened_answered bytes id a c o k p =
    answered bytes id a (k ∙ opened_look_up editions bytes c id o) (subst (λ (m : ℕ). Probed m a) (sym (opened_probes_lem editions bytes c id o)) p)

-- ---- with a correction on top

layered_answers : (m : List ℕ) (i : ℕ) (x : Holds m i) (c : List ℕ) (j : ℕ) (y : Holds c j) (id : ℕ) → id ≤ max_id
    → LayeredAnswers x y id (look_up_layered editions m c id)
unfolding the_column head_of the_head
layered_answers m i x c j y id h =
    record {
      by_lists = Ld.lists_answer_lem editions m c (as_read m i x) (as_read c j y) id h;
      machine_opened = (as_read m i x).opened;
      machine_is_opened = (as_read m i x).is_opened;
      correction_opened = (as_read c j y).opened;
      correction_is_opened = (as_read c j y).is_opened;
      by_walks = Ld.walks_answer_lem editions m c (as_read m i x) (as_read c j y) id h;
      machine_few_words = few x.power (words x.power x.ids id) (words_le x.power x.ids id);
      correction_few_words = few y.power (words y.power y.ids id) (words_le y.power y.ids id);
    }

pub layered_answered : (m c : List ℕ) (id : ℕ) (a : Result Ly.LayeredLook Rf.LayerRefusal) → layered_of a ≡ look_up_layered editions m c id
    → (i j : ℕ) (x : Holds m i) (y : Holds c j) → id ≤ max_id → LayeredAnswers x y id (layered_of a)
layered_answered m c id a k i j x y h = subst (LayeredAnswers x y id) (sym k) (layered_answers m i x c j y id h)

pub opened_layered_answered : (m c : List ℕ) (id : ℕ) (a : Result Ly.LayeredLook Rf.LayerRefusal) (u v : Opened) → open_column editions m ≡ done u → open_column editions c ≡ done v
    → layered_of a ≡ look_up_layered_in m u c v id
    → (i j : ℕ) (x : Holds m i) (y : Holds c j) → id ≤ max_id → LayeredAnswers x y id (layered_of a)
opened_layered_answered m c id a u v eu ev k = layered_answered m c id a (k ∙ Ld.opened_layered editions m u c v id eu ev)

-- the value section of the column that holds the id
pub part_by_lists : (m c : List ℕ) (i j : ℕ) (x : Holds m i) (y : Holds c j) (u v : Opened) (id : ℕ) → open_column editions m ≡ done u
    → open_column editions c ≡ done v → id ≤ max_id → layered_part editions m c id ≡ lists_part u (pairs_of x) v (pairs_of y) id
part_by_lists m c i j x y u v id eu ev h =
    let p = as_read m i x in
    let q = as_read c j y in
    let su : p.opened ≡ u = ap (result u) (sym p.is_opened ∙ eu) in
    let sv : q.opened ≡ v = ap (result v) (sym q.is_opened ∙ ev) in
    Ld.lists_part_lem editions m c p q id h ∙ ap (λ (o : Opened). lists_part o (pairs_of x) q.opened (pairs_of y) id) su
    ∙ ap (λ (o : Opened). lists_part u (pairs_of x) o (pairs_of y) id) sv

-- ---- a page of ids

asked_is : (bytes : List ℕ) (n : ℕ) (x : Holds bytes n) (id : ℕ) → look_up editions bytes id ≡ asked x id
unfolding look_up need the_column head_of the_head
asked_is bytes n x id =
    true_or (leb id max_id)
    (λ e. ((as_read bytes n x).answers id (leb-true id max_id e)).looked ∙ rw e)
    (λ e. rw e)

all_asked : (bytes : List ℕ) (n : ℕ) (x : Holds bytes n) (ids : List ℕ) → map (look_up editions bytes) ids ≡ map (asked x) ids
all_asked bytes n x [] = refl
all_asked bytes n x (id ∷ ids) = ap₂ ◌∷◌ (asked_is bytes n x id) (all_asked bytes n x ids)

module _ (bytes ids os os' : List ℕ) (vs vs' : List ℤ) (ks ks' : List ℕ) (r : Result ℕ Re.Refusal)
    (kept : reply_of r ≡ page_reply (page editions bytes ids (length os) (length vs) (length ks)))
    (ko : os' ≡ page_after place_ordinal (page editions bytes ids (length os) (length vs) (length ks)) os)
    (kv : vs' ≡ page_after place_value (page editions bytes ids (length os) (length vs) (length ks)) vs)
    (kk : ks' ≡ page_after place_kind (page editions bytes ids (length os) (length vs) (length ks)) ks) where
  pub page_answers : length ids ≤ length os → length ids ≤ length vs → length ids ≤ length ks → (n : ℕ) (x : Holds bytes n)
      → PageAnswers x ids os os' vs vs' ks ks' r
  unfolding page_reply
  page_answers ro rv rk n x =
      let e =
      enough editions bytes ids (length os) (length vs) (length ks) ro rv rk
      ∙ ap {B = Outcome (List (Outcome Look))} (λ (l : List (Outcome Look)). done l) (all_asked bytes n x ids) in
      record {
        words = kept ∙ ap page_reply e;
        ordinals = ko ∙ ap (λ (o : Outcome (List (Outcome Look))). page_after place_ordinal o os) e;
        values = kv ∙ ap (λ (o : Outcome (List (Outcome Look))). page_after place_value o vs) e;
        kinds = kk ∙ ap (λ (o : Outcome (List (Outcome Look))). page_after place_kind o ks) e;
      }

-- ---- the next candidate

next_is : (bytes : List ℕ) (n : ℕ) (x : Holds bytes n) (last t : ℕ) → next editions bytes last t ≡ list_next (pairs_of x) last t
next_is bytes n x =
    let s = as_read bytes n x in
    accepted_next editions (lawful_reader editions) bytes s.opened s.pairs s.is_opened s.is_accepted

pub next_answers : (bytes : List ℕ) (last t : ℕ) (a : Next) (o : Outcome Nx.Candidate) → o ≡ next editions bytes last t
    → candidate_of a.candidate ≡ o → a.cursor.last ≡ last_after o last t → (n : ℕ) (x : Holds bytes n) → NextAnswers x last t a
next_answers bytes last t a o e kept after n x =
    let same = e ∙ next_is bytes n x last t in
    record { candidate = kept ∙ same; cursor = after ∙ ap (λ (o : Outcome Nx.Candidate). last_after o last t) same }

-- from an opened column it is that from its bytes
pub next_in_is : (bytes : List ℕ) (c : Opened) (last t : ℕ) → open_column editions bytes ≡ done c → next_in bytes c last t ≡ next editions bytes last t
next_in_is bytes c last t o = opened_next bytes c last t editions o

-- ---- pairs from an id on, and by ordinal

module _ (bytes : List ℕ) (t : ℕ) (is is' : List ℕ) (xs xs' : List ℤ) (r : Result Ro.Readout Re.Refusal)
    (kept : readout_of r ≡ readout_reply (read_from editions bytes t (min (length is) (length xs))))
    (ki : is' ≡ readout_after (λ w. w.ids) (read_from editions bytes t (min (length is) (length xs))) is)
    (kx : xs' ≡ readout_after (λ w. w.values) (read_from editions bytes t (min (length is) (length xs))) xs) where
  pub read_from_answers : (n : ℕ) (x : Holds bytes n) → ReadFromAnswers x t is is' xs xs' r
  read_from_answers n x =
      let s = as_read bytes n x in
      let e =
      accepted_read_from editions (lawful_reader editions) bytes s.opened s.pairs s.is_opened s.is_accepted t (min (length is) (length xs)) in
      record {
        reply = kept ∙ ap readout_reply e;
        ids = ki ∙ ap (λ (o : Outcome Readout). readout_after (λ w. w.ids) o is) e;
        values = kx ∙ ap (λ (o : Outcome Readout). readout_after (λ w. w.values) o xs) e;
      }

module _ (m c : List ℕ) (t : ℕ) (is is' : List ℕ) (xs xs' : List ℤ) (cs cs' : List ℕ) (r : Result Ro.Readout Rf.LayerRefusal)
    (kept : layered_readout_of r ≡ layered_read_reply (read_layered editions m c t (min (length cs) (min (length is) (length xs)))))
    (ki : is' ≡ layered_read_after pair_id (read_layered editions m c t (min (length cs) (min (length is) (length xs)))) is)
    (kx : xs' ≡ layered_read_after pair_value (read_layered editions m c t (min (length cs) (min (length is) (length xs)))) xs)
    (kc : cs' ≡ layered_read_after pair_column (read_layered editions m c t (min (length cs) (min (length is) (length xs)))) cs) where
  pub layered_read_answers : (i j : ℕ) (x : Holds m i) (y : Holds c j) → LayeredReadAnswers x y t is is' xs xs' cs cs' r
  layered_read_answers i j x y =
      let p = as_read m i x in
      let q = as_read c j y in
      let e =
      merged_read editions (lawful_reader editions) m p.opened p.pairs p.is_opened p.is_accepted c q.opened q.pairs q.is_opened
      q.is_accepted t (min (length cs) (min (length is) (length xs))) in
      record {
        reply = kept ∙ ap layered_read_reply e;
        ids = ki ∙ ap (λ (o : LayeredRead). layered_read_after pair_id o is) e;
        values = kx ∙ ap (λ (o : LayeredRead). layered_read_after pair_value o xs) e;
        columns = kc ∙ ap (λ (o : LayeredRead). layered_read_after pair_column o cs) e;
      }

pub pair_is : (bytes : List ℕ) (n : ℕ) (x : Holds bytes n) (i : ℕ) → pair_at editions bytes i ≡ done (list_pair (pairs_of x) i)
pair_is bytes n x =
    let s = as_read bytes n x in
    accepted_pair_at editions (lawful_reader editions) bytes s.opened s.pairs s.is_opened s.is_accepted

-- ---- a range of values

module _ (bytes : List ℕ) (n : ℕ) (x : Holds bytes n) (a b : ℤ) where
  pub between_scans : x.edition ≡ runs → first_between bytes a b ≡ done (first_in a b 0 x.values)
  unfolding the_column head_of the_head
  between_scans e = let s = as_read bytes n x in accepted_between editions bytes s.opened s.pairs s.is_opened s.is_accepted e a b

  pub between_others : (x.edition ≡ runs → ⊥) → first_between bytes a b ≡ refused EDITION 0
  unfolding the_column head_of the_head
  between_others e = let s = as_read bytes n x in other_between editions bytes s.opened s.is_opened e a b

  module _ (i : ℕ) where
    pub from_scans : x.edition ≡ runs → first_between_from bytes i a b ≡ done (first_in a b i (drop i x.values))
    unfolding the_column head_of the_head
    from_scans e = let s = as_read bytes n x in accepted_between_from editions bytes s.opened i a b s.is_opened s.pairs s.is_accepted e

    pub from_others : (x.edition ≡ runs → ⊥) → first_between_from bytes i a b ≡ refused EDITION 0
    unfolding the_column head_of the_head
    from_others e = let s = as_read bytes n x in other_between_from editions bytes s.opened i a b s.is_opened e

-- ---- a set of the same ids

pub members_alike : (bytes set : List ℕ) (m n : ℕ) (x : Holds bytes m) (y : SetOf set n) → x.ids ≡ y.ids → (id : ℕ)
    → and_then (look_up editions bytes id) (λ (l : Look). done (as_member l)) ≡ set_find set id
members_alike bytes set m n x y e id =
    ap (λ (b : List ℕ). and_then (look_up editions b id) (λ (l : Look). done (as_member l))) (sym x.bytes_are)
    ∙ alike x.edition (lawful x.edition) editions (knows_all x.edition) x.power x.ids x.values x.valid id
    ∙ ap (λ (b : List ℕ). set_find b id) (ap set_bytes e ∙ y.same_bytes)
