-- Document 01, "Refusal numbers", and document 02, [1], [3]: the calls that read, ask for ids and for ordinals answer exactly by their tables
-- (format/specs/Says.antt), on every input. Assumes nothing.
use Rattle.format.specs.Kit.{◌≡◌, ◌↔◌, refl, sym, ap, ap₂, ◌∙◌, Bool, true, false, ◌&&◌, ◌⊎◌, inl, inr, ⊎_elim, List, ℕ, ◌≤◌, arith, length, leb, leb-true}
use Rattle.format.specs.Kit.{leb-false, le-leb, lt-leb}
use Rattle.format.specs.Limits.{max_id}
use Rattle.format.specs.Refusals.{Outcome, done, refused, and_then, need, DAMAGED}
use Rattle.format.specs.Pairs.{Pairs}
use Rattle.format.specs.Editions.{Edition}
use Rattle.format.specs.Opening.{Opened, open_column}
use Rattle.format.specs.Check.{accepted, check, reading}
use Rattle.format.specs.LookUp.{Look, look_up}
use Rattle.format.specs.Next.{Candidate, no_candidate, next_steps, next}
use Rattle.format.specs.ReadFrom.{Readout, read_steps, read_from}
use Rattle.format.specs.PairAt.{pair_steps, pair_at}
use Rattle.format.specs.Page.{page}
use Rattle.format.specs.Lists.{ColumnOf}
use Rattle.format.specs.Says.{ReadSays, PageSays, CheckSays, LookSays, NextSays, ReadFromSays, PairAtSays}
use Rattle.laws.proofs.Cases.{true_or, below_or}
use Rattle.laws.proofs.PairAt.{no_pair_is}
use Rattle.laws.proofs.Editions.{lawful, lawful_reader}
use Rattle.laws.proofs.Demands.{accepts_columns, columns_accepted, damaged_no_column, reads_columns, read_back}

-- what is opened, or refused
module _ {X : Type 0} (known : List Edition) (bytes : List ℕ) (f : (c : Opened) → open_column known bytes ≡ done c → X)
    (g : (why w : ℕ) → open_column known bytes ≡ refused why w → X) where
  opened_or : X
  opened_or = go (open_column known bytes) refl
    where
      go : (o : Outcome Opened) → open_column known bytes ≡ o → X
      go (done c) e = f c e
      go (refused why w) e = g why w e

-- ---- the check

module _ (known : List Edition) (bytes : List ℕ) (o : Outcome ℕ) where
  not_opened_check : (why w : ℕ) → open_column known bytes ≡ refused why w → check known bytes ≡ refused why w
  unfolding check and_then
  not_opened_check why w h = rw h

  check_says : check known bytes ≡ o → CheckSays known bytes o
  check_says e =
      opened_or known bytes
      (λ c h. go c h (check known bytes) refl)
      (λ why w h. CheckSays.not_opened why w h (sym e ∙ not_opened_check why w h))
    where
      go : (c : Opened) → open_column known bytes ≡ done c → (r : Outcome ℕ) → check known bytes ≡ r → CheckSays known bytes o
      go c h (done n) q = CheckSays.a_list n (accepts_columns known (lawful_reader known) bytes n q) (sym e ∙ q)
      go c h (refused why w) q =
          let unheld : (n : ℕ) → ColumnOf known bytes n → ⊥ =
          λ n x. let d = sym (columns_accepted known (lawful_reader known) bytes n x) ∙ q in let z : ◌≡◌ {A = ℕ} 0 1 = cc in omega arith in
          CheckSays.no_list c h unheld (sym e ∙ damaged_no_column known (lawful_reader known) bytes c h unheld)

  said_check : CheckSays known bytes o → check known bytes ≡ o
  said_check (CheckSays.not_opened why w h e) = not_opened_check why w h ∙ sym e
  said_check (CheckSays.no_list c h unheld e) = damaged_no_column known (lawful_reader known) bytes c h unheld ∙ sym e
  said_check (CheckSays.a_list n x e) = columns_accepted known (lawful_reader known) bytes n x ∙ sym e

  pub check_exactly : (check known bytes ≡ o) ↔ CheckSays known bytes o
  check_exactly = (check_says, said_check)

-- ---- the full reading

module _ (known : List Edition) (bytes : List ℕ) (idRoom valueRoom : ℕ) (o : Outcome Pairs) where
  -- opened, and with room for n
  module _ (c : Opened) (h : open_column known bytes ≡ done c) (i : c.head.count ≤ idRoom) (v : c.head.count ≤ valueRoom) where
    is_judged : reading known bytes idRoom valueRoom ≡ accepted bytes c
    unfolding reading and_then need
    is_judged = rw (h, le-leb c.head.count idRoom i, le-leb c.head.count valueRoom v) refl

    -- no list: the check refuses with DAMAGED, and so does the reading
    is_damaged : ((n : ℕ) → ColumnOf known bytes n → ⊥) → reading known bytes idRoom valueRoom ≡ refused DAMAGED 0
    unfolding check and_then
    is_damaged unheld = is_judged ∙ go (accepted bytes c) refl
      where
        go : (a : Outcome Pairs) → accepted bytes c ≡ a → accepted bytes c ≡ refused DAMAGED 0
        go (done q) e = absurd (unheld c.head.count (accepts_columns known (lawful_reader known) bytes c.head.count (rw (h, e))))
        go (refused why w) e =
            let f : check known bytes ≡ refused why w = rw (h, e) in
            let g : ◌≡◌ {A = Outcome ℕ} (refused why w) (refused DAMAGED 0) = sym f ∙ damaged_no_column known (lawful_reader known) bytes c h unheld in
            e ∙ ap₂ {C = Outcome Pairs} (λ (a b : ℕ). refused a b) (cc) (cc)

    judged_says : (a : Outcome Pairs) → accepted bytes c ≡ a → reading known bytes idRoom valueRoom ≡ o → ReadSays known bytes idRoom valueRoom o
    unfolding check and_then
    judged_says (done q) f e =
        let r = reads_columns known (lawful_reader known) bytes idRoom valueRoom q (is_judged ∙ f) in
        let x : ColumnOf known bytes (length q.ids) =
        record {
          edition = r.edition;
          knows = r.knows;
          power = r.power;
          ids = q.ids;
          values = q.values;
          valid = r.valid;
          same_bytes = r.same_bytes;
          count = refl;
        } in
        ReadSays.a_list (length q.ids) x r.ids_fit r.values_fit (sym e ∙ is_judged ∙ f)
    judged_says (refused why w) f e =
        let d : check known bytes ≡ refused why w = rw (h, f) in
        let unheld : (n : ℕ) → ColumnOf known bytes n → ⊥ =
        λ n x. let t = sym (columns_accepted known (lawful_reader known) bytes n x) ∙ d in let z : ◌≡◌ {A = ℕ} 0 1 = cc in omega arith in
        ReadSays.no_list c h i v unheld (sym e ∙ is_damaged unheld)

  read_says : (c : Outcome Opened) → open_column known bytes ≡ c → reading known bytes idRoom valueRoom ≡ o → ReadSays known bytes idRoom valueRoom o
  unfolding reading and_then need
  read_says (refused why w) h e = ReadSays.not_opened why w h (sym e ∙ rw h refl)
  read_says (done c) h e =
      true_or (leb c.head.count idRoom)
      (λ hi.
      true_or (leb c.head.count valueRoom)
      (λ hv. judged_says c h (leb-true c.head.count idRoom hi) (leb-true c.head.count valueRoom hv) (accepted bytes c) refl e)
      (λ hv. ReadSays.buffer c h (inr (leb-false c.head.count valueRoom hv)) (sym e ∙ rw (h, hi, hv) refl)))
      (λ hi. ReadSays.buffer c h (inl (leb-false c.head.count idRoom hi)) (sym e ∙ rw (h, hi) refl))

  said_read : ReadSays known bytes idRoom valueRoom o → reading known bytes idRoom valueRoom ≡ o
  unfolding reading and_then need
  said_read (ReadSays.not_opened why w h e) = rw h (sym e)
  said_read (ReadSays.buffer c h few e) =
      ⊎_elim
      (λ l. rw (h, lt-leb c.head.count idRoom l) (sym e))
      (λ l.
      true_or (leb c.head.count idRoom)
      (λ t. rw (h, t, lt-leb c.head.count valueRoom l) (sym e))
      (λ t. rw (h, t) (sym e)))
      few
  said_read (ReadSays.no_list c h i v unheld e) = is_damaged c h i v unheld ∙ sym e
  said_read (ReadSays.a_list n x i v e) =
      ap (λ (b : List ℕ). reading known b idRoom valueRoom) (sym x.same_bytes)
      ∙ read_back x.edition (lawful x.edition) x.power x.ids x.values x.valid known x.knows idRoom valueRoom
      (omega (arith, x.count)) (omega (arith, x.count))
      ∙ sym e

  pub reading_exactly : (reading known bytes idRoom valueRoom ≡ o) ↔ ReadSays known bytes idRoom valueRoom o
  reading_exactly = (read_says (open_column known bytes) refl, said_read)

-- ---- a page of ids

module _ (known : List Edition) (bytes ids : List ℕ) (os vs ks : ℕ) (o : Outcome (List (Outcome Look))) where
  page_says : page known bytes ids os vs ks ≡ o → PageSays known bytes ids os vs ks o
  unfolding page need
  page_says e =
      true_or (leb (length ids) os)
      (λ ho.
      true_or (leb (length ids) vs)
      (λ hv.
      true_or (leb (length ids) ks)
      (λ hk. PageSays.answered (leb-true (length ids) os ho) (leb-true (length ids) vs hv) (leb-true (length ids) ks hk) (sym e ∙ rw (ho, hv, hk) refl))
      (λ hk. PageSays.buffer (inr (inr (leb-false (length ids) ks hk))) (sym e ∙ rw (ho, hv, hk) refl)))
      (λ hv. PageSays.buffer (inr (inl (leb-false (length ids) vs hv))) (sym e ∙ rw (ho, hv) refl)))
      (λ ho. PageSays.buffer (inl (leb-false (length ids) os ho)) (sym e ∙ rw ho refl))

  -- one list that is too short decides, whatever the others are
  short_list : (a b c : Bool) → (a ≡ false) ⊎ ((b ≡ false) ⊎ (c ≡ false)) → (a && b && c) ≡ false
  short_list false b c h = refl
  short_list true false c h = refl
  short_list true true false h = refl
  short_list true true true h = ⊎_elim (λ e. e) (λ k. ⊎_elim (λ e. e) (λ e. e) k) h

  said_page : PageSays known bytes ids os vs ks o → page known bytes ids os vs ks ≡ o
  unfolding page need
  said_page (PageSays.buffer few e) =
      let short =
      short_list (leb (length ids) os) (leb (length ids) vs) (leb (length ids) ks)
      (⊎_elim (λ l. inl (lt-leb (length ids) os l))
      (λ k. inr (⊎_elim (λ l. inl (lt-leb (length ids) vs l)) (λ l. inr (lt-leb (length ids) ks l)) k)) few) in
      rw short (sym e)
  said_page (PageSays.answered lo lv lk e) = rw (le-leb (length ids) os lo, le-leb (length ids) vs lv, le-leb (length ids) ks lk) (sym e)

  pub page_exactly : (page known bytes ids os vs ks ≡ o) ↔ PageSays known bytes ids os vs ks o
  page_exactly = (page_says, said_page)

-- ---- a look-up

module _ (known : List Edition) (bytes : List ℕ) (id : ℕ) (o : Outcome Look) where
  look_says : look_up known bytes id ≡ o → LookSays known bytes id o
  unfolding look_up and_then need
  look_says e =
      true_or (leb id max_id)
      (λ h.
      opened_or known bytes
      (λ c f. LookSays.by_steps (leb-true id max_id h) c f (sym e ∙ rw (h, f) refl))
      (λ why w f. LookSays.not_opened (leb-true id max_id h) why w f (sym e ∙ rw (h, f) refl)))
      (λ h. LookSays.above_limit (leb-false id max_id h) (sym e ∙ rw h refl))

  said_look : LookSays known bytes id o → look_up known bytes id ≡ o
  unfolding look_up and_then need
  said_look (LookSays.above_limit h e) = rw (lt-leb id max_id h) (sym e)
  said_look (LookSays.not_opened h why w f e) = rw (le-leb id max_id h, f) (sym e)
  said_look (LookSays.by_steps h c f e) = rw (le-leb id max_id h, f) (sym e)

  pub look_exactly : (look_up known bytes id ≡ o) ↔ LookSays known bytes id o
  look_exactly = (look_says, said_look)

-- ---- the next candidate

module _ (known : List Edition) (bytes : List ℕ) (last t : ℕ) (o : Outcome Candidate) where
  next_says : next known bytes last t ≡ o → NextSays known bytes last t o
  unfolding next and_then need
  next_says e =
      true_or (leb t max_id)
      (λ h.
      true_or (leb last t)
      (λ k.
      opened_or known bytes
      (λ c f. NextSays.by_steps (leb-true t max_id h) (leb-true last t k) c f (sym e ∙ rw (h, k, f) refl))
      (λ why w f. NextSays.not_opened (leb-true t max_id h) (leb-true last t k) why w f (sym e ∙ rw (h, k, f) refl)))
      (λ k. NextSays.going_back (leb-true t max_id h) (leb-false last t k) (sym e ∙ rw (h, k) refl)))
      (λ h. NextSays.above_limit (leb-false t max_id h) (sym e ∙ rw h refl))

  said_next : NextSays known bytes last t o → next known bytes last t ≡ o
  unfolding next and_then need
  said_next (NextSays.above_limit h e) = rw (lt-leb t max_id h) (sym e)
  said_next (NextSays.going_back h k e) = rw (le-leb t max_id h, lt-leb last t k) (sym e)
  said_next (NextSays.not_opened h k why w f e) = rw (le-leb t max_id h, le-leb last t k, f) (sym e)
  said_next (NextSays.by_steps h k c f e) = rw (le-leb t max_id h, le-leb last t k, f) (sym e)

  pub next_exactly : (next known bytes last t ≡ o) ↔ NextSays known bytes last t o
  next_exactly = (next_says, said_next)

-- ---- pairs from an id on

module _ (known : List Edition) (bytes : List ℕ) (t room : ℕ) (o : Outcome Readout) where
  steps_say : (c : Opened) → open_column known bytes ≡ done c → leb t max_id ≡ true → (x : Outcome Candidate) → next_steps bytes c t ≡ x
      → read_from known bytes t room ≡ o → ReadFromSays known bytes t room o
  unfolding read_from read_steps and_then need
  steps_say c f h (done x) n e = ReadFromSays.in_turn_is (leb-true t max_id h) c f x n (sym e ∙ rw (h, f, n) refl)
  steps_say c f h (refused why w) n e = ReadFromSays.first_fails (leb-true t max_id h) c f why w n (sym e ∙ rw (h, f, n) refl)

  read_from_says : read_from known bytes t room ≡ o → ReadFromSays known bytes t room o
  unfolding read_from and_then need
  read_from_says e =
      true_or (leb t max_id)
      (λ h.
      opened_or known bytes
      (λ c f. steps_say c f h (next_steps bytes c t) refl e)
      (λ why w f. ReadFromSays.not_opened (leb-true t max_id h) why w f (sym e ∙ rw (h, f) refl)))
      (λ h. ReadFromSays.above_limit (leb-false t max_id h) (sym e ∙ rw h refl))

  said_read_from : ReadFromSays known bytes t room o → read_from known bytes t room ≡ o
  unfolding read_from read_steps and_then need
  said_read_from (ReadFromSays.above_limit h e) = rw (lt-leb t max_id h) (sym e)
  said_read_from (ReadFromSays.not_opened h why w f e) = rw (le-leb t max_id h, f) (sym e)
  said_read_from (ReadFromSays.first_fails h c f why w n e) = rw (le-leb t max_id h, f, n) (sym e)
  said_read_from (ReadFromSays.in_turn_is h c f x n e) = rw (le-leb t max_id h, f, n) (sym e)

  pub read_from_exactly : (read_from known bytes t room ≡ o) ↔ ReadFromSays known bytes t room o
  read_from_exactly = (read_from_says, said_read_from)

-- ---- the pair with an ordinal

module _ (known : List Edition) (bytes : List ℕ) (i : ℕ) (o : Outcome Candidate) where
  pair_at_says : pair_at known bytes i ≡ o → PairAtSays known bytes i o
  unfolding pair_at and_then
  pair_at_says e =
      opened_or known bytes
      (λ c f.
      below_or i c.head.count
      (λ l. PairAtSays.by_steps c f l (sym e ∙ rw f refl))
      (λ l. PairAtSays.none_there c f l (sym e ∙ rw f (no_pair_is bytes c i l))))
      (λ why w f. PairAtSays.not_opened why w f (sym e ∙ rw f refl))

  said_pair_at : PairAtSays known bytes i o → pair_at known bytes i ≡ o
  unfolding pair_at and_then
  said_pair_at (PairAtSays.not_opened why w f e) = rw f (sym e)
  said_pair_at (PairAtSays.none_there c f l e) = rw f (no_pair_is bytes c i l ∙ sym e)
  said_pair_at (PairAtSays.by_steps c f l e) = rw f (sym e)

  pub pair_at_exactly : (pair_at known bytes i ≡ o) ↔ PairAtSays known bytes i o
  pair_at_exactly = (pair_at_says, said_pair_at)
