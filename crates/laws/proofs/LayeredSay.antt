-- A page and a reading with a correction on top answer exactly by their tables (format/specs/Says.antt), on every input. Assumes nothing.
use Rattle.format.specs.Kit.{◌≡◌, ◌↔◌, refl, sym, ◌∙◌, Bool, true, false, ◌&&◌, ◌⊎◌, inl, inr, ⊎_elim, List, ℕ, length, leb, leb-true, leb-false, le-leb, lt-leb}
use Rattle.format.specs.Refusals.{Outcome, done, refused, need}
use Rattle.format.specs.Editions.{Edition}
use Rattle.format.specs.Opening.{Opened, open_column}
use Rattle.format.specs.Next.{Candidate, new_cursor, next}
use Rattle.format.specs.Layered.{LayeredLook}
use Rattle.format.specs.LayeredPage.{page_by}
use Rattle.format.specs.LayeredReading.{LayeredRead, both_then, column_from, read_layered}
use Rattle.format.specs.Says.{LayeredPageSays, LayeredReadSays}
use Rattle.laws.proofs.Cases.{true_or}
use Rattle.laws.proofs.LayeredCalls.{start_refused, start_done, refused_start, done_start}
use Rattle.laws.proofs.LayeredInTwo.{is_opened}

-- ---- a page

module _ (look : ℕ → LayeredLook) (ids : List ℕ) (os vs ks cs : ℕ) (o : Outcome (List LayeredLook)) where
  abbrev n : ℕ
  n = length ids

  layered_page_says : page_by look ids os vs ks cs ≡ o → LayeredPageSays look ids os vs ks cs o
  unfolding page_by need
  layered_page_says e =
      true_or (leb n os)
      (λ ho.
      true_or (leb n vs)
      (λ hv.
      true_or (leb n ks)
      (λ hk.
      true_or (leb n cs)
      (λ hc. LayeredPageSays.answered (leb-true n os ho) (leb-true n vs hv) (leb-true n ks hk) (leb-true n cs hc) (sym e ∙ rw (ho, hv, hk, hc) refl))
      (λ hc. LayeredPageSays.buffer (inr (inr (inr (leb-false n cs hc)))) (sym e ∙ rw (ho, hv, hk, hc) refl)))
      (λ hk. LayeredPageSays.buffer (inr (inr (inl (leb-false n ks hk)))) (sym e ∙ rw (ho, hv, hk) refl)))
      (λ hv. LayeredPageSays.buffer (inr (inl (leb-false n vs hv))) (sym e ∙ rw (ho, hv) refl)))
      (λ ho. LayeredPageSays.buffer (inl (leb-false n os ho)) (sym e ∙ rw ho refl))

  -- one list that is too short decides, whatever the others are
  short_list : (a b c d : Bool) → (a ≡ false) ⊎ ((b ≡ false) ⊎ ((c ≡ false) ⊎ (d ≡ false))) → (a && b && c && d) ≡ false
  short_list false b c d h = refl
  short_list true false c d h = refl
  short_list true true false d h = refl
  short_list true true true false h = refl
  short_list true true true true h = ⊎_elim (λ e. e) (λ k. ⊎_elim (λ e. e) (λ k. ⊎_elim (λ e. e) (λ e. e) k) k) h

  said_layered_page : LayeredPageSays look ids os vs ks cs o → page_by look ids os vs ks cs ≡ o
  unfolding page_by need
  said_layered_page (LayeredPageSays.buffer few e) =
      let short =
      short_list (leb n os) (leb n vs) (leb n ks) (leb n cs)
      (⊎_elim (λ l. inl (lt-leb n os l))
      (λ k. inr (⊎_elim (λ l. inl (lt-leb n vs l)) (λ k. inr (⊎_elim (λ l. inl (lt-leb n ks l)) (λ l. inr (lt-leb n cs l)) k)) k)) few) in
      rw short (sym e)
  said_layered_page (LayeredPageSays.answered lo lv lk lc e) = rw (le-leb n os lo, le-leb n vs lv, le-leb n ks lk, le-leb n cs lc) (sym e)

  pub layered_page_exactly : (page_by look ids os vs ks cs ≡ o) ↔ LayeredPageSays look ids os vs ks cs o
  layered_page_exactly = (layered_page_says, said_layered_page)

-- ---- a reading

module _ (known : List Edition) (m c : List ℕ) (t room : ℕ) (o : LayeredRead) where
  -- a column that answers is the one that was opened
  the_column : (bytes : List ℕ) (a : Candidate) (x : Opened) → next known bytes new_cursor t ≡ done a → open_column known bytes ≡ done x
      → column_from known bytes t ≡ done x
  the_column bytes a x n e = let s = done_start known bytes t a n in s.1 ∙ sym (is_opened known bytes t s.0 s.1) ∙ e

  columns_say : (a b : Outcome Opened) → column_from known c t ≡ a → column_from known m t ≡ b → read_layered known m c t room ≡ o
      → LayeredReadSays known m c t room o
  unfolding read_layered both_then
  columns_say (refused why w) b ea eb e = LayeredReadSays.correction_fails why w (start_refused known c t why w ea) (sym e ∙ rw ea refl)
  columns_say (done y) (refused why w) ea eb e =
      let s = start_done known c t y ea in
      LayeredReadSays.machine_fails s.0 s.1 why w (start_refused known m t why w eb) (sym e ∙ rw (ea, eb) refl)
  columns_say (done y) (done x) ea eb e =
      let s = start_done known c t y ea in
      let u = start_done known m t x eb in
      LayeredReadSays.in_turn_is s.0 u.0 s.1 u.1 y x (is_opened known c t y ea) (is_opened known m t x eb) (sym e ∙ rw (ea, eb) refl)

  said_layered_read : LayeredReadSays known m c t room o → read_layered known m c t room ≡ o
  unfolding read_layered both_then
  said_layered_read (LayeredReadSays.correction_fails why w n e) = rw (refused_start known c t why w n) (sym e)
  said_layered_read (LayeredReadSays.machine_fails a n why w f e) =
      rw ((done_start known c t a n).1, refused_start known m t why w f) (sym e)
  said_layered_read (LayeredReadSays.in_turn_is a b n f y x oy ox e) = rw (the_column c a y n oy, the_column m b x f ox) (sym e)

  pub layered_read_exactly : (read_layered known m c t room ≡ o) ↔ LayeredReadSays known m c t room o
  layered_read_exactly = (columns_say (column_from known c t) (column_from known m t) refl refl, said_layered_read)
