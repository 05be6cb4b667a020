-- The blocks: what the judge passes before it comes to the end block, or to a fault, are the blocks of fine ascending runs, and it passes all
-- such. From the tests, by induction on the judge's own steps; to the tests, by induction on the runs that stand there. Assumes nothing.
use Rattle.format.specs.Kit.{◌≡◌, refl, sym, ap, ap₂, ◌∙◌, subst, Bool, true, false, cond, List, [], ◌∷◌, ◌++◌, append_assoc, Option, none, some}
use Rattle.format.specs.Kit.{ℕ, zero, suc, ◌+◌, ◌-◌, ◌<◌, ◌≤◌, add_assoc, arith, eqb, length, take, drop, length-drop, drop-drop}
use Rattle.format.specs.Kit.{lit<, length-append, take_at, eqb-true, eqb-false, eq-eqb, ne_eqb, lt-leb}
use Rattle.format.specs.Limits.{Power, end_number}
use Rattle.format.specs.Refusals.{Outcome, done, refused}
use Rattle.format.specs.Bytes.{bytes_of, same}
use Rattle.format.specs.Ids.{Run, data_bytes, block_bytes}
use Rattle.format.specs.IdsRead.{ids_of}
use Rattle.format.specs.Pairs.{Below}
use Rattle.format.specs.Runs.{total_bytes, Fine, AllFine, AscBlocks, end_of}
use Rattle.format.specs.Orders.{Order, bytes_in, fixed_at, block_data_in, block_in, end_in}
use Rattle.format.specs.Judge.{cut_off, first_failed, tests_at, unless_fault, Ended, judge_from}
use Rattle.laws.proofs.Digits.{below_drop}
use Rattle.laws.proofs.RoundTrip.{same_refl}
use Rattle.laws.proofs.Runs.{length_ids}
use Rattle.laws.proofs.Sizes.{block_total}
use Rattle.judge.proofs.Numbers.{number_split, first_lt}
use Rattle.judge.proofs.Held.{Held, held, passed}
use Rattle.judge.proofs.Standing.{shape, BlocksAt, ahead, end_read, end_six, within}
use Rattle.judge.proofs.Table.{EndPassed, BlockPassed, end_passed, block_passed, end_passes, block_passes}

no_ids : length (ids_of []) ≡ 0
unfolding ids_of
no_ids = refl

-- the blocks from one place to another, with the ids before it and the next number
pub record Between (o : Order) (p : ℕ) (s : List ℕ) (at n next : ℕ) (to m after : ℕ) : Type 0 where
  pub gs : List Run
  pub fine : AllFine gs
  pub asc : AscBlocks next gs
  pub bytes : drop at s ≡ bytes_of (block_in o p) gs ++ drop to s
  pub place : to ≡ at + total_bytes p gs
  pub count : m ≡ n + length (ids_of gs)
  pub last : after ≡ end_of next gs

-- what the judge's way over the blocks comes to: the end block, or the first test that fails
abbrev pub Comes : Order → ℕ → List ℕ → ℕ → ℕ → ℕ → Outcome Ended → Type 0
Comes o p s at n next (done e) = Between o p s at n next e.start e.count e.next × EndPassed o s e.start
Comes o p s at n next (refused why to) =
    (m : ℕ) × (after : ℕ) × Between o p s at n next to m after × (first_failed (tests_at o p s to after) ≡ some why)

module _ (o : Order) (p : ℕ) (ok : Power p) (s : List ℕ) where
  -- ---- from the tests

  here : (at n next : ℕ) → Between o p s at n next at n next
  unfolding bytes_of total_bytes end_of
  here at n next = record { gs = []; fine = tt; asc = tt; bytes = refl; place = omega arith; count = omega (arith, no_ids); last = refl }

  module _ (u : Below 256 s) where
    head_bytes : (at : ℕ) → at + 4 ≤ length s
        → drop at s ≡ bytes_in o 2 (fixed_at o 2 s at) ++ (bytes_in o 2 (fixed_at o 2 s (at + 2)) ++ drop (at + 4) s)
    unfolding fixed_at
    head_bytes at h =
        let e : at + 2 + 2 ≡ at + 4 = omega arith in
        number_split o 2 (drop at s) (omega (arith, length-drop at s)) (below_drop 256 at s u)
        ∙ ap (λ (l : List ℕ). bytes_in o 2 (fixed_at o 2 s at) ++ l)
        (drop-drop 2 at s ∙ number_split o 2 (drop (at + 2) s) (omega (arith, length-drop (at + 2) s)) (below_drop 256 (at + 2) s u)
        ∙ ap (λ (l : List ℕ). bytes_in o 2 (fixed_at o 2 s (at + 2)) ++ l) (drop-drop 2 (at + 2) s ∙ ap (λ (x : ℕ). drop x s) e))

    short_lt : (at : ℕ) → at + 2 ≤ length s → fixed_at o 2 s at < 65536
    unfolding fixed_at
    short_lt at h = first_lt o 2 (drop at s) (omega (arith, length-drop at s)) (below_drop 256 at s u)

    module _ (at n next : ℕ) (q : BlockPassed o p s at next (fixed_at o 2 s at) (suc (fixed_at o 2 s (at + 2)))) where
      abbrev k : ℕ
      k = fixed_at o 2 s at

      abbrev c : ℕ
      c = suc (fixed_at o 2 s (at + 2))

      head : at + 4 ≤ length s
      head = omega (arith, q.whole, block_total p c)

      -- its data are those of some places
      data_held : Held o p s (at + 4) c
      data_held =
          held o p ok s (at + 4) u c (omega (arith, short_lt (at + 2) (omega (arith, head)))) (omega (arith, q.whole, block_total p c)) q.its_data

      abbrev run : Run
      run = record { block = k; places = data_held.places }

      fine : Fine run
      fine =
          record {
            number = omega (arith, q.most);
            some_place = omega (arith, data_held.count);
            ascending = data_held.ascending;
            inside = data_held.inside;
          }

      one_block : drop at s ≡ block_in o p run ++ drop (at + block_bytes p c) s
      unfolding block_bytes
      one_block =
          let d = data_held in
          let c1 : fixed_at o 2 s (at + 2) ≡ length d.places - 1 = omega (arith, d.count) in
          let e : at + 4 + data_bytes p c ≡ at + (4 + data_bytes p c) = omega arith in
          head_bytes at head
          ∙ ap (λ (x : ℕ). bytes_in o 2 k ++ (bytes_in o 2 x ++ drop (at + 4) s)) c1
          ∙ ap (λ (l : List ℕ). bytes_in o 2 k ++ (bytes_in o 2 (length d.places - 1) ++ l))
          (d.bytes ∙ ap (λ (x : ℕ). block_data_in o p d.places ++ drop x s) e)
          ∙ sym (shape o p run (drop (at + (4 + data_bytes p c)) s))

      onward : (to m after : ℕ) → Between o p s (at + block_bytes p c) (n + c) (suc k) to m after → Between o p s at n next to m after
      unfolding bytes_of total_bytes end_of
      onward to m after x =
          record {
            gs = run ∷ x.gs;
            fine = (fine, x.fine);
            asc = (q.after, x.asc);
            bytes =
                one_block ∙ ap (λ (l : List ℕ). block_in o p run ++ l) x.bytes
                ∙ sym (append_assoc (block_in o p run) (bytes_of (block_in o p) x.gs) (drop to s));
            place =
                x.place ∙ ap (λ (i : ℕ). at + block_bytes p i + total_bytes p x.gs) (sym data_held.count)
                ∙ add_assoc at (block_bytes p (length data_held.places)) (total_bytes p x.gs);
            count = omega (arith, x.count, data_held.count, length_ids run x.gs);
            last = x.last;
          }

      onward_comes : (x : Outcome Ended) → Comes o p s (at + block_bytes p c) (n + c) (suc k) x → Comes o p s at n next x
      onward_comes (done e) y = (onward e.start e.count e.next y.0, y.1)
      onward_comes (refused why to) y = (y.0, y.1, onward to y.0 y.1 y.2, y.3)

    -- one step: a fault here, the end block here, or on
    step : (f at n next : ℕ) (x : Outcome Ended) (t : Option ℕ) (b : Bool) → first_failed (tests_at o p s at next) ≡ t
        → eqb (fixed_at o 2 s at) end_number ≡ b
        → ((y : Outcome Ended)
        → judge_from f o p s (at + block_bytes p (suc (fixed_at o 2 s (at + 2)))) (n + suc (fixed_at o 2 s (at + 2))) (suc (fixed_at o 2 s at)) ≡ y
        → Comes o p s (at + block_bytes p (suc (fixed_at o 2 s (at + 2)))) (n + suc (fixed_at o 2 s (at + 2))) (suc (fixed_at o 2 s at)) y)
        → unless_fault t at (cond b (done (record { start = at; count = n; next = next }))
        (judge_from f o p s (at + block_bytes p (suc (fixed_at o 2 s (at + 2)))) (n + suc (fixed_at o 2 s (at + 2))) (suc (fixed_at o 2 s at)))) ≡ x
        → Comes o p s at n next x
    unfolding unless_fault
    step f at n next x (some why) b ht hb ih h = subst (Comes o p s at n next) h (n, next, here at n next, ht)
    step f at n next x none true ht hb ih h =
        subst (Comes o p s at n next) h (here at n next, end_passed o p s at next ht (eqb-true (fixed_at o 2 s at) end_number hb))
    step f at n next x none false ht hb ih h =
        onward_comes at n next (block_passed o p s at next ht (eqb-false (fixed_at o 2 s at) end_number hb)) x (ih x h)

    pub comes : (f at n next : ℕ) → length s < f + at → (x : Outcome Ended) → judge_from f o p s at n next ≡ x → Comes o p s at n next x
    unfolding judge_from tests_at first_failed
    comes zero at n next l x h = subst (Comes o p s at n next) h (n, next, here at n next, cut)
      where
        cut : first_failed (tests_at o p s at next) ≡ some cut_off
        cut = rw (lt-leb (at + 4) (length s) (omega arith))
    comes (suc f) at n next l x h =
        let c : ℕ = suc (fixed_at o 2 s (at + 2)) in
        step f at n next x (first_failed (tests_at o p s at next)) (eqb (fixed_at o 2 s at) end_number) refl refl
        (λ y e. comes f (at + block_bytes p c) (n + c) (suc (fixed_at o 2 s at)) (omega (arith, block_total p c)) y e) h

  -- ---- to the tests

  -- a block that passes: the judge goes on after it
  went_on : (f at n next k c : ℕ) → fixed_at o 2 s at ≡ k → suc (fixed_at o 2 s (at + 2)) ≡ c → (k ≡ end_number → ⊥) → BlockPassed o p s at next k c
      → judge_from (suc f) o p s at n next ≡ judge_from f o p s (at + block_bytes p c) (n + c) (suc k)
  unfolding judge_from unless_fault
  went_on f at n next k c ek ec hk q =
      let no_end : fixed_at o 2 s at ≡ end_number → ⊥ = λ e. hk (sym ek ∙ e) in
      let same : BlockPassed o p s at next (fixed_at o 2 s at) (suc (fixed_at o 2 s (at + 2))) = rw (ek, ec) q in
      rw (block_passes o p s at next no_end same, ek, ec, ne_eqb k end_number hk)

  -- after the blocks of runs
  pub went_all : (f m at n next : ℕ) (gs : List Run) (rest : List ℕ) → BlocksAt o p s at gs rest → AscBlocks next gs → m ≡ length gs + f
      → judge_from m o p s at n next ≡ judge_from f o p s (at + total_bytes p gs) (n + length (ids_of gs)) (end_of next gs)
  unfolding total_bytes end_of
  went_all f m at n next [] rest t a e =
      let x : m ≡ f = omega arith in
      let y : at ≡ at + 0 = omega arith in
      let z : n ≡ n + length (ids_of []) = omega (arith, no_ids) in
      ap (λ (i : ℕ). judge_from i o p s at n next) x ∙ ap₂ {C = Outcome Ended} (λ (i j : ℕ). judge_from f o p s i j next) y z
  went_all f zero at n next (g ∷ gs) rest t a e = absurd (omega arith)
  went_all f (suc m) at n next (g ∷ gs) rest t a e =
      let b = ahead o p (omega (arith, ok.most)) s at g gs rest t in
      let c : ℕ = length g.places in
      let x : at + block_bytes p c + total_bytes p gs ≡ at + (block_bytes p c + total_bytes p gs) = omega arith in
      let y : n + c + length (ids_of gs) ≡ n + length (ids_of (g ∷ gs)) = omega (arith, length_ids g gs) in
      went_on m at n next g.block c b.number b.count (λ q. omega (arith, b.fine.number))
      (record {
        whole = b.inside;
        after = a.0;
        most = omega (arith, b.fine.number);
        its_data = passed o p ok s (at + 4) g.places (bytes_of (block_in o p) gs ++ rest) b.fine.ascending b.fine.inside b.its_data;
      })
      ∙ went_all f m (at + block_bytes p c) (n + c) (suc g.block) gs rest b.after a.1 (omega arith)
      ∙ ap₂ {C = Outcome Ended} (λ (i j : ℕ). judge_from f o p s i j (end_of (suc g.block) gs)) x y

  -- the end block
  pub ended : (f at n next : ℕ) (rest : List ℕ) → drop at s ≡ end_in o ++ rest
      → (judge_from (suc f) o p s at n next ≡ done (record { start = at; count = n; next = next })) × (at + 6 ≤ length s)
  unfolding judge_from unless_fault
  ended f at n next rest e =
      let six : take 6 (drop at s) ≡ end_in o = ap (take 6) e ∙ take_at (end_in o) rest 6 (end_six o) in
      let l : at + 6 ≤ length s = within s at 6 (end_in o ++ rest) e (omega (arith, length-append (end_in o) rest, end_six o)) (lit< tt) in
      let k : fixed_at o 2 s at ≡ end_number = end_read o s at rest e in
      let t : same (take 6 (drop at s)) (end_in o) ≡ true = ap (λ (x : List ℕ). same x (end_in o)) six ∙ same_refl (end_in o) in
      (rw (end_passes o p s at next k (record { whole = l; six = t }), eq-eqb (fixed_at o 2 s at) end_number k), l)
