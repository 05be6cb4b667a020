-- An opened column passes the tests exactly if the definition accepts it: the tests give the two halves, ids and values, and are given by
-- them. Assumes nothing.
use Rattle.format.specs.Kit.{◌≡◌, refl, sym, ap, Bool, true, false, List, ℕ, arith, drop, eqb-true, eq-eqb}
use Rattle.format.specs.Limits.{Power}
use Rattle.format.specs.Refusals.{Outcome, done, refused}
use Rattle.format.specs.Pairs.{Pairs, Below}
use Rattle.format.specs.Editions.{editions}
use Rattle.format.specs.Column.{Head}
use Rattle.format.specs.Opening.{Opened, open_column, id_part, value_part}
use Rattle.format.specs.Check.{accepted}
use Rattle.laws.proofs.Tests.{both_true, true_both}
use Rattle.laws.proofs.Digits.{below_drop, below_take}
use Rattle.laws.proofs.Open.{sound}
use Rattle.laws.proofs.Editions.{lawful_reader}
use Rattle.laws.proofs.Halves.{halves_accepted, accepted_halves, kept}
use Rattle.format.specs.Orders.{low_byte}
use Rattle.format.specs.Judge.{judge}
use Rattle.judge.proofs.LowFirst.{judge_sound, judge_complete}
use Rattle.values.specs.Edition.{tests}
use Rattle.values.proofs.Tests.{tested}
use Rattle.checking.specs.Tests.{holds, ids_ok, column_ok, is_taken}

same_truth : (a b : Bool) → (a ≡ true → b ≡ true) → (b ≡ true → a ≡ true) → a ≡ b
same_truth true b f g = sym (f refl)
same_truth false true f g = g refl
same_truth false false f g = refl

-- ---- the judge's answer

holds_true : (n : ℕ) (o : Outcome ℕ) → holds n o ≡ true → o ≡ done n
unfolding holds
holds_true n (done m) e = ap {B = Outcome ℕ} (λ (k : ℕ). done k) (eqb-true m n e)
holds_true n (refused why at) e = absurd (let z : ◌≡◌ {A = ℕ} 0 1 = cc in omega arith)

true_holds : (n : ℕ) (o : Outcome ℕ) → o ≡ done n → holds n o ≡ true
unfolding holds
true_holds n o e = rw e (eq-eqb n n refl)

-- ---- an opened column

module _ (bytes : List ℕ) (c : Opened) (u : Below 256 bytes) (opens : open_column editions bytes ≡ done c) where
  abbrev hd : Head
  hd = c.head

  power : Power hd.power
  power = (sound editions bytes c opens).facts.power

  below_ids : Below 256 (id_part bytes c)
  unfolding id_part
  below_ids = below_take 256 hd.id_bytes (drop c.start bytes) (below_drop 256 c.start bytes u)

  taken : column_ok bytes c ≡ true → is_taken (accepted bytes c) ≡ true
  unfolding column_ok ids_ok is_taken
  taken t =
      let b = both_true (holds hd.count (judge low_byte hd.power hd.jump_count (id_part bytes c)))
      (tests hd.edition hd.count hd.fields (value_part bytes c)) t in
      let i = judge_sound hd.power power hd.jump_count (id_part bytes c) hd.count below_ids (holds_true hd.count _ b.0) in
      let v = (tested hd.edition).sound hd.count hd.fields (value_part bytes c) (kept editions bytes c u opens) b.1 in
      ap is_taken (halves_accepted editions (lawful_reader editions) bytes c u opens i v)

  passes : (q : Pairs) → accepted bytes c ≡ done q → column_ok bytes c ≡ true
  unfolding column_ok ids_ok
  passes q a =
      let r = accepted_halves editions (lawful_reader editions) bytes c u opens q a in
      true_both _ _ (true_holds hd.count _ (judge_complete hd.power power hd.jump_count (id_part bytes c) hd.count r.0))
      ((tested hd.edition).complete hd.count hd.fields (value_part bytes c) (kept editions bytes c u opens) r.1)

  taken_back : is_taken (accepted bytes c) ≡ true → column_ok bytes c ≡ true
  unfolding is_taken
  taken_back = go (accepted bytes c) refl
    where
      go : (o : Outcome Pairs) → accepted bytes c ≡ o → is_taken o ≡ true → column_ok bytes c ≡ true
      go (done q) a t = passes q a
      go (refused why w) a t = absurd (let z : ◌≡◌ {A = ℕ} 0 1 = cc in omega arith)

  -- the tests say what the definition says
  pub column_ok_lem : column_ok bytes c ≡ is_taken (accepted bytes c)
  column_ok_lem = same_truth _ _ taken taken_back
