-- A run in the lists grows by one pair or by four; and the target after it. Assumes nothing.
use Rattle.format.specs.Kit.{◌≡◌, refl, sym, ap, ◌∙◌, List, ◌++◌, ℕ, suc, ◌+◌, ◌-◌, ◌≤◌, ◌<◌, add-one, min, arith, ℤ, pos, length, get_or, set, sets}
use Rattle.format.specs.Kit.{take, drop, take-add, drop-cons, drop-drop, length-drop, length-take-le, length-sets, replicate, length-replicate}
use Rattle.std.proofs.lemmas.List.{replicate-append-replicate}
use Rattle.laws.proofs.Cases.{below_or}
use Rattle.laws.proofs.Stores.{sets_then}
use Rattle.layered_reading.specs.Runs.{Put, RunRoom, RunTo, run_target}

-- ---- more at the end

module _ {A : Type 0} (l : List A) (i : ℕ) (s : List A) (m : ℕ) where
  abbrev up_to : ℕ → List A
  up_to k = sets l i (take (k - m) (drop m s))

  more : (n k : ℕ) → m ≤ k → k ≤ length s → up_to (k + n) ≡ sets (up_to k) (i + (k - m)) (take n (drop k s))
  more n k h b =
      let e : k + n - m ≡ (k - m) + n = omega arith in
      let z : m + (k - m) ≡ k = omega arith in
      ap (λ (j : ℕ). sets l i (take j (drop m s))) e
      ∙ ap (sets l i) (take-add (k - m) n (drop m s) ∙ ap (λ (r : List A). take (k - m) (drop m s) ++ take n r) (drop-drop (k - m) m s ∙ ap (λ (j : ℕ). drop j s) z))
      ∙ sets_then l i (i + (k - m)) (take (k - m) (drop m s)) (take n (drop k s))
      (ap (λ (j : ℕ). i + j) (length-take-le (k - m) (drop m s) (omega (arith, length-drop m s))))

  one : (k : ℕ) (d : A) → m ≤ k → k < length s → up_to (k + 1) ≡ set (up_to k) (i + (k - m)) (get_or s k d)
  one k d h b = more 1 k h (omega arith) ∙ ap (λ (r : List A). sets (up_to k) (i + (k - m)) (take 1 r)) (drop-cons s k d b)

-- the same element again and again
module _ {A : Type 0} (l : List A) (i m : ℕ) (x : A) where
  more_same : (n k : ℕ) → m ≤ k → sets l i (replicate (k + n - m) x) ≡ sets (sets l i (replicate (k - m) x)) (i + (k - m)) (replicate n x)
  more_same n k h =
      let e : k + n - m ≡ (k - m) + n = omega arith in
      ap (λ (j : ℕ). sets l i (replicate j x)) e
      ∙ ap (sets l i) (sym (replicate-append-replicate (k - m) n x))
      ∙ sets_then l i (i + (k - m)) (replicate (k - m) x) (replicate n x) (ap (λ (j : ℕ). i + j) (length-replicate (k - m) x))

-- ---- a run

module _ {i m end id : ℕ} {mi : List ℕ} {mv : List ℤ} {ids₀ : List ℕ} {vs₀ : List ℤ} {cs₀ : List ℕ} (r : RunRoom i m end mi mv ids₀ vs₀ cs₀) where
  pub run_begins : RunTo i m end id m mi mv ids₀ ids₀ vs₀ vs₀ cs₀ cs₀
  run_begins =
      let e : m - m ≡ 0 = omega arith in
      record {
        from = omega arith;
        upto = r.from;
        below = λ h. absurd (omega arith);
        in_ids = rw e refl;
        in_values = rw e refl;
        in_columns = rw e refl;
      }

  module _ {k : ℕ} {ids : List ℕ} {vs : List ℤ} {cs : List ℕ} (g : RunTo i m end id k mi mv ids₀ ids vs₀ vs cs₀ cs) where
    pub run_long_ids : length ids ≡ length ids₀
    run_long_ids = ap length g.in_ids ∙ length-sets ids₀ i (take (k - m) (drop m mi))

    pub run_long_values : length vs ≡ length vs₀
    run_long_values = ap length g.in_values ∙ length-sets vs₀ i (take (k - m) (drop m mv))

    pub run_long_columns : length cs ≡ length cs₀
    run_long_columns = ap length g.in_columns ∙ length-sets cs₀ i (replicate (k - m) 0)

    module _ {p : ℕ} (ep : p ≡ i + (k - m)) {ids' : List ℕ} {vs' : List ℤ} {cs' : List ℕ} where
      pub run_one : k < end → get_or mi k 0 < id → Put p (get_or mi k 0) (get_or mv k (pos 0)) 0 ids ids' vs vs' cs cs'
          → RunTo i m end id (k + 1) mi mv ids₀ ids' vs₀ vs' cs₀ cs'
      run_one h l q =
          let z : k + 1 - 1 ≡ k = omega arith in
          record {
            from = omega (arith, g.from);
            upto = omega arith;
            below = λ n. rw z l;
            in_ids = q.in_ids ∙ rw (ep, g.in_ids) (sym (one ids₀ i mi m k 0 g.from (omega (arith, r.in_buffer))));
            in_values = q.in_values ∙ rw (ep, g.in_values) (sym (one vs₀ i mv m k (pos 0) g.from (omega (arith, r.in_buffer_values))));
            in_columns = q.in_columns ∙ rw (ep, g.in_columns) (sym (more_same cs₀ i m 0 1 k g.from));
          }

      pub run_four : k + 4 ≤ end → get_or mi (k + 3) 0 < id
          → ids' ≡ sets ids p (take 4 (drop k mi)) → vs' ≡ sets vs p (take 4 (drop k mv)) → cs' ≡ sets cs p (replicate 4 0)
          → RunTo i m end id (k + 4) mi mv ids₀ ids' vs₀ vs' cs₀ cs'
      run_four h l ei ev ec =
          let z : k + 4 - 1 ≡ k + 3 = omega arith in
          record {
            from = omega (arith, g.from);
            upto = h;
            below = λ n. rw z l;
            in_ids = ei ∙ rw (ep, g.in_ids) (sym (more ids₀ i mi m 4 k g.from (omega (arith, r.in_buffer))));
            in_values = ev ∙ rw (ep, g.in_values) (sym (more vs₀ i mv m 4 k g.from (omega (arith, r.in_buffer_values))));
            in_columns = ec ∙ rw (ep, g.in_columns) (sym (more_same cs₀ i m 0 4 k g.from));
          }

-- ---- the target

pub no_run : (t m k : ℕ) (mi : List ℕ) → k ≤ m → run_target t (k - m) mi m ≡ t
unfolding run_target
no_run t m k mi h = let e : k - m ≡ 0 = omega arith in rw e refl

pub some_run : (t m k : ℕ) (mi : List ℕ) → m < k → run_target t (k - m) mi m ≡ get_or mi (k - 1) 0 + 1
unfolding run_target
some_run t m k mi h =
    let e : k - m ≡ suc (k - 1 - m) = omega arith in
    let z : m + (k - 1 - m) ≡ k - 1 = omega arith in
    rw (e, z) (sym (add-one (get_or mi (k - 1) 0)))

-- two runs, one after the other
pub run_on : (t m k n : ℕ) (mi : List ℕ) → m ≤ k → k ≤ n → run_target (run_target t (k - m) mi m) (n - k) mi k ≡ run_target t (n - m) mi m
run_on t m k n mi a b =
    below_or k n
    (λ h. some_run _ k n mi h ∙ sym (some_run t m n mi (omega arith)))
    (λ h. let e : n ≡ k = omega arith in rw e (no_run (run_target t (k - m) mi m) k k mi (omega arith)))

-- ---- places

-- a run that does not reach its end leaves a place of the lists
pub place_left : (room i m mc n k : ℕ) → n ≡ min (mc - m) (room - i) → i < room → m ≤ k → k ≤ m + n → (k ≡ m + n → ⊥) → i + (k - m) < room
place_left room i m mc n k e h a b d = let l : k < m + n = omega (arith, b, d) in let z : n ≤ room - i = omega (arith, e) in omega (arith, l, z, h, a)

pub under : (x room n l : ℕ) → x < room → room ≤ n → l ≡ n → x < l
under x room n l a b e = omega (arith, a, b, e)

-- and a pair of the buffer
pub pair_left : (room i m mc n k : ℕ) → n ≡ min (mc - m) (room - i) → m ≤ mc → k ≤ m + n → (k ≡ m + n → ⊥) → k < mc
pair_left room i m mc n k e h b d = let l : k < m + n = omega (arith, b, d) in let z : n ≤ mc - m = omega (arith, e) in omega (arith, l, z, h)

pub not_there : (k end : ℕ) → k ≤ end → (k ≡ end → ⊥) → k < end
not_there k end b d = omega (arith, b, d)

pub not_under : (x y : ℕ) → x ≤ y → y < x → ⊥
not_under x y a b = omega (arith, a, b)

-- a pair with the same value
pub put_as : {i id : ℕ} {v u : ℤ} {column : ℕ} {ids ids' : List ℕ} {vs vs' : List ℤ} {cs cs' : List ℕ} → v ≡ u → Put i id v column ids ids' vs vs' cs cs'
    → Put i id u column ids ids' vs vs' cs cs'
put_as {i} {vs = vs} e p =
    record { in_ids = p.in_ids; in_values = p.in_values ∙ ap (λ (y : ℤ). set vs i y) e; in_columns = p.in_columns }
