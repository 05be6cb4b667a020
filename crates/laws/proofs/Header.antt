-- A header number read back. Assumes nothing.
use Rattle.format.specs.Kit.{◌≡◌, refl, sym, ap, ◌∙◌, List, [], ◌∷◌, ◌++◌, append_assoc, ℕ, zero, suc, ◌+◌, ◌*◌, ◌/◌, ◌%◌, ◌^◌, ◌<◌, ◌≤◌}
use Rattle.format.specs.Kit.{pow-succ', pow-zero, add-zero, add_assoc, arith, length, length-append, drop, drop-drop, drop-append_seam, ne_eqb}
use Rattle.format.specs.Kit.{le-ltb, lt-ltb}
use Rattle.format.specs.Refusals.{done, and_then}
use Rattle.format.specs.Bytes.{bytes_of}
use Rattle.format.specs.HeaderNumbers.{groups, number, got, above, read_groups, read_number, got_at, number_at, numbers_at}
use Rattle.format.specs.Pairs.{Below}
use Rattle.laws.proofs.Cases.{below_or}

-- ---- the equations of `groups` and its reading

pub groups_last : (f n : ℕ) → n < 128 → groups (suc f) n ≡ n ∷ []
unfolding groups
groups_last f n h = rw (lt-ltb n 128 h)

pub groups_more : (f n : ℕ) → 128 ≤ n → groups (suc f) n ≡ (n % 128 + 128) ∷ groups f (n / 128)
unfolding groups
groups_more f n h = rw (le-ltb n 128 h)

read_last : (f b : ℕ) (bs : List ℕ) → b < 128 → zero < b → read_groups (suc f) (b ∷ bs) ≡ got b 1
unfolding read_groups
read_last f b bs h k = rw (lt-ltb b 128 h, ne_eqb b 0 (λ e. omega arith))

read_more : (f b : ℕ) (bs : List ℕ) → 128 ≤ b → read_groups (suc f) (b ∷ bs) ≡ above b (read_groups f bs)
unfolding read_groups
read_more f b bs h = rw (le-ltb b 128 h)

read_tenth : (bs : List ℕ) → read_groups zero (1 ∷ bs) ≡ got 1 1
unfolding read_groups
read_tenth bs = refl

-- a byte's seven bits and the groups above
above_got : (n k : ℕ) → above (n % 128 + 128) (got (n / 128) k) ≡ got n (suc k)
unfolding above
above_got n k = ap (λ (v : ℕ). got v (suc k)) (omega arith)

-- after the first byte, at most f + 1 bytes more
read_groups_lem : (f n : ℕ) (rest : List ℕ) → zero < n → n < 2 * 128 ^ f → read_groups f (groups (suc f) n ++ rest) ≡ got n (length (groups (suc f) n))
read_groups_lem zero n rest h k =
    let one : n ≡ 1 = omega (arith, pow-zero 128) in
    rw (groups_last zero n (omega arith), one) (read_tenth rest)
read_groups_lem (suc f) n rest h k =
    below_or n 128
    (λ l. rw (groups_last (suc f) n l) (read_last f n rest l h))
    (λ m.
    rw (groups_more (suc f) n m)
    (read_more f (n % 128 + 128) (groups (suc f) (n / 128) ++ rest) (omega arith)
    ∙ ap (above (n % 128 + 128)) (read_groups_lem f (n / 128) rest (omega arith) (omega (arith, pow-succ' 128 f)))
    ∙ above_got n (length (groups (suc f) (n / 128)))))

pub read_number_lem : (n : ℕ) (rest : List ℕ) → n < 2 ^ 64 → read_number (number n ++ rest) ≡ got n (length (number n))
unfolding number read_number
read_number_lem n rest h =
    below_or n 128
    (λ l. rw (groups_last 9 n l, lt-ltb n 128 l))
    (λ m.
    rw (groups_more 9 n m, le-ltb (n % 128 + 128) 128 (omega arith))
    (rw (read_groups_lem 8 (n / 128) rest (omega arith) (omega arith), above_got n (length (groups 9 (n / 128))))))

-- ---- several numbers, from a place on

pub number_at_lem : (bytes : List ℕ) (at n : ℕ) (rest : List ℕ) → drop at bytes ≡ number n ++ rest → n < 2 ^ 64
    → number_at bytes at ≡ done (n, at + length (number n))
unfolding number_at got_at
number_at_lem bytes at n rest e h = rw (e, read_number_lem n rest h)

pub numbers_at_lem : (ns bytes : List ℕ) (at : ℕ) (rest : List ℕ) → drop at bytes ≡ bytes_of number ns ++ rest → Below (2 ^ 64) ns
    → numbers_at (length ns) bytes at ≡ done (ns, at + length (bytes_of number ns))
unfolding numbers_at bytes_of and_then
numbers_at_lem [] bytes at rest e t = ap (λ (k : ℕ). done ([], k)) (sym (add-zero at))
numbers_at_lem (n ∷ ns) bytes at rest e t =
    let e1 : drop at bytes ≡ number n ++ (bytes_of number ns ++ rest) = e ∙ append_assoc (number n) (bytes_of number ns) rest in
    let e2 : drop (at + length (number n)) bytes ≡ bytes_of number ns ++ rest =
    sym (drop-drop (length (number n)) at bytes) ∙ ap (drop (length (number n))) e1 ∙ drop-append_seam (number n) (bytes_of number ns ++ rest) in
    rw (number_at_lem bytes at n (bytes_of number ns ++ rest) e1 t.0, numbers_at_lem ns bytes (at + length (number n)) rest e2 t.1)
    (simp (add_assoc, length-append))
