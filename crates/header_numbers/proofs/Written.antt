-- A header number below 2^64 byte by byte, and how long it is. Assumes nothing.
use Rattle.format.specs.Kit.{◌≡◌, sym, ap, ◌∙◌, List, [], ◌∷◌, ℕ, zero, suc, ◌+◌, ◌/◌, ◌%◌, ◌^◌, ◌≤◌, ◌<◌, pow-suc, pow-zero, arith, length}
use Rattle.format.specs.HeaderNumbers.{groups, number}
use Rattle.laws.proofs.Header.{groups_last, groups_more}
use Rattle.laws.proofs.Cases.{below_or}

-- where f + 1 bytes are enough, one more changes nothing
enough : (f n : ℕ) → n < 128 ^ suc f → groups (suc f) n ≡ groups (suc (suc f)) n
enough zero n h = let l : n < 128 = omega (arith, pow-suc 128 0, pow-zero 128) in groups_last 0 n l ∙ sym (groups_last 1 n l)
enough (suc f) n h =
    below_or n 128
    (λ l. groups_last (suc f) n l ∙ sym (groups_last (suc (suc f)) n l))
    (λ m.
    groups_more (suc f) n m
    ∙ ap {B = List ℕ} (λ (bs : List ℕ). (n % 128 + 128) ∷ bs) (enough f (n / 128) (omega (arith, pow-suc 128 (suc f))))
    ∙ sym (groups_more (suc (suc f)) n m))

pub number_last : (n : ℕ) → n < 128 → number n ≡ n ∷ []
unfolding number
number_last n h = groups_last 9 n h

pub number_more : (n : ℕ) → 128 ≤ n → n < 2 ^ 64 → number n ≡ (n % 128 + 128) ∷ number (n / 128)
unfolding number
number_more n h k = groups_more 9 n h ∙ ap {B = List ℕ} (λ (bs : List ℕ). (n % 128 + 128) ∷ bs) (enough 8 (n / 128) (omega arith))

-- ---- how long

some_groups : (f n : ℕ) → 1 ≤ length (groups (suc f) n)
some_groups f n =
    below_or n 128
    (λ l. rw (groups_last f n l) (omega arith))
    (λ m. rw (groups_more f n m) (omega arith))

most_groups : (f n : ℕ) → length (groups f n) ≤ f
unfolding groups
most_groups zero n = omega arith
most_groups (suc f) n =
    below_or n 128
    (λ l. rw (groups_last f n l) (omega arith))
    (λ m. rw (groups_more f n m) (omega (arith, most_groups f (n / 128))))

pub number_some : (n : ℕ) → 1 ≤ length (number n)
unfolding number
number_some n = some_groups 9 n

pub number_most : (n : ℕ) → length (number n) ≤ 10
unfolding number
number_most n = most_groups 10 n
