-- The stride of a place, for every rank power: its first long, its rank's entry, and the words in it. Assumes nothing.
use Rattle.format.specs.Kit.{◌≡◌, ap, ◌∙◌, List, ℕ, ◌+◌, ◌-◌, ◌*◌, ◌/◌, ◌%◌, ◌^◌, ◌<◌, ◌≤◌, div-add-mod', arith, shr-shr, shr_lt, eq-eqb, ne_eqb}
use Rattle.format.specs.Limits.{Power}
use Rattle.format.specs.Bytes.{high_at}
use Rattle.format.specs.Ids.{rank_bytes}
use Rattle.format.specs.LookUp.{stride_long, stride_rank}
use Rattle.laws.proofs.Sizes.{ranks_some}

pub long_none : (p r : ℕ) → p ≡ 0 → stride_long p r ≡ 0
unfolding stride_long
long_none p r e = rw (eq-eqb p 0 e)

pub long_some : (p r : ℕ) → (p ≡ 0 → ⊥) → stride_long p r ≡ r / 2 ^ p * 2 ^ (p - 6)
unfolding stride_long
long_some p r e = rw (ne_eqb p 0 e)

pub rank_none : (p : ℕ) (s : List ℕ) (t r : ℕ) → p ≡ 0 → stride_rank p s t r ≡ 0
unfolding stride_rank
rank_none p s t r e = rw (eq-eqb p 0 e)

pub rank_some : (p : ℕ) (s : List ℕ) (t r : ℕ) → (p ≡ 0 → ⊥) → stride_rank p s t r ≡ high_at 2 s (t + 2 * (r / 2 ^ p))
unfolding stride_rank
rank_some p s t r e = rw (ne_eqb p 0 e)

-- a place's long is as far into its stride as it is modulo the stride's longs
pub long_in : (p r : ℕ) → Power p → (p ≡ 0 → ⊥) → r / 2 ^ p * 2 ^ (p - 6) + r / 64 % 2 ^ (p - 6) ≡ r / 64
long_in p r h e =
    let six : 6 + (p - 6) ≡ p = omega (arith, h.least e) in
    let f : r / 64 / 2 ^ (p - 6) ≡ r / 2 ^ p = shr-shr r 6 (p - 6) ∙ ap (λ (x : ℕ). r / 2 ^ x) six in
    rw (← f) (div-add-mod' (r / 64) (2 ^ (p - 6)))

-- the entry of a place's stride stands in the table
pub entry_in : (p r : ℕ) → Power p → (p ≡ 0 → ⊥) → r < 65536 → 2 * (r / 2 ^ p) + 2 ≤ rank_bytes p
entry_in p r h e l =
    let all : 16 - p + p ≡ 16 = omega (arith, h.most) in
    let low : r < 2 ^ (16 - p + p) = rw all l in
    omega (arith, shr_lt (16 - p) p low, (ranks_some p h.most e).0)
