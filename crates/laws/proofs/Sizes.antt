-- A block's sizes by its kind, and a rank table's by its power. Assumes nothing.
use Rattle.format.specs.Kit.{◌≡◌, sym, ap, ◌∙◌, ℕ, suc, ◌+◌, ◌-◌, ◌*◌, ◌/◌, ◌^◌, ◌<◌, ◌≤◌, suc-mul, mul-le-mul_right, pow-succ', arith, add-one}
use Rattle.format.specs.Kit.{pow-add, pow_mono, eq-eqb, ne_eqb, eqb-false}
use Rattle.format.specs.Limits.{Power}
use Rattle.format.specs.Ids.{by_kind, rank_bytes, data_bytes, block_bytes}
use Rattle.laws.proofs.Blocks.{kind_sparse, kind_dense, kind_all}
use Rattle.format.proofs.RankBytes.{rank_le}

-- ---- rank tables

pub ranks_none : (p : ℕ) → p ≡ 0 → rank_bytes p ≡ 0
unfolding rank_bytes
ranks_none p e = rw (eq-eqb p 0 e)

pub ranks_some : (p : ℕ) → p ≤ 15 → (p ≡ 0 → ⊥) → (rank_bytes p ≡ 2 * 2 ^ (16 - p)) × (rank_bytes p / 2 ≡ 2 ^ (16 - p))
unfolding rank_bytes
ranks_some p h e =
    let f : 2 ^ (17 - p) ≡ 2 * 2 ^ (16 - p) = ap (λ (x : ℕ). 2 ^ x) (omega arith) ∙ pow-succ' 2 (16 - p) in
    rw (ne_eqb p 0 e) (f, omega arith)

pub rank_some : (p : ℕ) → Power p → (p ≡ 0 → ⊥) → 2 ^ (17 - p) ≡ rank_bytes p
rank_some p h e =
    let f : 17 - p ≡ suc (16 - p) = omega (arith, h.most) in
    ap (λ (x : ℕ). 2 ^ x) f ∙ pow-succ' 2 (16 - p) ∙ sym (ranks_some p h.most e).0

pub rank_max : (p : ℕ) → Power p → rank_bytes p ≤ 1024
rank_max p h = rank_le p (λ e. h.least (eqb-false p 0 e))

-- ---- strides

pub strides_max : (p : ℕ) → 2 ^ (16 - p) ≤ 65536
strides_max p = pow_mono {j = 16} (omega arith)

pub stride_max : (p : ℕ) → p ≤ 15 → 2 ^ (p - 6) ≤ 512
stride_max p h = pow_mono {j = 9} (omega arith)

pub stride_fits : (p j : ℕ) → Power p → (p ≡ 0 → ⊥) → j < rank_bytes p / 2 → j * 2 ^ (p - 6) + 2 ^ (p - 6) ≤ 1024
stride_fits p j h e l =
    let r = ranks_some p h.most e in
    let six : 16 - p + (p - 6) ≡ 10 = omega (arith, h.most, h.least e) in
    let all : 2 ^ (16 - p) * 2 ^ (p - 6) ≡ 1024 = sym (pow-add 2 (16 - p) (p - 6)) ∙ ap (λ (x : ℕ). 2 ^ x) six in
    let k : suc j ≤ 2 ^ (16 - p) = omega (arith, r.1) in
    omega (arith, mul-le-mul_right (2 ^ (p - 6)) k, suc-mul j (2 ^ (p - 6)))

pub stride_next : (j w : ℕ) → j * w + w ≡ (j + 1) * w
stride_next j w = sym (ap (λ (x : ℕ). x * w) (add-one j) ∙ suc-mul j w)

-- ---- data, and a block, by kind

pub data_sparse : (p c : ℕ) → c < 4096 → data_bytes p c ≡ 2 * c
unfolding data_bytes by_kind
data_sparse p c h = rw (kind_sparse c h)

pub data_dense : (p c : ℕ) → 4096 ≤ c → c < 65536 → data_bytes p c ≡ rank_bytes p + 8192
unfolding data_bytes by_kind
data_dense p c h k = rw (kind_dense c h k)

pub data_all : (p c : ℕ) → 65536 ≤ c → data_bytes p c ≡ 0
unfolding data_bytes by_kind
data_all p c h = rw (kind_all c h)

pub block_total : (p c : ℕ) → block_bytes p c ≡ 4 + data_bytes p c
unfolding block_bytes
block_total p c = omega arith
