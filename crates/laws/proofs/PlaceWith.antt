-- In a block of a list: the place with an index is the one of the list, in each kind of block and for every rank power. Assumes nothing.
use Rattle.format.specs.Kit.{◌≡◌, refl, sym, ap, ◌∙◌, subst, true, false, cond, ◌&&◌, List, [], ◌∷◌, ◌++◌, append_assoc, Option, none, some, ℕ, zero, suc}
use Rattle.format.specs.Kit.{◌+◌, ◌-◌, ◌*◌, ◌/◌, ◌%◌, ◌^◌}
use Rattle.format.specs.Kit.{◌≤◌, ◌<◌, zero-le, add-zero, zero-add, zero-mul, sub-zero, arith, eqb, length, get_or, drop, drop-drop, eq-eqb, ne_eqb, lt-ltb}
use Rattle.format.specs.Kit.{le-ltb, le-leb, lt-leb, pow_pos, mod-lt}
use Rattle.format.specs.Kit.{div-add-mod', div-lt_iff_lt-mul, lt_of_lt_of_le, lt_of_le_of_lt, le_of_eq, mul-le-mul_right, mul_comm, mul-div_cancel_left}
use Rattle.format.specs.Kit.{eqb-false, suc-mul}
use Rattle.format.specs.Bytes.{low, bytes_of, count_from, low_at, high_at}
use Rattle.format.specs.Ids.{sparse, dense, all, by_kind, kind_of, bitmap, count_below, rank_table, rank_bytes, block_data}
use Rattle.format.specs.IdsRead.{shorts}
use Rattle.format.specs.Pairs.{Below, Asc}
use Rattle.format.specs.LookUp.{stride_rank}
use Rattle.format.specs.Walk.{listed}
use Rattle.laws.proofs.Cases.{below_or, equal_or}
use Rattle.laws.proofs.Places.{asc_length, all_places, shorts_back}
use Rattle.laws.proofs.Standing.{short_at}
use Rattle.laws.proofs.Blocks.{kind_sparse, kind_dense, kind_all}
use Rattle.laws.proofs.Ones.{occurs, occurs_none, bit_is, count_suc, count_zero}
use Rattle.laws.proofs.Find.{count_lt, occurs_listed}
use Rattle.laws.proofs.Dense.{bit_at_lem, longs_at, rank_at, strides_all}
use Rattle.laws.proofs.Place.{listed_higher, count_higher}
use Rattle.format.specs.PairAt.{last_up_to, bit_after, dense_with, place_with}
use Rattle.laws.proofs.LastUpTo.{last_is}

-- ---- lists

-- a listed place stands after those below it
pub at_count : (r a : ℕ) (rs : List ℕ) → Asc a rs → listed r rs ≡ true → get_or rs (count_below r rs) 0 ≡ r
unfolding listed count_below
at_count r a [] t e = absurd (let z : ◌≡◌ {A = ℕ} 0 1 = cc in omega arith)
at_count r a (x ∷ xs) t e =
    below_or x r
    (λ h.
    let one : 1 + count_below r xs ≡ suc (count_below r xs) = omega arith in
    rw (lt-ltb x r h, one) (at_count r (suc x) xs t.1 (rw (ne_eqb x r (λ z. omega arith)) at e)))
    (λ h.
    equal_or x r
    (λ z. rw (le-ltb x r h, count_higher r (suc x) xs (omega arith) t.1) z)
    (λ z. absurd (let y = sym (rw (ne_eqb x r z, listed_higher r (suc x) xs (omega arith) t.1) at e) in let w : ◌≡◌ {A = ℕ} 0 1 = cc in omega arith)))

-- no fewer places are below a greater one
pub count_mono : (x k : ℕ) (rs : List ℕ) → count_below x rs ≤ count_below (x + k) rs
count_mono x zero rs = rw (add-zero x) (omega arith)
count_mono x (suc k) rs =
    let e : x + suc k ≡ suc (x + k) = omega arith in
    rw e (omega (arith, count_mono x k rs, count_suc (x + k) rs))

count_up : (x y : ℕ) (rs : List ℕ) → x ≤ y → count_below x rs ≤ count_below y rs
count_up x y rs h = let e : x + (y - x) ≡ y = omega arith in rw e at (count_mono x (y - x) rs)

count_past : (x y : ℕ) (rs : List ℕ) → x < y → occurs x rs ≡ 1 → count_below x rs < count_below y rs
count_past x y rs h e = omega (arith, count_up (suc x) y rs h, count_suc x rs)

occurs_most : (x a : ℕ) (rs : List ℕ) → Asc a rs → occurs x rs ≤ 1
unfolding occurs
occurs_most x a [] t = omega arith
occurs_most x a (r ∷ rs) t =
    equal_or r x
    (λ e. rw (eq-eqb r x e) (omega (arith, occurs_none x (suc r) rs (omega arith) t.1)))
    (λ e. rw (ne_eqb r x e) (omega (arith, occurs_most x (suc r) rs t.1)))

listed_occurs : (x : ℕ) (rs : List ℕ) → Asc 0 rs → listed x rs ≡ true → occurs x rs ≡ 1
listed_occurs x rs t e =
    let z : eqb (occurs x rs) 0 ≡ false = occurs_listed x rs ∙ rw e refl in
    omega (arith, occurs_most x 0 rs t, eqb-false (occurs x rs) 0 z)

from_get : (n a i : ℕ) → i < n → get_or (count_from n a) i 0 ≡ a + i
unfolding count_from
from_get zero a i h = absurd (omega arith)
from_get (suc n) a zero h = sym (add-zero a)
from_get (suc n) a (suc i) h = from_get n (suc a) i (omega arith) ∙ omega arith

-- ---- a dense block

-- a stride is within the block
pub stride_end : (p q : ℕ) → p ≤ 16 → q < 2 ^ (16 - p) → q * 2 ^ p + 2 ^ p ≤ 65536
stride_end p q hp h = omega (arith, suc-mul q (2 ^ p), mul-le-mul_right (2 ^ p) h, strides_all p hp)

module _ (p : ℕ) (rs s : List ℕ) (t : ℕ) (rest : List ℕ) (asc : Asc 0 rs) (here : drop t s ≡ rank_table p rs ++ (low 8192 (bitmap rs) ++ rest))
    (hp : p ≤ 16) (r : ℕ) (hr : r < 65536) (l : listed r rs ≡ true) where
  abbrev m : ℕ
  m = t + rank_bytes p

  bit : (x : ℕ) → x < 65536 → low_at 8 s (m + 8 * (x / 64)) / 2 ^ (x % 64) % 2 ≡ occurs x rs
  bit x h = bit_at_lem s m (bitmap rs) rest (longs_at p rs s t rest hp here) x h ∙ bit_is x rs asc

  -- from place x on, after as many others as there are between
  bit_after_lem : (k x j : ℕ) → x ≤ r → r < x + k → x + k ≤ 65536 → j + count_below x rs ≡ count_below r rs → bit_after s m k x j ≡ some r
  unfolding bit_after
  bit_after_lem zero x j u v w e = absurd (omega arith)
  bit_after_lem (suc k) x j u v w e =
      equal_or x r
      (λ z.
      let one : occurs x rs ≡ 1 = ap (λ (n : ℕ). occurs n rs) z ∙ listed_occurs r rs asc l in
      let none_before : j ≡ 0 = omega (arith, ap (λ (n : ℕ). count_below n rs) z) in
      rw (bit x (omega arith), one, none_before) (ap (λ (n : ℕ). some n) z))
      (λ z.
      let few : occurs x rs ≤ j = omega (arith, count_up (suc x) r rs (omega arith), count_suc x rs) in
      let more = bit_after_lem k (suc x) (j - occurs x rs) (omega arith) (omega arith) (omega arith) (omega (arith, count_suc x rs)) in
      rw (bit x (omega arith))
      (equal_or (occurs x rs) 1
      (λ y. rw (eq-eqb (occurs x rs) 1 y, ne_eqb j 0 (λ q. omega arith)) more)
      (λ y. rw (ne_eqb (occurs x rs) 1 y) more)))

  module _ (e : p ≡ 0 → ⊥) where
    abbrev q : ℕ
    q = r / 2 ^ p

    in_stride : q * 2 ^ p + r % 2 ^ p ≡ r
    in_stride = div-add-mod' r (2 ^ p)

    q_lt : q < 2 ^ (16 - p)
    q_lt = (div-lt_iff_lt-mul (pow_pos p)).1 (lt_of_lt_of_le hr (le_of_eq (sym (strides_all p hp))))

    rank : (j : ℕ) → j < 2 ^ (16 - p) → high_at 2 s (t + 2 * j) ≡ count_below (j * 2 ^ p) rs
    rank j h = rank_at p rs s t (low 8192 (bitmap rs) ++ rest) asc here j e h (omega (arith, stride_end p j hp h, pow_pos p))

    stride_is : last_up_to (λ j. high_at 2 s (t + 2 * j)) (count_below r rs) (2 ^ (16 - p)) ≡ q
    stride_is =
        last_is (λ j. high_at 2 s (t + 2 * j)) (count_below r rs) q (2 ^ (16 - p))
        (λ j h. rw (rank j (omega (arith, q_lt))) (count_up (j * 2 ^ p) r rs (omega (arith, mul-le-mul_right (2 ^ p) h, in_stride))))
        (λ j h k. rw (rank j k)
        (count_past r (j * 2 ^ p) rs
        (omega (arith, mul-le-mul_right (2 ^ p) h, suc-mul q (2 ^ p), in_stride, mod-lt r (pow_pos p)))
        (listed_occurs r rs asc l)))
        q_lt

    rank_is : stride_rank p s t (q * 2 ^ p) ≡ count_below (q * 2 ^ p) rs
    unfolding stride_rank
    rank_is = rw (ne_eqb p 0 e, ap (λ (n : ℕ). n / 2 ^ p) (mul_comm q (2 ^ p)) ∙ mul-div_cancel_left q (pow_pos p)) (rank q q_lt)

    by_rank : dense_with p s t (count_below r rs) ≡ some r
    unfolding dense_with
    by_rank =
        let low = count_up (q * 2 ^ p) r rs (omega (arith, in_stride)) in
        rw (ne_eqb p 0 e, stride_is, rank_is, le-leb (count_below (q * 2 ^ p) rs) (count_below r rs) low)
        (bit_after_lem (2 ^ p) (q * 2 ^ p) (count_below r rs - count_below (q * 2 ^ p) rs) (omega (arith, in_stride)) (omega (arith, in_stride, mod-lt r (pow_pos p)))
        (stride_end p q hp q_lt) (omega (arith, low)))

  without_ranks : p ≡ 0 → dense_with p s t (count_below r rs) ≡ some r
  unfolding dense_with stride_rank
  without_ranks e =
      rw (eq-eqb p 0 e, zero-mul (2 ^ p), sub-zero (count_below r rs), le-leb 0 (count_below r rs) zero-le)
      (bit_after_lem 65536 0 (count_below r rs) (omega arith) (omega arith) (omega arith) (omega (arith, count_zero rs)))

  dense_with_lem : dense_with p s t (count_below r rs) ≡ some r
  dense_with_lem = equal_or p 0 without_ranks by_rank

-- ---- any block

module _ (p : ℕ) (rs s : List ℕ) (t : ℕ) (rest : List ℕ) (asc : Asc 0 rs) (below : Below 65536 rs) (here : drop t s ≡ block_data p rs ++ rest)
    (hp : p ≤ 16) (r : ℕ) (hr : r < 65536) (l : listed r rs ≡ true) where
  of_sparse : kind_of (length rs) ≡ sparse → low_at 2 s (t + 2 * count_below r rs) ≡ r
  unfolding block_data by_kind
  of_sparse e =
      let its : drop t s ≡ bytes_of (low 2) rs ++ rest = here ∙ rw e refl in
      sym (short_at (length rs) (count_below r rs) t s (count_lt r rs l))
      ∙ ap (λ (xs : List ℕ). get_or xs (count_below r rs) 0) (ap (shorts (length rs)) its ∙ shorts_back rs rest below)
      ∙ at_count r 0 rs asc l

  of_dense : kind_of (length rs) ≡ dense → dense_with p s t (count_below r rs) ≡ some r
  unfolding block_data by_kind
  of_dense e = dense_with_lem p rs s t rest asc (here ∙ rw e (append_assoc (rank_table p rs) (low 8192 (bitmap rs)) rest)) hp r hr l

  of_all : 65536 ≤ length rs → count_below r rs ≡ r
  of_all k =
      let full : rs ≡ count_from 65536 0 = all_places 65536 0 rs asc below (omega (arith, asc_length 0 65536 rs zero-le asc below)) in
      let n = count_lt r rs l in
      sym (zero-add (count_below r rs)) ∙ sym (from_get 65536 0 (count_below r rs) (omega (arith, asc_length 0 65536 rs zero-le asc below)))
      ∙ ap (λ (xs : List ℕ). get_or xs (count_below r rs) 0) (sym full) ∙ at_count r 0 rs asc l

  pub place_with_lem : place_with p s t (length rs) (count_below r rs) ≡ some r
  unfolding place_with by_kind
  place_with_lem =
      below_or (length rs) 4096
      (λ h. let k = kind_sparse (length rs) h in rw k (ap (λ (n : ℕ). some n) (of_sparse k)))
      (λ h.
      below_or (length rs) 65536
      (λ g. let k = kind_dense (length rs) h g in rw k (of_dense k))
      (λ g. rw (kind_all (length rs) g) (ap (λ (n : ℕ). some n) (of_all g))))
