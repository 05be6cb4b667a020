-- Ranks and words laid side by side. The loop over strides keeps: what is still to be laid, ranks at their place and words at theirs, gives
-- what the whole gives; the two never meet, so that their stores may change places. Assumes nothing.
use Rattle.format.specs.Kit.{◌≡◌, refl, sym, ap, ap₂, subst, ◌∙◌, List, [], ◌++◌, ℕ, suc, ◌+◌, ◌-◌, ◌*◌, ◌/◌, ◌%◌, ◌^◌, ◌≤◌, ◌<◌, zero-le, suc-mul, zero-mul}
use Rattle.format.specs.Kit.{mul-le-mul_right, div-one, mul_assoc, mul_comm, add-one, arith, pow-add, ones, length, sets, ne_eqb}
use Rattle.format.specs.Limits.{min_power, max_power}
use Rattle.format.specs.Bytes.{digits, low, high, bytes_of, count_from}
use Rattle.format.specs.Ids.{count_below, rank_table, rank_bytes}
use Rattle.format.specs.Pairs.{Asc}
use Rattle.laws.proofs.Digits.{length_high, div_pow}
use Rattle.laws.proofs.Places.{bitmap_is}
use Rattle.laws.proofs.Section.{length_bytes_of_lem, length_count_from}
use Rattle.laws.proofs.Ones.{ones_below, ones_join, ones_of_none}
use Rattle.laws.proofs.Sizes.{ranks_some}
use Rattle.laws.proofs.Stores.{sets_then, sets_comm}
use Rattle.block_writer.specs.Part.{places_from, bits_from, bits_of, From, Gone}
use Rattle.block_writer.proofs.Lay.{lay}

-- the entries of n strides from stride t on
unfoldable pub ranks_from : ℕ → List ℕ → ℕ → ℕ → List ℕ
ranks_from p rs n t = bytes_of (λ s. high 2 (count_below (s * 2 ^ p) rs)) (count_from n t)

ranks_none : (p : ℕ) (rs : List ℕ) (t : ℕ) → ranks_from p rs 0 t ≡ []
unfolding ranks_from count_from bytes_of
ranks_none p rs t = refl

ranks_more : (p : ℕ) (rs : List ℕ) (n t : ℕ) → ranks_from p rs (suc n) t ≡ high 2 (count_below (t * 2 ^ p) rs) ++ ranks_from p rs n (suc t)
unfolding ranks_from count_from bytes_of
ranks_more p rs n t = refl

length_ranks : (p : ℕ) (rs : List ℕ) (n t : ℕ) → length (ranks_from p rs n t) ≡ 2 * n
unfolding ranks_from
length_ranks p rs n t =
    length_bytes_of_lem 2 (λ s. high 2 (count_below (s * 2 ^ p) rs)) (λ s. length_high 2 (count_below (s * 2 ^ p) rs)) (count_from n t)
    ∙ ap (λ (k : ℕ). 2 * k) (length_count_from n t)

table_is : (p : ℕ) (rs : List ℕ) → min_power ≤ p → rank_table p rs ≡ ranks_from p rs (2 ^ (16 - p)) 0
unfolding rank_table ranks_from
table_is p rs h = rw (ne_eqb p 0 (λ e. omega arith))

low_none : (n : ℕ) → low 0 n ≡ []
unfolding digits
low_none n = refl

-- ---- strides

-- the longs of a stride and the strides of a block, for a rank power
pub record Strides (p stride strides : ℕ) : Type 0 where
  pub count : strides ≡ 2 ^ (16 - p)
  pub product : strides * stride ≡ 1024
  pub places : 64 * stride ≡ 2 ^ p
  pub table : rank_bytes p ≡ 2 * strides
  pub ranked : min_power ≤ p

pub strides_are : {p stride strides : ℕ} → min_power ≤ p → p ≤ max_power → stride ≡ 2 ^ (p - 6) → strides ≡ 2 ^ (16 - p) → Strides p stride strides
strides_are {p} h k e f =
    let ten : 16 - p + (p - 6) ≡ 10 = omega arith in
    let six : 6 + (p - 6) ≡ p = omega arith in
    record {
      count = f;
      product = ap₂ ◌*◌ f e ∙ sym (pow-add 2 (16 - p) (p - 6)) ∙ ap (λ (n : ℕ). 2 ^ n) ten;
      places = ap (λ (n : ℕ). 64 * n) e ∙ sym (pow-add 2 6 (p - 6)) ∙ ap (λ (n : ℕ). 2 ^ n) six;
      table = (ranks_some p k (λ z. omega arith)).0 ∙ ap (λ (n : ℕ). 2 * n) (sym f);
      ranked = h;
    }

-- ---- the loop over strides: t ranks and k words are laid
pub record Ranked (xs : List ℕ) (p stride strides : ℕ) (out₀ : List ℕ) (at base t k m sum : ℕ) (out : List ℕ) : Type 0 where
  pub st : Strides p stride strides
  pub seam : base ≡ at + 2 * strides
  pub up : Asc 0 (places_from xs 0)
  pub t_le : t ≤ strides
  pub is : k ≡ t * stride
  pub from : From xs m k
  pub rest : bits_from xs m k ≡ bits_from xs 0 0 / 2 ^ (64 * k)
  pub counted : sum ≡ ones (bits_from xs 0 0 % 2 ^ (64 * k))
  pub small : sum ≤ 64 * k
  pub k_le : k ≤ 1024
  pub len : length out ≡ length out₀
  pub laid :
      sets (sets out (at + 2 * t) (ranks_from p (places_from xs 0) (strides - t) t)) (base + 8 * k) (low (8 * (1024 - k)) (bits_from xs 0 0 / 2 ^ (64 * k)))
      ≡ sets (sets out₀ at (ranks_from p (places_from xs 0) strides 0)) base (low 8192 (bits_from xs 0 0))

module _ {xs : List ℕ} {p stride strides : ℕ} {out₀ : List ℕ} {at base : ℕ} where
  pub none : Strides p stride strides → base ≡ at + 2 * strides → From xs 0 0 → Ranked xs p stride strides out₀ at base 0 0 0 0 out₀
  none st eb f =
      record {
        st = st;
        seam = eb;
        up = f.ascending;
        t_le = zero-le;
        is = sym (zero-mul stride);
        from = f;
        rest = sym (div-one (bits_from xs 0 0));
        counted = sym (ones_of_none (bits_from xs 0 0));
        small = zero-le;
        k_le = zero-le;
        len = refl;
        laid =
            let e : at + 2 * 0 ≡ at = omega arith in
            let f : base + 8 * 0 ≡ base = omega arith in
            let z : strides - 0 ≡ strides = omega arith in
            rw (e, f, z)
            (ap (λ (v : ℕ). sets (sets out₀ at (ranks_from p (places_from xs 0) strides 0)) base (low 8192 v)) (div-one (bits_from xs 0 0)));
      }

  module _ {t k m sum : ℕ} {out : List ℕ} (g : Ranked xs p stride strides out₀ at base t k m sum out) where
    -- one stride more has room
    room : t < strides → k + stride ≤ 1024
    room h = omega (arith, g.is, mul-le-mul_right stride h, suc-mul t stride, g.st.product)

    rank_is : sum ≡ count_below (t * 2 ^ p) (places_from xs 0)
    rank_is =
        let e : 64 * k ≡ t * 2 ^ p = cc (g.is, mul_assoc 64 t stride, mul_comm 64 t, mul_assoc t 64 stride, g.st.places) in
        cc (g.counted, bitmap_is (places_from xs 0), ones_below (64 * k) (places_from xs 0) g.up, e)

    both_laid : strides ≤ t → out ≡ sets (sets out₀ at (ranks_from p (places_from xs 0) strides 0)) base (low 8192 (bits_from xs 0 0))
    both_laid h =
        let e : t ≡ strides = omega (arith, g.t_le) in
        let q : k ≡ 1024 = g.is ∙ ap (λ (n : ℕ). n * stride) e ∙ g.st.product in
        let z : 8 * (1024 - k) ≡ 0 = omega arith in
        let y : strides - t ≡ 0 = omega arith in
        cc (g.laid, ranks_none p (places_from xs 0) t, low_none (bits_from xs 0 0 / 2 ^ (64 * k)))

    -- the rank table, and then the words
    pub end : strides ≤ t → out ≡ sets out₀ at (bits_of p (places_from xs 0))
    end h =
        let rs : List ℕ = places_from xs 0 in
        let seam : at + length (ranks_from p rs strides 0) ≡ base = ap (λ (x : ℕ). at + x) (length_ranks p rs strides 0) ∙ sym g.seam in
        let both = sets_then out₀ at base (ranks_from p rs strides 0) (low 8192 (bits_from xs 0 0)) seam in
        cc (both_laid h, both, g.st.count, table_is p rs g.st.ranked, bitmap_is rs)

    -- a rank and a stride's words are laid, and `one` are their ones
    module _ {next one : ℕ} {out1 out2 : List ℕ} (h : t < strides) (e1 : out1 ≡ sets out (at + 2 * t) (high 2 sum)) (l1 : length out1 ≡ length out)
        (e2 : out2 ≡ sets out1 (base + 8 * k) (low (8 * stride) (bits_from xs m k))) (l2 : length out2 ≡ length out1)
        (eone : one ≡ ones (bits_from xs m k % 2 ^ (64 * stride))) (one_le : one ≤ 64 * stride) (f : Gone xs m k stride next) where
      more : Ranked xs p stride strides out₀ at base (t + 1) (k + stride) next (sum + one) out2
      more =
          let rs : List ℕ = places_from xs 0 in
          let v : ℕ = bits_from xs 0 0 in
          let q : 64 * k + 64 * stride ≡ 64 * (k + stride) = omega arith in
          let r : k + stride ≤ 1024 = room h in
          record {
            st = g.st;
            seam = g.seam;
            up = g.up;
            t_le = omega arith;
            is = rw (add-one t, suc-mul) (ap (λ (n : ℕ). n + stride) g.is);
            from = f.from;
            rest = f.rest ∙ ap (λ (x : ℕ). x / 2 ^ (64 * stride)) g.rest ∙ div_pow v (64 * k) (64 * stride) (64 * (k + stride)) q;
            counted = cc (g.counted, g.rest, eone, ones_join v (64 * k) (64 * stride) (64 * (k + stride)) q);
            small = omega (arith, g.small);
            k_le = r;
            len = l2 ∙ l1 ∙ g.len;
            laid =
                let n : ℕ = strides - (t + 1) in
                let later : List ℕ = ranks_from p rs n (t + 1) in
                let w : ℕ = v / 2 ^ (64 * k) in
                let c : ℕ = 8 * (1024 - (k + stride)) in
                let here : ranks_from p rs (strides - t) t ≡ high 2 sum ++ later =
                (let sn : strides - t ≡ suc n = omega arith in
                ap (λ (x : ℕ). ranks_from p rs x t) sn ∙ ranks_more p rs n t
                ∙ ap₂ (λ (x : ℕ) (y : ℕ). high 2 x ++ ranks_from p rs n y) (sym rank_is) (sym (add-one t))) in
                let s : 8 * (1024 - k) ≡ 8 * stride + c = omega arith in
                let p2 : at + 2 * t + 2 ≡ at + 2 * (t + 1) = omega arith in
                let p8 : base + 8 * k + 8 * stride ≡ base + 8 * (k + stride) = omega arith in
                let away : at + 2 * (t + 1) + length later ≤ base + 8 * k = omega (arith, g.seam, length_ranks p rs n (t + 1)) in
                let seam : at + 2 * t + length (high 2 sum) ≡ at + 2 * (t + 1) = ap (λ (x : ℕ). at + 2 * t + x) (length_high 2 sum) ∙ p2 in
                cc (
                  g.laid,
                  g.rest,
                  sets_then out (at + 2 * t) (at + 2 * (t + 1)) (high 2 sum) later seam,
                  lay (sets out1 (at + 2 * (t + 1)) later) (base + 8 * k) (base + 8 * (k + stride)) stride c w p8,
                  sets_comm out1 (at + 2 * (t + 1)) later (base + 8 * k) (low (8 * stride) w) away,
                  div_pow v (64 * k) (64 * stride) (64 * (k + stride)) q,
                );
          }

      -- the words laid are those of the strides
      pub strided : Ranked xs p stride strides out₀ at base (t + 1) ((t + 1) * stride) next (sum + one) out2
      strided =
          let e : k + stride ≡ (t + 1) * stride = rw (add-one t, suc-mul) (ap (λ (n : ℕ). n + stride) g.is) in
          subst (λ (n : ℕ). Ranked xs p stride strides out₀ at base (t + 1) n next (sum + one) out2) e more

-- without ranks
pub plain : (xs out₀ : List ℕ) (at : ℕ) {p : ℕ} → p ≡ 0 → sets out₀ at (low (8 * 1024) (bits_from xs 0 0)) ≡ sets out₀ at (bits_of p (places_from xs 0))
unfolding rank_table
plain xs out₀ at e = rw e (ap (λ (n : ℕ). sets out₀ at (low 8192 n)) (sym (bitmap_is (places_from xs 0))))
