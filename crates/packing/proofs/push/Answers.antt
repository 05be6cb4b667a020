-- `packing::push` meets its contract.
use Rattle.format.specs.Kit.{◌≡◌, refl, sym, ap, ◌∙◌, subst, List, ℕ, ◌+◌, ◌-◌, ◌*◌, ◌/◌, ◌%◌, ◌^◌, ◌<◌, div-one, lt_of_lt_of_le, arith}
use Rattle.format.specs.Kit.{shl_lt, shr_lt, pow_mono}
use Rattle.format.specs.Bits.{gather}
use Rattle.packing.proofs.Stream.{more_bits, full_word, first_bits, last_bits_lem, stored_bytes}
use Rattle.packing.proofs.push.Goals as goal

-- Assumes nothing.
pub joined-requires : goal.joined-requires
joined-requires c =
    let p = c.args.p in
    let w : ℕ = c.args.w in
    (omega arith, c.requires.1, lt_of_lt_of_le (shl_lt p.have w c.requires.3) (pow_mono {j = 64} (omega arith)))

pub returns-then-end-lt64 : goal.returns-then-end-lt64
returns-then-end-lt64 c =
    let w : ℕ = c.args.w in
    let x : ℕ = c.args.x in
    record {
      holds = λ f n bit g h.
          record {
            bits = omega (arith, h.bits);
            few = omega arith;
            waits = c.joined.ensures ∙ more_bits h w x g;
            bytes = h.bytes;
          };
      grows = omega arith;
      rest = refl;
    }

pub filled-requires : goal.filled-requires
filled-requires c =
    let have : ℕ = c.args.p.have in
    let w : ℕ = c.args.w in
    let e : w ≡ 64 - have + (have + w - 64) = omega arith in
    (c.requires.2, c.requires.3, shr_lt (64 - have) (have + w - 64) (subst (λ (k : ℕ). c.args.x < 2 ^ k) e c.requires.1))

pub returns : goal.returns
returns c =
    let d : List ℕ = c.args.dst.now in
    let w : ℕ = c.args.w in
    let x : ℕ = c.args.x in
    let at : ℕ = c.args.p.at in
    let have : ℕ = c.args.p.have in
    let left : ℕ = have + w - 64 in
    let store = c.store in
    let e : List ℕ = store.new.dst in
    let v = c.filled in
    let split : 64 - have + left ≡ w = omega arith in
    record {
      holds = λ f n bit g h.
          let next : n + (64 - have) ≡ (at + 8) * 8 = omega (arith, h.bits) in
          record {
            bits = omega (arith, h.bits);
            few = omega arith;
            waits =
                c.field.ensures ∙ ap (λ (y : ℕ). y % 2 ^ left) (div-one x) ∙ last_bits_lem f bit n w x (64 - have) left split g
                ∙ ap (λ (i : ℕ). gather f i left) next;
            bytes =
                stored_bytes f bit at 8 v.result d e (omega arith)
                (v.ensures ∙ full_word h (x / 2 ^ left) (sym (first_bits f bit n w x (64 - have) left split g)))
                store.ensures h.bytes;
          };
      grows = omega arith;
      rest = store.ensures.rest;
    }
