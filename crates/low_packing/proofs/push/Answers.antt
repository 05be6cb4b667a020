-- `low_packing::push` meets its contract. Assumes nothing.
use Rattle.format.specs.Kit.{◌≡◌, refl, sym, ap, ◌∙◌, List, ℕ, ◌+◌, ◌-◌, ◌*◌, ◌%◌, ◌^◌, arith}
use Rattle.format.specs.BitsLow.{gather_low}
use Rattle.low_packing.proofs.Stream.{more_low, all_low, word_low, lowest, highest, stored_low}
use Rattle.low_packing.proofs.push.Goals as goal

pub returns-then-end-lt64 : goal.returns-then-end-lt64
returns-then-end-lt64 c =
    let p = c.args.p in
    let w : ℕ = c.args.w in
    let x : ℕ = c.args.x in
    let all : x % 2 ^ (64 - p.have) ≡ x = all_low x p.have w (omega arith) c.requires.1 in
    record {
      holds = λ f n bit g h.
          record {
            bits = omega (arith, h.bits);
            few = omega arith;
            waits = c.topped-word.ensures ∙ ap (λ (y : ℕ). y * 2 ^ p.have + p.acc) all ∙ more_low h w x g;
            bytes = h.bytes;
          };
      grows = omega arith;
      rest = refl;
    }

pub returns : goal.returns
returns c =
    let store = c.store in
    let turn = c.swapped in
    let word = c.topped-word in
    let d : List ℕ = c.args.dst.now in
    let w : ℕ = c.args.w in
    let x : ℕ = c.args.x in
    let at : ℕ = c.args.p.at in
    let have : ℕ = c.args.p.have in
    let room : ℕ = 64 - have in
    let left : ℕ = have + w - 64 in
    let split : room + left ≡ w = omega arith in
    record {
      holds = λ f n bit g h.
          let next : n + room ≡ (at + 8) * 8 = omega (arith, h.bits) in
          record {
            bits = omega (arith, h.bits);
            few = omega arith;
            waits = c.left_of.ensures ∙ highest f bit n w x room left split g ∙ ap (λ (i : ℕ). gather_low f i left) next;
            bytes =
                stored_low f bit at 8 word.result turn.result d store.new.dst (omega arith) turn.ensures
                (word.ensures ∙ word_low h room (x % 2 ^ room) (sym (lowest f bit n w x room left split g)) (omega arith))
                store.ensures h.bytes;
          };
      grows = omega arith;
      rest = store.ensures.rest;
    }
