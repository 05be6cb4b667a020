-- `packing::finish` meets its contract.
use Rattle.format.specs.Kit.{◌∙◌, List, ℕ, arith}
use Rattle.format.specs.Bits.{bit_bytes}
use Rattle.packing.proofs.Stream.{last_word, stored_bytes}
use Rattle.packing.proofs.finish.Goals as goal

pub returns : goal.returns
returns c =
    let d : List ℕ = c.args.dst.now in
    let at : ℕ = c.args.p.at in
    let have : ℕ = c.args.p.have in
    let store = c.store in
    let e : List ℕ = store.new.dst in
    let v = c.filled in
    record {
      holds = λ f n bit past h k l.
          stored_bytes f bit at (bit_bytes have) v.result d e (omega arith) (v.ensures ∙ last_word h past) store.ensures h.bytes k
          (omega (arith, h.bits));
      rest = store.ensures.rest;
    }
