-- `low_packing::finish` meets its contract. Assumes nothing.
use Rattle.format.specs.Kit.{arith}
use Rattle.format.specs.Bits.{bit_bytes}
use Rattle.low_packing.proofs.Stream.{last_low, stored_low}
use Rattle.low_packing.proofs.finish.Goals as goal

pub returns : goal.returns
returns c =
    let store = c.store in
    let turn = c.swapped in
    let p = c.args.p in
    record {
      holds = λ f n bit past h k l.
          stored_low f bit p.at (bit_bytes p.have) p.acc turn.result c.args.dst.now store.new.dst (omega arith) turn.ensures
          (last_low h past) store.ensures h.bytes k (omega (arith, h.bits));
      rest = store.ensures.rest;
    }
