-- `column::at_once::quick_values` meets its contract: four numbers one after the other, each read at once. Assumes nothing.
use Rattle.column.proofs.HeaderNumbers.{quick_at, byte_at, numbers_none, numbers_more}
use Rattle.column.proofs.at_once.quick_values.Goals as goal

pub returns : goal.returns
returns c =
    let s = c.args.bytes.now in
    λ n.
    record {
      values = _;
      read =
          numbers_more 3 s _ (byte_at c.quick_byte-w.ensures.0 (c.quick_byte-w.ensures.1 c.if-w-eq0.false))
          (numbers_more 2 s _ (quick_at c.quick_number-smallest.ensures c.if-smallest-eq0.false c.place_after-after_smallest.ensures.0)
          (numbers_more 1 s _ (quick_at c.quick_number-g.ensures c.if-g-eq0.false c.place_after-after_g.ensures.0)
          (numbers_more 0 s _ (quick_at c.quick_more-v.ensures c.if-v-eq0.false c.place_after-start.ensures.0)
          (numbers_none s _))));
      head = c.head_from.ensures;
    }
