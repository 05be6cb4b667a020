-- What the writing of stored numbers is handed. Assumes nothing.
use Rattle.std.specs.Prelude.{◌≡◌, ◌/◌, ◌≤◌}
use Rattle.format.specs.Kit.{List, ℕ, length, ℤ}
use Rattle.format.specs.Bits.{packed_bytes}
use Rattle.format.specs.Values.{smallest, spread}
use Rattle.format.specs.Pairs.{Each, Fits}
use Rattle.signed.specs.Sign.{biased}
use Rattle.packings.specs.declared.Order.{Order}
use Rattle.packings.specs.Packings.{packing_of}

-- the smallest value, biased, a divisor, the packing's width for (max - min) / g, and room for the bytes
pub record Storing (o : Order) (vs : List ℤ) (low g w room : ℕ) : Type 0 where
  pub low_is : low ≡ biased (smallest vs)
  pub positive : 1 ≤ g
  pub width_is : w ≡ (packing_of o).width_for (spread vs / g)
  pub fit : Each Fits vs
  pub enough : packed_bytes (length vs) w ≤ room
