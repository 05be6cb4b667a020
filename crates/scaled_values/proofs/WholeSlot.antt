-- The slot of an ordinal where all values have one smallest value and width. Assumes nothing.
use Rattle.format.specs.Kit.{◌≡◌, sym, ap, ◌∙◌, List, ℕ, ◌^◌, ◌≤◌, ◌<◌, arith, length, ℤ}
use Rattle.format.specs.Limits.{max_count}
use Rattle.format.specs.HeaderNumbers.{unzigzag}
use Rattle.format.specs.Values.{value_at}
use Rattle.format.specs.Codec.{Fields, signed64, scaled}
use Rattle.laws.proofs.Fits.{fits_size, unzigzag_fits}
use Rattle.laws.proofs.Scaled.{scaled_value}
use Rattle.signed.proofs.Signs.{unbiased_biased}
use Rattle.packings.specs.declared.Order.{Order}
use Rattle.packings.specs.Packings.{packing_of}
use Rattle.scaled_values.specs.Slots.{whole_slot, Stands, slot_number, slot_value}
use Rattle.scaled_values.proofs.Facts.{Rules, inside}

module _ (o : Order) (n : ℕ) (f : Fields) (s : List ℕ) (i : ℕ) where
  pub whole_stands : Rules o n f (length s) → n ≤ max_count → i < n → Stands o s (whole_slot f.width f.smallest i)
  whole_stands r h l = (r.allowed, omega arith, omega arith, inside s r i l)

  pub whole_value : f.smallest < 2 ^ 64
      → let x = whole_slot f.width f.smallest i in
      (scaled (packing_of o)).value n f s i ≡ slot_value f.divisor x (slot_number o s x)
  whole_value h =
      scaled_value (packing_of o) n f s i
      ∙ ap (λ (m : ℤ). signed64 (value_at m f.divisor ((packing_of o).fetch s f.width i)))
      (sym (unbiased_biased (unzigzag f.smallest) (fits_size _ (unzigzag_fits f.smallest h))))
