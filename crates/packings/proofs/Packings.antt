-- Each packing is sound, and what its narrower width and its bits are worth. Assumes nothing.
use Rattle.format.specs.Kit.{◌≡◌, refl, subst, true, List, [], ℕ, ◌+◌, ◌-◌, ◌*◌, ◌^◌, ◌<◌, ◌≤◌, arith, lt_of_lt_of_le, pow_mono}
use Rattle.format.specs.Bits.{tabulate, packed}
use Rattle.format.specs.BitsLow.{packed_low}
use Rattle.format.specs.Values.{bits_in, bit_length}
use Rattle.format.specs.Editions.{high_first, lucene_widths, first_enough, low_first}
use Rattle.laws.proofs.Cases.{below_or}
use Rattle.laws.proofs.Values.{bit_length_lem, bit_length_le}
use Rattle.laws.proofs.Orders.{fetched_small}
use Rattle.laws.proofs.Bits.{high_order}
use Rattle.laws.proofs.BitsLow.{low_order}
use Rattle.laws.proofs.Scaled.{Sound}
use Rattle.laws.proofs.Editions.{high_first_sound, low_first_sound}
use Rattle.packings.specs.declared.Order as Od
use Rattle.packings.specs.Packings.{packing_of, narrower_by, gather_by, Reach}
use Rattle.packings.proofs.Widths.{in_eight, before_too_few, after_before}

abbrev pub sound_of : (o : Od.Order) → Sound (packing_of o)
sound_of Od.Order.High = high_first_sound
sound_of Od.Order.Low = low_first_sound

-- what the packing that is told allows
pub allowed : {o p : Od.Order} (w : ℕ) → o ≡ p → (packing_of o).width_ok w ≡ true → (packing_of p).width_ok w ≡ true
allowed w e h = subst (λ (x : Od.Order). (packing_of x).width_ok w ≡ true) e h

-- and how far its bits go
pub reached : (o : Od.Order) (w i at skip : ℕ) → (packing_of o).width_ok w ≡ true → at * 8 + skip ≡ i * w → skip < 8 → Reach o skip w
unfolding low_first
reached Od.Order.High w i at skip ok e h = high_first_sound.narrow w ok
reached Od.Order.Low w i at skip ok e h = in_eight w i at skip ok e h

pub gather_is : (o : Od.Order) → gather_by o ≡ (sound_of o).order.gather
unfolding high_first_sound low_first_sound high_order low_order
gather_is Od.Order.High = refl
gather_is Od.Order.Low = refl

-- a number fetched has no more bits than the width
pub fetch_small : (o : Od.Order) (s : List ℕ) (w i : ℕ) → (packing_of o).fetch s w i < 2 ^ w
fetch_small o s w i = rw ((sound_of o).fetches s w i) (fetched_small (sound_of o).orderly s w i)

-- ---- no numbers

pub width_zero : (o : Od.Order) → (packing_of o).width_for 0 ≡ 0
unfolding high_first bit_length bits_in low_first lucene_widths first_enough
width_zero Od.Order.High = refl
width_zero Od.Order.Low = refl

pub pack_none : (o : Od.Order) → (packing_of o).pack 0 [] ≡ []
unfolding high_first packed low_first packed_low tabulate
pack_none Od.Order.High = refl
pack_none Od.Order.Low = refl

pub fetch_none : (o : Od.Order) (s : List ℕ) (i : ℕ) → (packing_of o).fetch s 0 i ≡ 0
fetch_none o s i = omega (arith, fetch_small o s 0 i)

-- ---- the least width

bit_length_is : (q w : ℕ) → q < 2 ^ w → 2 ^ (w - 1) ≤ q → bit_length q ≡ w
bit_length_is q w h k =
    let a : bit_length q ≤ w = bit_length_le q w h in
    below_or (bit_length q) w
    (λ l. let b : 2 ^ bit_length q ≤ 2 ^ (w - 1) = pow_mono (omega arith) in absurd (omega (arith, bit_length_lem q)))
    (λ l. omega arith)

top_set : (q w : ℕ) → 0 < w → bit_length q ≡ w → 2 ^ (w - 1) ≤ q
top_set q w p e = below_or q (2 ^ (w - 1)) (λ l. absurd (omega (arith, bit_length_le q (w - 1) l))) (λ l. l)

-- w is the width for q exactly if q has no more bits, and the narrower width has too few
pub width_is : (o : Od.Order) (w q : ℕ) → (packing_of o).width_ok w ≡ true → 0 < w → q < 2 ^ w → 2 ^ narrower_by o w ≤ q → (packing_of o).width_for q ≡ w
unfolding high_first low_first
width_is Od.Order.High w q ok pos small top = bit_length_is q w small top
width_is Od.Order.Low w q ok pos small top =
    after_before w q ok pos (lt_of_lt_of_le small (pow_mono {j = 64} (low_first_sound.narrow w ok))) small top

pub top_is : (o : Od.Order) (w q : ℕ) → (packing_of o).width_ok w ≡ true → 0 < w → q < 2 ^ 64 → (packing_of o).width_for q ≡ w → 2 ^ narrower_by o w ≤ q
unfolding high_first low_first
top_is Od.Order.High w q ok pos small e = top_set q w pos e
top_is Od.Order.Low w q ok pos small e = before_too_few w q ok pos small e
