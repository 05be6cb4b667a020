-- The numbers stored of the values, worked out in biased forms, and the section that they make.
-- Assumes nothing.
use Rattle.format.specs.Kit.{◌≡◌, refl, sym, ap, ap₂, ◌∙◌, List, [], ◌∷◌, ◌++◌, map, ℕ, zero, suc, ◌*◌, ◌-◌, ◌/◌, ◌^◌, ◌≤◌, ◌<◌, arith, ℤ, pos}
use Rattle.format.specs.Kit.{length, get_or, drop, lt_of_lt_of_le, lt_of_le_of_lt, div-le_self, pow_mono}
use Rattle.format.specs.Limits.{max_width}
use Rattle.format.specs.Bits.{bit_bytes, packed_bytes}
use Rattle.format.specs.Values.{smallest, spread, over, divisor, width_with, stored_with, stored}
use Rattle.format.specs.Pairs.{Each, Fits}
use Rattle.format.specs.Codec.{width_by, scaled}
use Rattle.laws.proofs.Bits.{below_at}
use Rattle.laws.proofs.Orders.{packed_by}
use Rattle.laws.proofs.Bounds.{spread_lt}
use Rattle.laws.proofs.Values.{length_stored_with, length_stored, stored_below, bit_length_le}
use Rattle.laws.proofs.Scaled.{scaled_section, size, width_narrow}
use Rattle.packings.specs.declared.Order.{Order}
use Rattle.packings.specs.Packings.{packing_of}
use Rattle.packings.proofs.Packings.{sound_of}
use Rattle.signed.specs.Sign.{biased}
use Rattle.scaling.proofs.Spread.{over_at}

get_d_map : (f : ℤ → ℕ) (vs : List ℤ) (i : ℕ) → i < length vs → get_or (map f vs) i 0 ≡ f (get_or vs i (pos 0))
get_d_map f [] i h = absurd (omega arith)
get_d_map f (v ∷ vs) zero h = refl
get_d_map f (v ∷ vs) (suc i) h = get_d_map f vs i (omega arith)

pub stored_at : (g : ℕ) (vs : List ℤ) → Each Fits vs → (i : ℕ) → i < length vs → (b l : ℕ) → b ≡ biased (get_or vs i (pos 0)) → l ≡ biased (smallest vs)
    → (b - l) / g ≡ get_or (stored_with g vs) i 0
unfolding stored_with
stored_at g vs t i h b l eb el =
    ap (λ (x : ℕ). x / g) (over_at vs t i h b l eb el) ∙ sym (get_d_map (λ v. over (smallest vs) v / g) vs i h)

spread_over_by : (g : ℕ) (vs : List ℤ) → Each Fits vs → spread vs / g < 2 ^ 64
spread_over_by g vs t = lt_of_le_of_lt (div-le_self (spread vs) g) (spread_lt vs t)

pub width_narrow_by : (o : Order) (g : ℕ) (vs : List ℤ) → Each Fits vs → (packing_of o).width_for (spread vs / g) ≤ max_width
width_narrow_by o g vs t = width_narrow (sound_of o) (spread vs / g) (spread_over_by g vs t)

-- a stored number has no more bits than the width
pub stored_small : (o : Order) (g : ℕ) (vs : List ℤ) → Each Fits vs → (i w : ℕ) → 1 ≤ g → w ≡ (packing_of o).width_for (spread vs / g) → i < length vs
    → get_or (stored_with g vs) i 0 < 2 ^ w
unfolding width_with
stored_small o g vs t i w more ew h =
    let q : ℕ = spread vs / g in
    let x : get_or (stored_with g vs) i 0 < 2 ^ width_with g vs =
    below_at (2 ^ width_with g vs) (stored_with g vs) i (stored_below g vs more) (omega (arith, length_stored_with g vs)) in
    rw ew (lt_of_lt_of_le x (pow_mono (bit_length_le q ((packing_of o).width_for q) ((sound_of o).enough q (spread_over_by g vs t)))))

-- bytes that begin with the stored numbers, packed
pub packed_is : (o : Order) (g : ℕ) (vs : List ℤ) (w : ℕ) (d₀ : List ℕ)
    → packed_by (sound_of o).order w (stored_with g vs) ++ drop (bit_bytes (length (stored_with g vs) * w)) d₀
    ≡ (packing_of o).pack w (stored_with g vs) ++ drop (packed_bytes (length vs) w) d₀
packed_is o g vs w d₀ =
    ap₂ (λ (l : List ℕ) (n : ℕ). l ++ drop (bit_bytes (n * w)) d₀) (sym ((sound_of o).packs w (stored_with g vs))) (length_stored_with g vs)

pub length_section : (o : Order) (vs : List ℤ) → length ((scaled (packing_of o)).section vs) ≡ packed_bytes (length vs) (width_by (packing_of o) vs)
length_section o vs =
    ap length (scaled_section (packing_of o) vs) ∙ size (sound_of o) (width_by (packing_of o) vs) (stored vs)
    ∙ ap (λ (n : ℕ). packed_bytes n (width_by (packing_of o) vs)) (length_stored vs)

-- and those of the values' own divisor begin with the section
pub section_is : (o : Order) (vs : List ℤ) (g w : ℕ) (d₀ : List ℕ) → g ≡ divisor vs → w ≡ width_by (packing_of o) vs
    → (packing_of o).pack w (stored_with g vs) ++ drop (packed_bytes (length vs) w) d₀
    ≡ (scaled (packing_of o)).section vs ++ drop (length ((scaled (packing_of o)).section vs)) d₀
unfolding stored
section_is o vs g w d₀ eg ew = rw (eg, ew, scaled_section (packing_of o) vs)
    (ap (λ (n : ℕ). (packing_of o).pack (width_by (packing_of o) vs) (stored vs) ++ drop n d₀)
    (sym (length_section o vs) ∙ ap length (scaled_section (packing_of o) vs)))
