-- How large a column's header numbers can be. Assumes nothing.
use Rattle.format.specs.Kit.{◌≡◌, refl, subst, Bool, true, false, List, [], ◌∷◌, map, ℕ, zero, suc, ◌+◌, ◌-◌, ◌*◌, ◌/◌, ◌^◌, ◌<◌, ◌≤◌, zero-le}
use Rattle.format.specs.Kit.{◌∣◌, le_of_dvd, pos_of_dvd_of_pos, dvd-zero, div-le_self, lt_of_le_of_lt, arith, eqb, lit<, lit≤, pow_mono, length}
use Rattle.format.specs.Kit.{ℤ, pos, negsuc, nat_abs, sub_ℕ, mag, ne_eqb, lt-ltb, le-ltb}
use Rattle.format.specs.HeaderNumbers.{zigzag}
use Rattle.format.specs.Ids.{Run, by_kind, rank_bytes, data_bytes, block_bytes, runs, jumps, jumps_from, not_two, Entry}
use Rattle.format.specs.Values.{most_of, smallest, greatest, over, spread, gcd_from, differences, divisor, width, width_with}
use Rattle.format.specs.Pairs.{Each, Fits}
use Rattle.format.specs.Runs.{AllFine, AscBlocks, end_of, total_bytes}
use Rattle.laws.proofs.Cases.{below_or, equal_or, true_or}
use Rattle.laws.proofs.Blocks.{kind_sparse, kind_dense, kind_all}
use Rattle.laws.proofs.Jumps.{length_jumps}
use Rattle.laws.proofs.Gcd.{gcd_From_each, each_value}
use Rattle.laws.proofs.Values.{most_has, gcd_from_smallest, bit_length_le}
use Rattle.laws.proofs.Fits.{fits_size, zigzag_lt, smallest_fits, greatest_fits}

pub block_le : (p c : ℕ) → rank_bytes p ≤ 1024 → block_bytes p c ≤ 9220
unfolding block_bytes data_bytes by_kind
block_le p c h =
    below_or c 4096
    (λ l. rw (kind_sparse c l) (omega arith))
    (λ l. below_or c 65536 (λ k. rw (kind_dense c l k) (omega arith)) (λ k. rw (kind_all c k) (lit≤ tt)))

-- all the blocks before a number: 9220 bytes each at most
pub total_le : (p next : ℕ) (gs : List Run) → rank_bytes p ≤ 1024 → AscBlocks next gs → total_bytes p gs + 9220 * next ≤ 9220 * end_of next gs
unfolding total_bytes end_of
total_le p next [] h t = omega arith
total_le p next (g ∷ gs) h t = omega (arith, block_le p (length g.places) h, t.0, total_le p (suc g.block) gs h t.1)

pub end_le : (next : ℕ) (gs : List Run) → next ≤ 32766 → AllFine gs → end_of next gs ≤ 32766
unfolding end_of
end_le next [] h t = h
end_le next (g ∷ gs) h t = end_le (suc g.block) gs t.0.number t.1

not_two_le : (es : List Entry) → length (not_two es) ≤ length es
unfolding not_two
not_two_le es = true_or (eqb (length es) 2) (λ e. rw e zero-le) (λ e. rw e (omega arith))

pub jumps_le : (p : ℕ) (ids : List ℕ) → AscBlocks 0 (runs ids) → AllFine (runs ids) → length (jumps p ids) ≤ 32767
unfolding jumps
jumps_le p ids t u =
    omega (arith, not_two_le (jumps_from p 0 0 0 (runs ids)), length_jumps p 0 0 0 (runs ids) t, end_le 0 (runs ids) zero-le u)

-- ---- the values

sub_lt : (a b : ℕ) → a ≤ 2 ^ 63 → b ≤ 2 ^ 63 → nat_abs (sub_ℕ a b) < 2 ^ 64
sub_lt a b ha hb =
    below_or a b
    (λ h. rw (lt-ltb a b h) (omega arith))
    (λ h. rw (le-ltb a b h) (omega arith))

over_small : (m v : ℤ) → mag m < 2 ^ 63 → mag v < 2 ^ 63 → over m v < 2 ^ 64
over_small (pos zero) (pos b) hm hv = omega arith
over_small (pos (suc a)) (pos b) hm hv = sub_lt b (suc a) (omega arith) (omega arith)
over_small (pos zero) (negsuc b) hm hv = sub_lt zero (suc b) zero-le (omega arith)
over_small (pos (suc a)) (negsuc b) hm hv = omega arith
over_small (negsuc a) (pos b) hm hv = omega arith
over_small (negsuc a) (negsuc b) hm hv = sub_lt (suc a) (suc b) (omega arith) (omega arith)

over_lt : (m v : ℤ) → Fits m → Fits v → over m v < 2 ^ 64
over_lt m v hm hv = over_small m v (fits_size m hm) (fits_size v hv)

pub spread_lt : (vs : List ℤ) → Each Fits vs → spread vs < 2 ^ 64
unfolding spread
spread_lt vs t = over_lt (smallest vs) (greatest vs) (smallest_fits vs t) (greatest_fits vs t)

pub width_le : (vs : List ℤ) → Each Fits vs → width vs ≤ 64
unfolding width width_with
width_le vs t = bit_length_le (spread vs / divisor vs) 64 (lt_of_le_of_lt (div-le_self (spread vs) (divisor vs)) (spread_lt vs t))

pub zig_lt : (vs : List ℤ) → Each Fits vs → zigzag (smallest vs) < 2 ^ 64
zig_lt vs t = zigzag_lt (smallest vs) (smallest_fits vs t)

divides_spread : (vs : List ℤ) → gcd_from 0 (differences vs) ∣ spread vs
unfolding spread smallest greatest differences
divides_spread [] = dvd-zero (gcd_from 0 [])
divides_spread (v ∷ vs) =
    let m : ℤ = smallest (v ∷ vs) in
    let k : ℕ = gcd_from 0 (map (over m) (v ∷ vs)) in
    let t : Each (λ u. k ∣ over m u) (v ∷ vs) = each_value k (over m) (v ∷ vs) (gcd_From_each 0 (map (over m) (v ∷ vs))) in
    subst (λ (d : ℕ). d ∣ over m (most_of v vs)) (gcd_from_smallest (v ∷ vs)) (most_has (λ u. k ∣ over m u) v vs t.0 t.1)

pub divisor_pos : (vs : List ℤ) → zero < divisor vs
unfolding divisor
divisor_pos vs =
    equal_or (spread vs) 0
    (λ e. rw e (lit< tt))
    (λ e.
    let h : zero < spread vs = omega arith in
    search (arith, ne_eqb, pos_of_dvd_of_pos, divides_spread))

pub divisor_is : (vs : List ℤ) → Each Fits vs → (zero < divisor vs) × (divisor vs < 2 ^ 64)
unfolding divisor
divisor_is vs t =
    equal_or (spread vs) 0
    (λ e. rw e (lit< tt, lit< tt))
    (λ e.
    let h : zero < spread vs = omega arith in
    (divisor_pos vs, search (arith, ne_eqb, divides_spread, lt_of_le_of_lt, le_of_dvd, spread_lt)))
