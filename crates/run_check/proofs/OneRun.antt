-- One run: the tests hold exactly if the values of its stored numbers are a run with this summary and these bytes. Assumes nothing.
use Rattle.format.specs.Kit.{◌≡◌, refl, sym, ap, ap₂, ◌∙◌, subst, true, ◌||◌, List, [], ◌∷◌, map, ℕ, ◌+◌, ◌-◌, ◌*◌, ◌^◌, ◌<◌, ◌≤◌, ◌∣◌, min, max, arith, eqb}
use Rattle.format.specs.Kit.{leb, pow_mono, lt_of_lt_of_le, ℤ, pos, negsuc, length, get_or, length-map, eqb-true, eq-eqb, ne_eqb, leb-true, le-leb, mag}
use Rattle.format.specs.Kit.{dvd-mul_right_of_dvd, dvd_refl}
use Rattle.format.specs.Limits.{max_width}
use Rattle.format.specs.Bits.{bit_of, bit_at, packed_bytes, packed, unpacked}
use Rattle.format.specs.Editions.{high_first}
use Rattle.format.specs.Values.{smallest, greatest, over, width_with, stored_with, bits_in, bit_length, value_at}
use Rattle.format.specs.Pairs.{Below, Each, Fits}
use Rattle.format.specs.ValueRuns.{Summary, run_bytes}
use Rattle.laws.proofs.Cases.{below_or, equal_or}
use Rattle.laws.proofs.Tests.{both_true, true_both, or_left, or_right}
use Rattle.laws.proofs.Bits.{high_order, packed_fetched, spare_packed, unpacked_below, length_unpacked}
use Rattle.laws.proofs.Editions.{high_first_sound}
use Rattle.laws.proofs.Fits.{fits_size, size_fits}
use Rattle.signed.specs.Sign.{biased, unbiased}
use Rattle.signed.proofs.Signs.{biased-+, biased-+-out, unbiased_biased}
use Rattle.scaling.specs.Numbers.{least_from, most_from}
use Rattle.scaling.proofs.Stored.{most_first, over_value, fits_below, each_fits}
use Rattle.scaling.proofs.Ranged.{most_below, greatest_is, zero_there, zero_needed, over_is, stored_is}
use Rattle.packings.specs.declared.Order as Od
use Rattle.packings.specs.Packings.{spare_ok}
use Rattle.run_check.specs.RunsOk.{range_ok, largest}
use Rattle.packings.proofs.Packings as Packings
use Rattle.packings.proofs.Spare as Spare

-- the values have this summary, but for the start, and these bytes
pub record RunIs (g : ℕ) (x : Summary) (part : List ℕ) (r : List ℤ) : Type 0 where
  pub fit : Each Fits r
  pub smallest_is : smallest r ≡ x.smallest
  pub greatest_is : greatest r ≡ x.greatest
  pub width_is : width_with g r ≡ x.width
  pub bytes_are : run_bytes g r ≡ part

biased_lt : (v : ℤ) → Fits v → biased v < 2 ^ 64
biased_lt (pos n) f = omega (arith, fits_size (pos n) f)
biased_lt (negsuc n) f = omega arith

-- g divides the differences
value_divides : (g : ℕ) (m : ℤ) → 0 < g → (xs : List ℕ) → Each (λ v. g ∣ over m v) (map (value_at m g) xs)
value_divides g m p [] = tt
value_divides g m p (x ∷ xs) =
    (subst (λ (n : ℕ). g ∣ n) (sym (over_value m g p x)) (dvd-mul_right_of_dvd g (dvd_refl g) x), value_divides g m p xs)

module _ (g : ℕ) (p : 0 < g) (x : Summary) (part : List ℕ) (n : ℕ) (low_fits : Fits x.smallest) (high_fits : Fits x.greatest)
    (narrow : x.width ≤ max_width) (some : 0 < n) (long : length part ≡ packed_bytes n x.width) (byte : (k : ℕ) → get_or part k 0 < 256) where
  abbrev w : ℕ
  w = x.width

  abbrev m : ℤ
  m = x.smallest

  abbrev numbers : List ℕ
  numbers = unpacked w n part

  abbrev run : List ℤ
  run = map (value_at m g) numbers

  pub run_count_lem : length run ≡ n
  run_count_lem = length-map numbers (value_at m g) ∙ length_unpacked w n part

  pub run_divides : smallest run ≡ m → Each (λ v. g ∣ over (smallest run) v) run
  run_divides e = rw e (value_divides g m p numbers)

  -- spare bits, high bit first
  spare_sound : spare_ok Od.Order.High part (8 * length part - n * w) ≡ true → (j : ℕ) → n * w ≤ j → bit_at part j ≡ 0
  unfolding high_first_sound high_order bit_at bit_of
  spare_sound = Spare.spare_sound Od.Order.High part (n * w) long byte

  spare_complete : ((j : ℕ) → n * w ≤ j → bit_at part j ≡ 0) → spare_ok Od.Order.High part (8 * length part - n * w) ≡ true
  unfolding high_first_sound high_order bit_at bit_of
  spare_complete = Spare.spare_complete Od.Order.High part (n * w) long byte

  pub run_stored : smallest run ≡ m → stored_with g run ≡ numbers
  run_stored e = go numbers refl
    where
      go : (l : List ℕ) → numbers ≡ l → stored_with g run ≡ numbers
      go [] f = absurd (omega (arith, ap length f, length_unpacked w n part))
      go (y ∷ ys) f = rw f (stored_is m g p y ys (rw f at e))

  -- the first number and the others
  module _ (y : ℕ) (ys : List ℕ) (e : numbers ≡ y ∷ ys) where
    below : Below (2 ^ w) (y ∷ ys)
    below = subst (Below (2 ^ w)) e (unpacked_below w n part)

    hi_small : most_from y ys < 2 ^ w
    hi_small = most_below (2 ^ w) y ys below.0 below.1

    lo_is : least_from largest (y ∷ ys) ≡ least_from y ys
    unfolding least_from
    lo_is = let a : min largest y ≡ y = omega (arith, below.0, pow_mono {i = w} {j = 64} narrow) in rw a

    hi_is : most_from 0 (y ∷ ys) ≡ most_from y ys
    unfolding most_from
    hi_is = let a : max 0 y ≡ y = omega arith in rw a

    -- the tests
    abbrev Ranged : Type 0
    Ranged = range_ok g x (least_from y ys) (most_from y ys) ≡ true

    top_is : biased m + g * most_from y ys < 2 ^ 64 → (Fits (value_at m g (most_from y ys)))
        × (biased (value_at m g (most_from y ys)) ≡ biased m + g * most_from y ys)
    unfolding value_at
    top_is h = let b = biased-+ m (g * most_from y ys) (fits_size m low_fits) h in (size_fits _ b.0, b.1)

    too_far : 2 ^ 64 ≤ biased m + g * most_from y ys → 2 ^ 63 ≤ mag (value_at m g (most_from y ys))
    unfolding value_at
    too_far l = biased-+-out m (g * most_from y ys) (fits_size m low_fits) l

    all_packed : spare_ok Od.Order.High part (8 * length part - n * w) ≡ true → packed w numbers ≡ part
    unfolding unpacked
    all_packed spare = packed_fetched w n part long byte (spare_sound spare)

    least_width : (eqb w 0 || leb (2 ^ (w - 1)) (most_from y ys)) ≡ true → bit_length (most_from y ys) ≡ w
    unfolding bit_length bits_in high_first
    least_width t =
        equal_or w 0
        (λ z.
        let q : 2 ^ w ≡ 1 = ap (λ (k : ℕ). 2 ^ k) z in
        let none : most_from y ys ≡ 0 = omega (arith, hi_small) in
        ap bit_length none ∙ sym z)
        (λ z. Packings.width_is Od.Order.High w (most_from y ys) (le-leb w max_width narrow) (omega arith) hi_small (leb-true _ _ (rw (ne_eqb w 0 z) at t)))

    needed : 0 < w → bit_length (most_from y ys) ≡ w → 2 ^ (w - 1) ≤ most_from y ys
    unfolding high_first
    needed z e =
        Packings.top_is Od.Order.High w (most_from y ys) (le-leb w max_width narrow) z (lt_of_lt_of_le hi_small (pow_mono {j = 64} narrow)) e

    sound : spare_ok Od.Order.High part (8 * length part - n * w) ≡ true → Ranged → RunIs g x part (map (value_at m g) (y ∷ ys))
    unfolding range_ok run_bytes width_with
    sound spare t =
        let b = both_true _ _ t in
        let a = both_true _ _ b.0 in
        let lo : least_from y ys ≡ 0 = eqb-true _ _ a.0 in
        let sum : biased m + g * most_from y ys ≡ biased x.greatest = eqb-true _ _ b.1 in
        let top = top_is (omega (arith, biased_lt x.greatest high_fits)) in
        let least : smallest (map (value_at m g) (y ∷ ys)) ≡ m = zero_there m g p y ys lo in
        let wide : width_with g (map (value_at m g) (y ∷ ys)) ≡ w = ap bit_length (over_is m g p y ys lo) ∙ least_width a.1 in
        record {
          fit = (fits_below m g p y (most_from y ys) low_fits top.0 (most_first y ys), each_fits m g p y ys low_fits top.0);
          smallest_is = least;
          greatest_is =
              greatest_is m g p y ys ∙ sym (unbiased_biased (value_at m g (most_from y ys)) (fits_size _ top.0)) ∙ ap unbiased (top.1 ∙ sum)
              ∙ unbiased_biased x.greatest (fits_size _ high_fits);
          width_is = wide;
          bytes_are = ap₂ packed wide (stored_is m g p y ys least ∙ sym e) ∙ all_packed spare;
        }

    complete : RunIs g x part (map (value_at m g) (y ∷ ys)) → (spare_ok Od.Order.High part (8 * length part - n * w) ≡ true) × Ranged
    unfolding range_ok run_bytes width_with
    complete v =
        let hi : ℕ = most_from y ys in
        let lo : least_from y ys ≡ 0 = zero_needed m g p y ys v.smallest_is in
        let bits : bit_length hi ≡ w = ap bit_length (sym (over_is m g p y ys lo)) ∙ v.width_is in
        let same : value_at m g hi ≡ x.greatest = sym (greatest_is m g p y ys) ∙ v.greatest_is in
        let small : biased m + g * hi < 2 ^ 64 = not_past same in
        let own : packed w (y ∷ ys) ≡ part = sym (ap₂ packed v.width_is (stored_is m g p y ys v.smallest_is)) ∙ v.bytes_are in
        let many : length (y ∷ ys) ≡ n = ap length (sym e) ∙ length_unpacked w n part in
        let wide : (eqb w 0 || leb (2 ^ (w - 1)) hi) ≡ true =
        equal_or w 0 (λ z. or_left (eqb w 0) _ (eq-eqb w 0 z)) (λ z. or_right (eqb w 0) _ (le-leb _ _ (needed (omega arith) bits))) in (
          spare_complete
              (λ j l. subst (λ (b : List ℕ). bit_at b j ≡ 0) own (spare_packed w (y ∷ ys) j (subst (λ (i : ℕ). i * w ≤ j) (sym many) l))),
          true_both _ _ (true_both _ _ (eq-eqb _ _ lo) wide) (eq-eqb _ _ (sym (top_is small).1 ∙ ap biased same)),
        )
      where
        not_past : value_at m g (most_from y ys) ≡ x.greatest → biased m + g * most_from y ys < 2 ^ 64
        not_past same =
            below_or (biased m + g * most_from y ys) (2 ^ 64)
            (λ l. l)
            (λ l. absurd (omega (arith, fits_size _ (subst Fits (sym same) high_fits), too_far l)))

  -- ---- all numbers

  abbrev Tests : Type 0
  Tests = (spare_ok Od.Order.High part (8 * length part - n * w) ≡ true) × (range_ok g x (least_from largest numbers) (most_from 0 numbers) ≡ true)

  pub run_sound : Tests → RunIs g x part run
  run_sound t = go numbers refl
    where
      go : (l : List ℕ) → numbers ≡ l → RunIs g x part run
      go [] e = absurd (omega (arith, ap length e, length_unpacked w n part))
      go (y ∷ ys) e =
          rw e
          (sound y ys e t.0
          (sym (ap₂ (λ (a b : ℕ). range_ok g x a b) (ap (least_from largest) e ∙ lo_is y ys e) (ap (most_from 0) e ∙ hi_is y ys e)) ∙ t.1))

  pub run_complete : RunIs g x part run → Tests
  run_complete v = go numbers refl
    where
      go : (l : List ℕ) → numbers ≡ l → Tests
      go [] e = absurd (omega (arith, ap length e, length_unpacked w n part))
      go (y ∷ ys) e =
          let c = complete y ys e (subst (λ (l : List ℕ). RunIs g x part (map (value_at m g) l)) e v) in
          (c.0, ap₂ (λ (a b : ℕ). range_ok g x a b) (ap (least_from largest) e ∙ lo_is y ys e) (ap (most_from 0) e ∙ hi_is y ys e) ∙ c.1)
