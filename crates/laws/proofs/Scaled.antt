-- A codec with one smallest value, one divisor and one width is lawful for every sound packing. Assumes nothing.
use Rattle.format.specs.Kit.{◌≡◌, refl, sym, ap, ◌∙◌, subst, true, false, ◌&&◌, leb, eqb, List, [], ◌∷◌, some, ℕ, zero, suc, ◌/◌, ◌^◌, ◌<◌, ◌≤◌, ◌∣◌}
use Rattle.format.specs.Kit.{div-le_self, lt_of_le_of_lt, mul-le-mul, arith, ℤ, pos, length, get_or, List·getD-map, eq-eqb, le-leb}
use Rattle.format.specs.Limits.{max_width}
use Rattle.format.specs.HeaderNumbers.{zigzag, unzigzag}
use Rattle.format.specs.Bits.{packed_bytes}
use Rattle.format.specs.Values.{fits64, smallest, over, spread, divisor, stored_with, stored, value_at}
use Rattle.format.specs.Pairs.{Each, Fits}
use Rattle.format.specs.Codec.{Fields, Packing, signed64, width_by, scaled}
use Rattle.laws.proofs.Values.{each_at, divides_each, values_back, spread_each, length_stored_with, length_stored, div_le_div}
use Rattle.laws.proofs.Fits.{unzigzag_zigzag}
use Rattle.laws.proofs.Bounds.{spread_lt, zig_lt, divisor_is}
use Rattle.laws.proofs.Orders.{Order, Orderly, packed_by, fetched_by, length_packed, fetched_packed}
use Rattle.laws.proofs.Lawful.{Storable, SmallFields, Lawful}
use Rattle.laws.proofs.Cases.{true_or}

-- what a packing owes: widths for all numbers of 64 bits, none above 64, and bits in some order
pub record Sound (k : Packing) : Type 0 where
  pub enough : (q : ℕ) → q < 2 ^ 64 → q < 2 ^ k.width_for q
  pub allowed : (q : ℕ) → q < 2 ^ 64 → k.width_ok (k.width_for q) ≡ true
  pub narrow : (w : ℕ) → k.width_ok w ≡ true → w ≤ max_width
  pub order : Order
  pub orderly : Orderly order
  pub packs : (w : ℕ) (xs : List ℕ) → k.pack w xs ≡ packed_by order w xs
  pub fetches : (s : List ℕ) (w i : ℕ) → k.fetch s w i ≡ fetched_by order s w i

-- n times w bits rounded up to bytes, and each number back
module _ {k : Packing} (sound : Sound k) where
  pub size : (w : ℕ) (xs : List ℕ) → length (k.pack w xs) ≡ packed_bytes (length xs) w
  size w xs = ap length (sound.packs w xs) ∙ length_packed sound.order w xs

  number_back : (w : ℕ) (xs : List ℕ) (i : ℕ) → i < length xs → get_or xs i 0 < 2 ^ w → k.fetch (k.pack w xs) w i ≡ get_or xs i 0
  number_back w xs i h x = rw (sound.packs w xs, sound.fetches) (fetched_packed sound.orderly w xs i h x)

  -- the width of a spread of 64 bits
  pub width_narrow : (q : ℕ) → q < 2 ^ 64 → k.width_for q ≤ max_width
  width_narrow q h = sound.narrow (k.width_for q) (sound.allowed q h)

-- ---- the codec's words

pub scaled_takes : (k : Packing) (vs : List ℤ) → (scaled k).takes vs ≡ true
unfolding scaled
scaled_takes k vs = refl

pub scaled_fields : (k : Packing) (vs : List ℤ)
    → (scaled k).fields vs ≡ record { width = width_by k vs; smallest = zigzag (smallest vs); divisor = divisor vs }
unfolding scaled
scaled_fields k vs = refl

pub scaled_section : (k : Packing) (vs : List ℤ) → (scaled k).section vs ≡ k.pack (width_by k vs) (stored vs)
unfolding scaled
scaled_section k vs = refl

pub scaled_rules : (k : Packing) (n : ℕ) (f : Fields) (v : ℕ)
    → (scaled k).fields_ok n f v ≡ (k.width_ok f.width && leb 1 f.divisor && eqb v (packed_bytes n f.width))
unfolding scaled
scaled_rules k n f v = refl

pub scaled_value : (k : Packing) (n : ℕ) (f : Fields) (s : List ℕ) (i : ℕ)
    → (scaled k).value n f s i ≡ signed64 (value_at (unzigzag f.smallest) f.divisor (k.fetch s f.width i))
unfolding scaled
scaled_value k n f s i = refl

-- no width above its limit is taken
pub scaled_wide : (k : Packing) → Sound k → (n : ℕ) (f : Fields) (v : ℕ) → max_width < f.width → (scaled k).fields_ok n f v ≡ false
scaled_wide k sound n f v h =
    true_or (k.width_ok f.width)
    (λ e. absurd (omega (arith, sound.narrow f.width e)))
    (λ e. scaled_rules k n f v ∙ rw e)

-- ---- a signed 64-bit number

pub signed_some : (v : ℤ) → Fits v → signed64 v ≡ some v
unfolding signed64 Fits
signed_some v h = rw h

pub signed_fits : (u v : ℤ) → signed64 u ≡ some v → Fits v
unfolding signed64 Fits
signed_fits u v e =
    true_or (fits64 u)
    (λ f. let same : u ≡ v = cc (rw f at e) in subst Fits same f)
    (λ f. absurd (let z : ◌≡◌ {A = ℕ} 0 1 = cc (rw f at e) in omega arith))

-- ---- stored numbers

pub get_d_any : {A : Type 0} (l : List A) (i : ℕ) (d e : A) → i < length l → get_or l i d ≡ get_or l i e
get_d_any [] i d e k = absurd (omega arith)
get_d_any (v ∷ vs) zero d e k = refl
get_d_any (v ∷ vs) (suc i) d e k = get_d_any vs i d e (omega arith)

-- no stored number is above (max - min) / g
pub stored_le : (g : ℕ) (vs : List ℤ) (i : ℕ) → zero < g → i < length vs → get_or (stored_with g vs) i 0 ≤ spread vs / g
unfolding stored_with
stored_le g vs i h k =
    let f : ℤ → ℕ = λ v. over (smallest vs) v / g in
    subst (λ (x : ℕ). x ≤ spread vs / g)
    (sym (get_d_any (stored_with g vs) i 0 (f (pos 0)) (omega (arith, length_stored_with g vs)) ∙ List·getD-map f vs i (pos 0)))
    (div_le_div (each_at (λ v. over (smallest vs) v ≤ spread vs) vs i (pos 0) (spread_each vs) k) h)

-- the number stored of a value gives it back
pub back_at : (g : ℕ) (vs : List ℤ) (i : ℕ) → Each (λ v. g ∣ over (smallest vs) v) vs → i < length vs
    → value_at (smallest vs) g (get_or (stored_with g vs) i 0) ≡ get_or vs i (pos 0)
back_at g vs i d h =
    let at : ℕ → ℤ = value_at (smallest vs) g in
    sym (List·getD-map at (stored_with g vs) i 0) ∙ ap (λ (l : List ℤ). get_or l i (at 0)) (values_back g vs d) ∙ get_d_any vs i (at 0) (pos 0) h

-- ---- the codec

module _ (k : Packing) (sound : Sound k) (vs : List ℤ) (ok : Storable (scaled k) vs) where
  fit : Each Fits vs
  fit = ok.fit

  q : ℕ
  q = spread vs / divisor vs

  w : ℕ
  w = k.width_for q

  q_lt : q < 2 ^ 64
  unfolding q
  q_lt = lt_of_le_of_lt (div-le_self (spread vs) (divisor vs)) (spread_lt vs fit)

  size_is : length (k.pack w (stored vs)) ≡ packed_bytes (length vs) w
  size_is = size sound w (stored vs) ∙ ap (λ (n : ℕ). packed_bytes n w) (length_stored vs)

  numbers : SmallFields ((scaled k).fields vs)
  unfolding scaled q
  numbers = (omega (arith, width_narrow sound q q_lt), (zig_lt vs fit, ((divisor_is vs fit).1, tt)))

  bytes : length ((scaled k).section vs) < 2 ^ 64
  unfolding scaled q w
  bytes = omega (arith, mul-le-mul ok.few (width_narrow sound q q_lt), q_lt, size_is)

  keeps : (scaled k).fields_ok (length vs) ((scaled k).fields vs) (length ((scaled k).section vs)) ≡ true
  unfolding scaled q w
  keeps = rw (sound.allowed q q_lt, le-leb 1 (divisor vs) (divisor_is vs fit).0, eq-eqb _ _ size_is)

  comes_back : (i : ℕ) → i < length vs → (scaled k).value (length vs) ((scaled k).fields vs) ((scaled k).section vs) i ≡ some (get_or vs i (pos 0))
  unfolding scaled q w stored
  comes_back i h =
      let j : i < length (stored vs) = omega (arith, length_stored vs) in
      let x : get_or (stored vs) i 0 < 2 ^ w = lt_of_le_of_lt (stored_le (divisor vs) vs i (divisor_is vs fit).0 h) (sound.enough q q_lt) in
      rw (unzigzag_zigzag (smallest vs), number_back sound w (stored vs) i j x)
      (ap signed64 (back_at (divisor vs) vs i (divides_each vs) h) ∙ signed_some (get_or vs i (pos 0)) (each_at Fits vs i (pos 0) fit h))

pub scaled_lawful : (k : Packing) → Sound k → Lawful (scaled k)
unfolding scaled
scaled_lawful k sound =
    record {
      small_fields = numbers k sound;
      small_section = bytes k sound;
      rules = keeps k sound;
      back = comes_back k sound;
      fit = λ n f s i v e. signed_fits (value_at (unzigzag f.smallest) f.divisor (k.fetch s f.width i)) v e;
    }
