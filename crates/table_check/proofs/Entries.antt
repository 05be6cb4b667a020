-- The entries that a section begins with: how many, that they fit, their bytes again, and those of a table that was written. Assumes nothing.
use Rattle.format.specs.Kit.{◌≡◌, refl, sym, ap, ap₂, ◌∙◌, subst, List, [], ◌∷◌, ◌++◌, ℕ, zero, suc, ◌+◌, ◌-◌, ◌*◌, ◌^◌, ◌<◌, ◌≤◌, mul-suc, lit<}
use Rattle.format.specs.Kit.{arith, ℤ, pos, length, take, drop, drop-cons, drop-drop, drop_of_length-le, length-take-le, length-drop, take-add}
use Rattle.format.specs.Bytes.{bytes_of, low, from_low, low_at, untwos}
use Rattle.format.specs.Pairs.{Below, Each, Fits}
use Rattle.format.specs.Table.{table_entry}
use Rattle.laws.proofs.Digits.{below_drop, below_take, digits_from, from_lt}
use Rattle.laws.proofs.Fits.{twos_untwos, untwos_fits}
use Rattle.laws.proofs.Table.{read_entry}
use Rattle.laws.proofs.Values.{each_at}
use Rattle.table_check.specs.ValuesOk.{entries_from}

pub length_entries : (i k : ℕ) (s : List ℕ) → length (entries_from i k s) ≡ k
unfolding entries_from
length_entries i zero s = refl
length_entries i (suc k) s = ap suc (length_entries (suc i) k s)

-- one more of those that are left
pub entries_next : (i t : ℕ) (s : List ℕ) → i < t → entries_from i (t - i) s ≡ untwos (low_at 8 s (8 * i)) ∷ entries_from (i + 1) (t - (i + 1)) s
unfolding entries_from
entries_next i t s h =
    let e : t - i ≡ suc (t - (i + 1)) = omega arith in
    let f : i + 1 ≡ suc i = omega arith in
    rw (e, f)

pub entries_end : (i t : ℕ) (s : List ℕ) → t ≤ i → entries_from i (t - i) s ≡ []
unfolding entries_from
entries_end i t s h = let e : t - i ≡ 0 = omega arith in rw e

low_lt : (s : List ℕ) (at : ℕ) → Below 256 s → at + 8 ≤ length s → low_at 8 s at < 2 ^ 64
unfolding low_at
low_lt s at u h =
    let n : length (take 8 (drop at s)) ≡ 8 = length-take-le 8 (drop at s) (omega (arith, length-drop at s)) in
    subst (λ (k : ℕ). from_low (take 8 (drop at s)) < 256 ^ k) n
    (from_lt 256 (take 8 (drop at s)) (lit< tt) (below_take 256 8 (drop at s) (below_drop 256 at s u)))

pub entries_fit : (i k : ℕ) (s : List ℕ) → Below 256 s → 8 * (i + k) ≤ length s → Each Fits (entries_from i k s)
unfolding entries_from
entries_fit i zero s u h = tt
entries_fit i (suc k) s u h =
    (untwos_fits (low_at 8 s (8 * i)) (low_lt s (8 * i) u (omega arith)), entries_fit (suc i) k s u (omega arith))

-- the bytes of one
entry_bytes_lem : (i : ℕ) (s : List ℕ) → Below 256 s → 8 * i + 8 ≤ length s → table_entry (untwos (low_at 8 s (8 * i))) ≡ take 8 (drop (8 * i) s)
unfolding table_entry low_at
entry_bytes_lem i s u h =
    let ds : List ℕ = take 8 (drop (8 * i) s) in
    let n : length ds ≡ 8 = length-take-le 8 (drop (8 * i) s) (omega (arith, length-drop (8 * i) s)) in
    ap (low 8) (twos_untwos (from_low ds) (low_lt s (8 * i) u h))
    ∙ ap (λ (k : ℕ). low k (from_low ds)) (sym n) ∙ digits_from 256 ds (lit< tt) (below_take 256 8 (drop (8 * i) s) (below_drop 256 (8 * i) s u))

-- their bytes are those that were read
pub entries_bytes : (i k : ℕ) (s : List ℕ) → Below 256 s → 8 * (i + k) ≤ length s → bytes_of table_entry (entries_from i k s) ≡ take (8 * k) (drop (8 * i) s)
unfolding entries_from bytes_of
entries_bytes i zero s u h = refl
entries_bytes i (suc k) s u h =
    let d : List ℕ = drop (8 * i) s in
    let eight : 8 * suc k ≡ 8 + 8 * k = omega (arith, mul-suc 8 k) in
    let after : 8 * suc i ≡ 8 * i + 8 = omega (arith, mul-suc 8 i) in
    ap₂ (λ (x y : List ℕ). x ++ y) (entry_bytes_lem i s u (omega arith))
    (entries_bytes (suc i) k s u (omega arith) ∙ ap (λ (n : ℕ). take (8 * k) (drop n s)) after ∙ ap (take (8 * k)) (sym (drop-drop 8 (8 * i) s)))
    ∙ sym (take-add 8 (8 * k) d) ∙ ap (λ (n : ℕ). take n d) (sym eight)

-- the entries of a table that was written
pub entries_back : (us : List ℤ) (rest : List ℕ) → Each Fits us → (i k : ℕ) → i + k ≡ length us → entries_from i k (bytes_of table_entry us ++ rest) ≡ drop i us
unfolding entries_from
entries_back us rest fit i zero e = let all : length us ≤ i = omega arith in sym (drop_of_length-le us all)
entries_back us rest fit i (suc k) e =
    let h : i < length us = omega arith in
    ap₂ {C = List ℤ} (λ (x : ℤ) (l : List ℤ). x ∷ l) (read_entry us rest i h (each_at Fits us i (pos 0) fit h))
    (entries_back us rest fit (suc i) k (omega arith))
    ∙ sym (drop-cons us i (pos 0) h)
