-- The missing places as shorts, by the spans between the places. Assumes nothing.
use Rattle.format.specs.Kit.{◌≡◌, sym, ap, ap₂, ◌∙◌, subst, List, [], ◌∷◌, ◌++◌, ℕ, zero, suc, ◌+◌, ◌-◌, ◌*◌, ◌%◌, ◌≤◌, ◌<◌, add-one, arith, length, get_or}
use Rattle.format.specs.Bytes.{low, bytes_of, count_from}
use Rattle.format.specs.Pairs.{Asc}
use Rattle.format.specs.SetBytes.{missing}
use Rattle.laws.proofs.Section.{length_count_from}
use Rattle.set_format.proofs.Data.{length_shorts_bytes}
use Rattle.set_format.proofs.Missing.{missing_end, missing_none, missing_hit, missing_skip}
use Rattle.block_writer.specs.Part.{places_from}
use Rattle.block_writer.proofs.Words.{places_cons, places_end}
use Rattle.section_writer.proofs.Steps.{bytes_append}

-- ---- n shorts, x and on

abbrev pub span : ℕ → ℕ → List ℕ
span n x = bytes_of (low 2) (count_from n x)

pub span_first : (n x m y : ℕ) → n ≡ suc m → y ≡ suc x → span n x ≡ low 2 x ++ span m y
unfolding bytes_of count_from
span_first n x m y e f = rw (e, f)

pub span_none : (n x : ℕ) → n ≡ 0 → span n x ≡ []
unfolding bytes_of count_from
span_none n x e = rw e

pub span_long : (n x : ℕ) → length (span n x) ≡ 2 * n
span_long n x = length_shorts_bytes (count_from n x) ∙ ap (λ (m : ℕ). 2 * m) (length_count_from n x)

-- ---- the missing places

missing_rest : (k x : ℕ) → missing k x [] ≡ count_from k x
unfolding count_from
missing_rest zero x = missing_end x []
missing_rest (suc k) x = missing_none k x ∙ ap {B = List ℕ} (λ (l : List ℕ). x ∷ l) (missing_rest k (suc x))

missing_span : (d k x r : ℕ) (rs : List ℕ) → x + d ≡ r → missing (d + suc k) x (r ∷ rs) ≡ count_from d x ++ missing k (suc r) rs
unfolding count_from
missing_span zero k x r rs e =
    let z : zero + suc k ≡ suc k = omega arith in
    let f : r ≡ x = omega arith in
    ap (λ (n : ℕ). missing n x (r ∷ rs)) z ∙ missing_hit k x r rs f ∙ ap (λ (n : ℕ). missing k (suc n) rs) (sym f)
missing_span (suc d) k x r rs e =
    let z : suc d + suc k ≡ suc (d + suc k) = omega arith in
    ap (λ (n : ℕ). missing n x (r ∷ rs)) z ∙ missing_skip (d + suc k) x r rs (λ f. omega arith)
    ∙ ap {B = List ℕ} (λ (l : List ℕ). x ∷ l) (missing_span d k (suc x) r rs (omega arith))

-- what is left to put, from place x and index j on
abbrev pub left_of : List ℕ → ℕ → ℕ → List ℕ
left_of xs x j = bytes_of (low 2) (missing (65536 - x) x (places_from xs j))

-- up to the next place y, and after it
pub left_more : (xs : List ℕ) (x j y : ℕ) → j < length xs → y ≡ get_or xs j 0 % 65536 → x ≤ y → y < 65536
    → left_of xs x j ≡ span (y - x) x ++ left_of xs (y + 1) (j + 1)
left_more xs x j y h e lo hi =
    let z : 65536 - x ≡ y - x + suc (65536 - (y + 1)) = omega arith in
    let m : missing (65536 - x) x (places_from xs j) ≡ count_from (y - x) x ++ missing (65536 - (y + 1)) (y + 1) (places_from xs (j + 1)) =
    ap₂ (λ (n : ℕ) (l : List ℕ). missing n x l) z (places_cons xs j h ∙ ap {B = List ℕ} (λ (n : ℕ). n ∷ places_from xs (j + 1)) (sym e))
    ∙ missing_span (y - x) (65536 - (y + 1)) x y (places_from xs (j + 1)) (omega arith)
    ∙ ap (λ (n : ℕ). count_from (y - x) x ++ missing (65536 - (y + 1)) n (places_from xs (j + 1))) (sym (add-one y)) in
    ap (bytes_of (low 2)) m ∙ bytes_append (low 2) (count_from (y - x) x) (missing (65536 - (y + 1)) (y + 1) (places_from xs (j + 1)))

-- after the last place
pub left_last : (xs : List ℕ) (x j : ℕ) → length xs ≤ j → left_of xs x j ≡ span (65536 - x) x
left_last xs x j h = ap (bytes_of (low 2)) (ap (missing (65536 - x) x) (places_end xs j h) ∙ missing_rest (65536 - x) x)

-- the next place, and those after it
pub asc_next : (xs : List ℕ) (x j : ℕ) → j < length xs → Asc x (places_from xs j)
    → (x ≤ get_or xs j 0 % 65536) × Asc (suc (get_or xs j 0 % 65536)) (places_from xs (j + 1))
asc_next xs x j h t = subst (Asc x) (places_cons xs j h) t
