-- Bytes of one thing after the other: in two parts, and pieces of one length. Assumes nothing.
use Rattle.format.specs.Kit.{◌≡◌, refl, sym, ap, ◌∙◌, List, [], ◌∷◌, ◌++◌, append_assoc, ℕ, zero, suc, ◌*◌, ◌<◌, mul-zero, mul-suc, add_comm, arith}
use Rattle.format.specs.Kit.{length, take, drop, get_or, length-append, drop-drop, drop_at}
use Rattle.format.specs.Bytes.{bytes_of}

pub split_bytes : {A : Type 0} (f : A → List ℕ) (i : ℕ) (xs : List A) → bytes_of f xs ≡ bytes_of f (take i xs) ++ bytes_of f (drop i xs)
unfolding bytes_of
split_bytes f zero xs = refl
split_bytes f (suc i) [] = refl
split_bytes f (suc i) (x ∷ xs) = rw (append_assoc, ← split_bytes f i xs)

-- pieces of k bytes each: how many bytes they are, and piece i
pub length_bytes_of : {A : Type 0} (k : ℕ) (f : A → List ℕ) → ((x : A) → length (f x) ≡ k) → (xs : List A) → length (bytes_of f xs) ≡ k * length xs
unfolding bytes_of
length_bytes_of k f h [] = rw mul-zero
length_bytes_of k f h (x ∷ xs) =
    omega (arith, length-append (f x) (bytes_of f xs), h x, length_bytes_of k f h xs, mul-suc k (length xs))

pub bytes_of_at : {A : Type 0} (k : ℕ) (f : A → List ℕ) (d : A) → ((x : A) → length (f x) ≡ k) → (xs : List A) (i : ℕ) → i < length xs
    → drop (k * i) (bytes_of f xs) ≡ f (get_or xs i d) ++ bytes_of f (drop (suc i) xs)
unfolding bytes_of
bytes_of_at k f d h [] i l = absurd (omega arith)
bytes_of_at k f d h (x ∷ xs) zero l = rw mul-zero
bytes_of_at k f d h (x ∷ xs) (suc i) l =
    ap (λ (n : ℕ). drop n (f x ++ bytes_of f xs)) (mul-suc k i ∙ add_comm (k * i) k)
    ∙ sym (drop-drop (k * i) k (f x ++ bytes_of f xs)) ∙ ap (drop (k * i)) (drop_at (f x) (bytes_of f xs) k (h x))
    ∙ bytes_of_at k f d h xs i (omega arith)
