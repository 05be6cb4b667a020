-- The header's numbers one after the other, measured and written from a list. Assumes nothing.
use Rattle.format.specs.Kit.{◌≡◌, sym, ap, ◌∙◌, List, [], ◌++◌, ℕ, ◌+◌, ◌≤◌, ◌<◌, add-one, length, length-append, get_or, drop, drop_of_length-le, drop-cons}
use Rattle.format.specs.Kit.{sets}
use Rattle.format.specs.Bytes.{bytes_of}
use Rattle.format.specs.HeaderNumbers.{number}
use Rattle.laws.proofs.Stores.{sets_append}

module _ (ns : List ℕ) (k : ℕ) where
  -- the bytes of the numbers from k on
  abbrev pub rest : List ℕ
  rest = bytes_of number (drop k ns)

  pub rest_none : length ns ≤ k → rest ≡ []
  unfolding bytes_of
  rest_none h = rw (drop_of_length-le ns h)

rest_more : (ns : List ℕ) (k : ℕ) → k < length ns → rest ns k ≡ number (get_or ns k 0) ++ rest ns (k + 1)
unfolding bytes_of
rest_more ns k h = rw (add-one k, drop-cons ns k 0 h)

pub rest_length : (ns : List ℕ) (k : ℕ) → k < length ns → length (rest ns k) ≡ length (number (get_or ns k 0)) + length (rest ns (k + 1))
rest_length ns k h = ap length (rest_more ns k h) ∙ length-append (number (get_or ns k 0)) (rest ns (k + 1))

-- number k is written at i, up to j, and the others follow
pub rest_written : (ns l m : List ℕ) (i j k : ℕ) → k < length ns → m ≡ sets l i (number (get_or ns k 0)) → j ≡ i + length (number (get_or ns k 0))
    → sets m j (rest ns (k + 1)) ≡ sets l i (rest ns k)
rest_written ns l m i j k h e f = rw (e, f, rest_more ns k h) (sym (sets_append l i (number (get_or ns k 0)) (rest ns (k + 1))))
