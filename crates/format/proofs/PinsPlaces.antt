-- Where the header broke (document 02, [4]), as one computed table: for each of the nine header numbers the bytes end within it, after
-- its first byte and after its ninth; it is padded with a zero; its tenth byte is 2; it has eleven bytes. Places and byte counts are
-- worked out by hand from the header below. Assumes nothing.
use Rattle.format.specs.Kit.{◌≡◌, List, [], ◌∷◌, ◌++◌, ℕ, suc, ◌+◌, take, drop, replicate}
use Rattle.format.specs.Refusals.{refused, SHORT, NUMBER, EDITION, ID}
use Rattle.format.specs.Bytes.{bytes_of}
use Rattle.format.specs.Editions.{editions}
use Rattle.format.specs.Check.{check, reading}
use Rattle.format.specs.LookUp.{look_up}
use Rattle.format.proofs.Computing.{computing}

-- ---- bytes

-- A header, number by number, at places 0, 1, 3, 4, 7, 8, 9, 11 and 12: edition 1, n 300, p 9, L 70000, J 0, w 12, smallest value 135,
-- g 5, V 450.
unfoldable pub nine : List (List ℕ)
nine =
    (0x01 ∷ []) ∷ (0xAC ∷ 0x02 ∷ []) ∷ (0x09 ∷ []) ∷ (0xF0 ∷ 0xA2 ∷ 0x04 ∷ []) ∷ (0x00 ∷ []) ∷ (0x0C ∷ []) ∷ (0x8E ∷ 0x02 ∷ []) ∷ (0x05 ∷ [])
    ∷ (0xC2 ∷ 0x03 ∷ []) ∷ []

-- the numbers before number k (from 0), and then these bytes alone
unfoldable pub cut_at : ℕ → List ℕ → List ℕ
cut_at k bs = bytes_of (λ (b : List ℕ). b) (take k nine) ++ bs

-- the header with these bytes for number k
unfoldable pub with_bytes : ℕ → List ℕ → List ℕ
with_bytes k bs = cut_at k (bs ++ bytes_of (λ (b : List ℕ). b) (drop (suc k) nine))

-- ---- the table

-- header number k, which starts at place a
pub record Broken (k a : ℕ) : Type 0 where
  pub cut : check editions (cut_at k (0x81 ∷ [])) ≡ refused SHORT (a + 1)
  pub cut_late : check editions (cut_at k (replicate 9 0xFF)) ≡ refused SHORT (a + 9)
  pub padded : check editions (with_bytes k (0x81 ∷ 0x00 ∷ [])) ≡ refused NUMBER (a + 1)
  pub padded_late : check editions (with_bytes k (replicate 8 0xFF ++ (0x00 ∷ []))) ≡ refused NUMBER (a + 8)
  pub tenth_two : check editions (with_bytes k (replicate 9 0x80 ++ (0x02 ∷ []))) ≡ refused NUMBER (a + 9)
  pub eleven : check editions (with_bytes k (replicate 10 0x80 ++ (0x01 ∷ []))) ≡ refused NUMBER (a + 9)

pub record PlaceCases : Type 0 where
  pub in_edition : Broken 0 0
  pub in_count : Broken 1 1
  pub in_power : Broken 2 3
  pub in_id_bytes : Broken 3 4
  pub in_jump_count : Broken 4 7
  pub in_width : Broken 5 8
  pub in_smallest : Broken 6 9
  pub in_divisor : Broken 7 11
  pub in_value_bytes : Broken 8 12
  -- the bytes end between two numbers: nothing of the next one is there
  pub between : check editions (cut_at 8 []) ≡ refused SHORT 12
  -- the first bad number decides, and a later one moves no place; the bytes after it are not read
  pub first_bad : check editions (with_bytes 3 (0x81 ∷ 0x00 ∷ 0x80 ∷ 0x00 ∷ [])) ≡ refused NUMBER 5
  pub bad_then_end : check editions (cut_at 3 (0x81 ∷ 0x00 ∷ [])) ≡ refused NUMBER 5
  -- EDITION comes before a later number's fault
  pub edition_first : check editions (0x09 ∷ 0x81 ∷ 0x00 ∷ []) ≡ refused EDITION 0
  -- the reading, before BUFFER, and the look-up, after ID
  pub read_cut : reading editions (cut_at 3 (0xF0 ∷ 0xA2 ∷ [])) 0 0 ≡ refused SHORT 6
  pub read_padded : reading editions (with_bytes 3 (0xF0 ∷ 0x80 ∷ 0x00 ∷ [])) 0 0 ≡ refused NUMBER 6
  pub look_up_cut : look_up editions (cut_at 3 (0xF0 ∷ 0xA2 ∷ [])) 2147352575 ≡ refused SHORT 6
  pub look_up_padded : look_up editions (with_bytes 3 (0xF0 ∷ 0x80 ∷ 0x00 ∷ [])) 2147352575 ≡ refused NUMBER 6
  pub look_up_id : look_up editions (with_bytes 3 (0xF0 ∷ 0x80 ∷ 0x00 ∷ [])) 2147352576 ≡ refused ID 0

pub place_cases : PlaceCases
unfolding computing nine cut_at with_bytes
place_cases = search
