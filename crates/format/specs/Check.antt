-- The check (7 to 11, then 13) and the full reading (7 to 11, 12, 13): decode the pair list, ask the writer's definition, compare
-- the bytes. Document 01, "Refusal numbers": DAMAGED exactly when the bytes are no column of any pair list. Assumes nothing.
use Rattle.std.specs.Prelude.{◌&&◌, ◌∷◌, ◌++◌}
use Rattle.format.specs.Kit.{ℕ, zero, suc, Bool, false, List, [], Option, some, bind, Option·map, length, drop, leb, ℤ}
use Rattle.format.specs.Refusals.{Outcome, done, refused, and_then, need, given, BUFFER, DAMAGED}
use Rattle.format.specs.Bytes.{same}
use Rattle.format.specs.IdsRead.{read_runs, ids_of}
use Rattle.format.specs.Editions.{Edition}
use Rattle.format.specs.Pairs.{Pairs}
use Rattle.format.specs.Writer.{write_as}
use Rattle.format.specs.Opening.{Opened, open_column, id_part, value_part, value_in}

-- the values of ordinals 0 to n - 1, if each is there
unfoldable pub all_values : ℕ → (ℕ → Option ℤ) → Option (List ℤ)
all_values zero f = some []
all_values (suc n) f = bind (f 0) (λ v. Option·map (λ vs. v ∷ vs) (all_values n (λ i. f (suc i))))

-- the one pair list whose column the bytes may be, if there is one
unfoldable pub pairs_in : List ℕ → Opened → Option Pairs
pairs_in bytes c =
    let is : List ℕ = ids_of (read_runs c.head.id_bytes c.head.power (id_part bytes c)) in
    let xs : List ℕ = value_part bytes c in
    Option·map (λ vs. record { ids = is; values = vs }) (all_values (length is) (value_in c.head xs))

-- these bytes are what the writer writes
unfoldable pub is_done : Outcome (List ℕ) → List ℕ → Bool
is_done (done out) bytes = same out bytes
is_done (refused why w) bytes = false

unfoldable pub is_column : List ℕ → Edition → ℕ → Pairs → Bool
is_column bytes ed p q = is_done (write_as ed p q.ids q.values (length bytes)) bytes

unfoldable pub accepted : List ℕ → Opened → Outcome Pairs
accepted bytes c =
    and_then (given (pairs_in bytes c) DAMAGED 0) (λ q.
    need (is_column bytes c.head.edition c.head.power q) DAMAGED 0 (done q))

-- success hands back n
unfoldable pub check : List Edition → List ℕ → Outcome ℕ
check known bytes = and_then (open_column known bytes) (λ c. and_then (accepted bytes c) (λ q. done c.head.count))

-- into buffers of so many ids and values
unfoldable pub reading : List Edition → List ℕ → ℕ → ℕ → Outcome Pairs
reading known bytes idRoom valueRoom =
    and_then (open_column known bytes) (λ c.
    need (leb c.head.count idRoom && leb c.head.count valueRoom) BUFFER c.head.count
    (accepted bytes c))

-- ---- the reading's reply and its buffers afterwards

unfoldable pub read_reply : Outcome Pairs → Outcome ℕ
read_reply (done q) = done (length q.ids)
read_reply (refused why w) = refused why w

-- success changes exactly the first n places, and a refusal none
unfoldable pub ids_after : Outcome Pairs → List ℕ → List ℕ
ids_after (done q) ids = q.ids ++ drop (length q.ids) ids
ids_after (refused why w) ids = ids

unfoldable pub values_after : Outcome Pairs → List ℤ → List ℤ
values_after (done q) vs = q.values ++ drop (length q.values) vs
values_after (refused why w) vs = vs
