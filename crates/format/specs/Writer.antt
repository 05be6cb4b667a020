-- The writer: refusals 1, 9, 2 to 4, 17 and 6 in order, each over the whole input before the next (document 01, "Refusal numbers"; document 02,
-- [6], put 9 in, [7] took 5 out, and [12] put 17 in, for a writer that is handed a plan). Assumes nothing.
use Rattle.std.specs.Prelude.{◌∷◌, ◌++◌}
use Rattle.format.specs.Kit.{ℕ, suc, Bool, cond, List, [], Option, none, some, length, drop, leb, ltb, eqb, ℤ}
use Rattle.format.specs.Limits.{max_id, power_ok}
use Rattle.format.specs.Refusals.{Outcome, done, refused, and_then, need, given, need_none, LENGTHS, POWER, ORDER, RANGE, ROOM, EDITION, PLAN}
use Rattle.format.specs.Editions.{Edition, editions, edition_in, codec}
use Rattle.format.specs.Plan.{plan_ok, plan_edition, chosen}
use Rattle.format.specs.Column.{column}

-- the first index, i and on, at which an id is not above the one before, a
unfoldable pub not_above : ℕ → ℕ → List ℕ → Option ℕ
not_above i a [] = none
not_above i a (x ∷ xs) = cond (ltb a x) (not_above (suc i) x xs) (some i)

unfoldable pub order_fault : List ℕ → Option ℕ
order_fault [] = none
order_fault (x ∷ xs) = not_above 1 x xs

-- the first index, i and on, at which an id is above its limit
unfoldable pub range_fault : ℕ → List ℕ → Option ℕ
range_fault i [] = none
range_fault i (x ∷ xs) = cond (leb x max_id) (range_fault (suc i) xs) (some i)

-- the column of an edition, for an output of `room` bytes, with a plan that is accepted or not (document 02, [12]: after RANGE, before ROOM)
unfoldable pub write_if : Bool → Edition → ℕ → List ℕ → List ℤ → ℕ → Outcome (List ℕ)
write_if planned ed p ids vs room =
    let out : List ℕ = column ed p ids vs in
    need (eqb (length ids) (length vs)) LENGTHS 0
    (need (power_ok p) POWER 0
    (need_none (order_fault ids) ORDER
    (need_none (range_fault 0 ids) RANGE
    (need planned PLAN 0
    (need (leb (length out) room) ROOM (length out)
    (done out))))))

-- of values that the edition takes
unfoldable pub write_as : Edition → ℕ → List ℕ → List ℤ → ℕ → Outcome (List ℕ)
write_as ed p ids vs room = write_if ((codec ed).takes vs) ed p ids vs room

-- the call that takes a plan: a table, or plain, which gives edition 1 (document 02, [12])
unfoldable pub write_planned : ℕ → List ℕ → List ℤ → List ℤ → ℕ → Outcome (List ℕ)
write_planned p ids vs us room = write_if (plan_ok us vs) (plan_edition us) p ids vs room

-- the call is told the edition's number k, and plans for itself where the edition does not take all values; LENGTHS comes before EDITION, and has
-- nothing to say after it
unfoldable pub write : ℕ → ℕ → List ℕ → List ℤ → ℕ → Outcome (List ℕ)
write k p ids vs room =
    need (eqb (length ids) (length vs)) LENGTHS 0
    (and_then (given (edition_in editions k) EDITION 0) (λ ed. write_as (chosen ed vs) p ids vs room))

-- ---- the reply and the output afterwards, of bytes or of a plan's entries

-- success hands back how many were written
unfoldable pub write_reply : {A : Type 0} → Outcome (List A) → Outcome ℕ
write_reply (done bytes) = done (length bytes)
write_reply (refused why w) = refused why w

-- success changes exactly these places, and a refusal none
unfoldable pub write_out : {A : Type 0} → Outcome (List A) → List A → List A
write_out (done bytes) out = bytes ++ drop (length bytes) out
write_out (refused why w) out = out
