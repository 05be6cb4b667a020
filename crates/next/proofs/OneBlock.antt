-- The ids of one block, told by the places of the block. Assumes nothing.
use Rattle.std.specs.Prelude.{Ok, Some}
use Rattle.format.specs.Kit.{◌≡◌, refl, sym, ◌∙◌, false, ◌&&◌, List, ℕ, zero, suc, ◌+◌, ◌-◌, ◌*◌, ◌≤◌, ◌<◌, arith, Option, none, some, ℤ}
use Rattle.format.specs.Kit.{leb}
use Rattle.format.specs.Refusals.{Outcome, done, refused, and_then, given, BROKEN}
use Rattle.format.specs.Ids.{data_bytes}
use Rattle.format.specs.Opening.{Opened, id_part, value_of}
use Rattle.format.specs.LookUp.{Look, found, absent, Place, inside, nowhere, broken, scanned, place_at, answer, steps}
use Rattle.format.specs.Next.{Candidate, candidate_at, decides, in_turn}
use Rattle.laws.proofs.InTurn.{all_absent, refused_first}
use Rattle.blocks.specs.declared.Block.{Block}
use Rattle.lookup.specs.declared.Ask.{Ask}
use Rattle.lookup.specs.declared.Entry.{Entry}
use Rattle.lookup.specs.Steps.{Asked, Jumped, at_block, Reached, Roomy}
use Rattle.lookup.proofs.Parts.{from_head, of_block, steps_parts, block_parts, no_room, room}
use Rattle.next_in_block.specs.First as Fs
use Rattle.next_in_block.specs.First.{meets, meets_none, fails, meets_by, first_in, first_of}
use Rattle.next_in_block.specs.declared.First as Fi
use Rattle.next.specs.Blocks.{AskedOf, reached}

-- the same asked of place y of block b
abbrev pub ask_for : Ask → ℕ → ℕ → Ask
ask_for q b y = record { entries = q.entries; jumps = q.jumps; power = q.power; count = q.count; block = b; place = y }

asked_for : (c : Opened) (q : Ask) (b y : ℕ) → y < 65536 → AskedOf c q → Asked c (b * 65536 + y) (ask_for q b y)
asked_for c q b y h x =
    record { entries = x.entries; jumps = x.jumps; power = x.power; count = x.count; block = omega arith; place = omega arith }

-- ---- what the first place gives

-- in block b with o ids before it, where the ids above the block give `more`
abbrev pub placed : List ℕ → Opened → ℕ → ℕ → Fs.Met → Outcome Candidate → Outcome Candidate
placed bytes c b o (meets x i) more = and_then (given (value_of bytes c (o + i)) BROKEN 0) (λ v. done (candidate_at (b * 65536 + x) (o + i) v))
placed bytes c b o meets_none more = more
placed bytes c b o fails more = refused BROKEN 0

value_decides : (x : Option ℤ) (id o w : ℕ) (above : Outcome Candidate)
    → decides id (and_then (given x BROKEN 0) (λ v. done (found o v w))) above ≡ and_then (given x BROKEN 0) (λ v. done (candidate_at id o v))
unfolding decides and_then given
value_decides (some v) id o w above = refl
value_decides none id o w above = refl

one_place : (bytes : List ℕ) (c : Opened) (b o y : ℕ) (p : Place) (above : Outcome Candidate) (rest : Fs.Met) (more : Outcome Candidate)
    → above ≡ placed bytes c b o rest more → decides (b * 65536 + y) (answer bytes c o p) above ≡ placed bytes c b o (meets_by y p rest) more
unfolding decides answer meets_by
one_place bytes c b o y (inside i w) above rest more e = value_decides (value_of bytes c (o + i)) (b * 65536 + y) (o + i) w above
one_place bytes c b o y (nowhere w) above rest more e = e
one_place bytes c b o y broken above rest more e = refl

-- n ids of the block, from place y on
pub in_places : (bytes : List ℕ) (c : Opened) (b o : ℕ) (f : ℕ → Place) → ((y : ℕ) → y < 65536 → steps scanned bytes c (b * 65536 + y) ≡ answer bytes c o (f y))
    → (n y : ℕ) → y + n ≤ 65536 → (more : Outcome Candidate) → in_turn n bytes c (b * 65536 + y) more ≡ placed bytes c b o (first_in n f y) more
unfolding in_turn first_in
in_places bytes c b o f h zero y l more = refl
in_places bytes c b o f h (suc n) y l more =
    let e : suc (b * 65536 + y) ≡ b * 65536 + suc y = omega arith in
    rw (h y (omega arith), e)
    (one_place bytes c b o y (f y) (in_turn n bytes c (b * 65536 + suc y) more) (first_in n f (suc y)) more
    (in_places bytes c b o f h n (suc y) (omega arith) more))

-- ---- the block's steps: one reading of entry and head serves all its places

module _ (bytes : List ℕ) (c : Opened) (s : List ℕ) (q : Ask) (b : ℕ) (e : Entry) (x : AskedOf c q) (h : id_part bytes c ≡ s)
    (j : Jumped s q.entries q.jumps b e) where
  pub entered : (y : ℕ) → y < 65536
      → steps scanned bytes c (b * 65536 + y) ≡ at_block s q.entries q.jumps b e.start (from_head scanned bytes c s (ask_for q b y) e)
  entered y l = steps_parts scanned bytes c (b * 65536 + y) s (ask_for q b y) e (asked_for c q b y l x) h j

  module _ (r : ℕ) (l : r < 65536) (more : Outcome Candidate) where
    -- steps 2 and 3 fail, or the block is another one
    pub block_refused : ((next : Outcome Look) → at_block s q.entries q.jumps b e.start next ≡ refused BROKEN 0)
        → refused BROKEN 0 ≡ in_turn (65536 - r) bytes c (b * 65536 + r) more
    block_refused g = sym (refused_first bytes c (65536 - r) (b * 65536 + r) more (omega arith) BROKEN 0 (entered r l ∙ g _))

    pub block_passed : ((next : Outcome Look) → at_block s q.entries q.jumps b e.start next ≡ done (absent 0))
        → more ≡ in_turn (65536 - r) bytes c (b * 65536 + r) more
    block_passed g =
        sym (all_absent bytes c (λ y. 0) (65536 - r) (b * 65536 + r) more
        (λ y a m. let f : b * 65536 + (y - b * 65536) ≡ y = omega arith in
        let t = entered (y - b * 65536) (omega arith) ∙ g _ in
        rw f at t))

    module _ (k : Block) (g : (next : Outcome Look) → at_block s q.entries q.jumps b e.start next ≡ next) (at : Reached s q.entries b e k) where
      here : (y : ℕ) → y < 65536 → steps scanned bytes c (b * 65536 + y) ≡ of_block scanned bytes c s (ask_for q b y) k
      here y l = entered y l ∙ g _ ∙ block_parts scanned bytes c s (ask_for q b y) e k at

      -- step 4 fails
      pub block_no_room : (leb (k.start + data_bytes q.power k.count) q.entries && leb (k.ordinal + k.count) q.count) ≡ false
          → refused BROKEN 0 ≡ in_turn (65536 - r) bytes c (b * 65536 + r) more
      block_no_room t =
          sym (refused_first bytes c (65536 - r) (b * 65536 + r) more (omega arith) BROKEN 0
          (here r l ∙ no_room scanned bytes c s (ask_for q b r) k t))

      -- steps 5 to 7 are left
      pub block_placed : (m : Block) → Roomy q.entries q.power q.count k m
          → placed bytes c b m.ordinal (first_in (65536 - r) (place_at scanned q.power s m.start m.count) r) more
          ≡ in_turn (65536 - r) bytes c (b * 65536 + r) more
      block_placed m t =
          sym (in_places bytes c b m.ordinal (place_at scanned q.power s m.start m.count)
          (λ y n. here y n ∙ room scanned bytes c s (ask_for q b y) k m t) (65536 - r) r (omega arith) more)

-- ---- the code's first place

pub place_there : (bytes : List ℕ) (c : Opened) (b o x i : ℕ) (id y : ℕ) → id ≡ b * 65536 + x → y ≡ o + i → (more : Outcome Candidate)
    → reached bytes c (Ok (Some (record { id = id; ordinal = y }))) more ≡ placed bytes c b o (first_of (Fi.First.At x i)) more
place_there bytes c b o x i id y e f more = rw (e, f)

pub place_broken : (bytes : List ℕ) (c : Opened) (b o : ℕ) (p : Fi.First) → ((x i : ℕ) → p ≡ Fi.First.At x i → ⊥)
    → (p ≡ Fi.First.Nothing → ⊥) → (more : Outcome Candidate) → refused BROKEN 0 ≡ placed bytes c b o (first_of p) more
place_broken bytes c b o (Fi.First.At x i) z t more = absurd (z _ _ refl)
place_broken bytes c b o Fi.First.Nothing h z more = absurd (z refl)
place_broken bytes c b o Fi.First.Broken h t more = refl
