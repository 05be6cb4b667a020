-- `id_reader::fill_ids` meets its contract: at each turn the runs ahead stand at the loop's place, and
use Rattle.format.specs.Kit.{◌≡◌, refl, ap, ◌∙◌, ℕ, ◌+◌, ◌≤◌, arith, rules, length, drop, sets}
use Rattle.format.specs.Bytes.{low_at}
use Rattle.format.specs.IdsRead.{places_in}
use Rattle.laws.proofs.Stores.{sets_front}
use Rattle.id_reader.specs.Placed.{ids_from}
use Rattle.id_reader.proofs.Way.{Here, ids_in, ids_at, way_begin, way_ahead, way_end, first_fits}
use Rattle.id_reader.proofs.fill_ids.Goals as goal
use Rattle.id_reader.proofs.fill_ids.Goals.{After-base_of-base, After-data_bytes, After-size-c, In-loop-k}

-- the block ahead, of x ids
ahead : (c : In-loop-k) (x : ℕ)
    → let l = c.loop-k in
    let a = c.args in
    x ≡ low_at 2 a.s.now (l.at + 2) + 1 → Here a.p a.s.now a.ids.now l.ids l.at l.o l.k x
ahead c x =
    way_ahead _ c.requires.0 _ _ _ _ _ _ c.loop-k.invariant c.requires.2 (λ e. omega arith) x

-- the same with the count as it was read
counted : (c : After-size-c)
    → let l = c.loop-k in
    let a = c.args in
    Here a.p a.s.now a.ids.now l.ids l.at l.o l.k (c.size-c.result + 1)
counted c = ahead (goal.at.After-size-c c).In-loop-k _ (ap (λ (x : ℕ). x + 1) (c.size-c.ensures ∙ c.short_at.ensures.0))

-- the block's ids, from the base as it was worked out
based : (c : After-base_of-base)
    → let l = c.loop-k in
    let a = c.args in
    let x = c.size-c.result + 1 in
    ids_from c.base_of-base.result (places_in a.p x (drop (l.at + 4) a.s.now)) ≡ ids_at a.p a.s.now l.at l.k x
based c =
    let l = c.loop-k in
    let a = c.args in
    ap (λ (x : ℕ). ids_from x (places_in a.p (c.size-c.result + 1) (drop (l.at + 4) a.s.now))) c.base_of-base.ensures.0

-- the next block stands in the section
next_in : (c : After-data_bytes)
    → c.loop-k.at + 4 + c.data_bytes.result + 2 ≤ length c.args.s.now
next_in c = omega (arith, (counted (goal.at.After-data_bytes c).After-size-c).inside, c.data_bytes.ensures.0)

pub short_at-k-requires : goal.short_at-k-requires
short_at-k-requires c =
    omega (arith, first_fits _ c.requires.0 _ (λ j. (c.type_inv.s j).fits) c.requires.1)

pub loop-k-init : goal.loop-k-init
loop-k-init c =
    way_begin _ c.requires.0 _ (λ j. (c.type_inv.s j).fits) c.requires.1 _ _ c.short_at-k.ensures.0

pub fill_block-requires : goal.fill_block-requires
fill_block-requires c =
    let g = counted (goal.at.fill_block-requires c).After-size-c in
    (search rules, search rules, omega (arith, g.inside), omega (arith, g.enough, ap length (based (goal.at.fill_block-requires c).After-base_of-base)))

pub loop-k-preserved : goal.loop-k-preserved
loop-k-preserved c =
    let l = c.loop-k in
    (counted (goal.at.loop-k-preserved c).After-size-c).on _ _ _ _ (c.fill_block.ensures ∙ ap (sets l.ids l.o) (based (goal.at.loop-k-preserved c).After-base_of-base))
    (ap (λ (x : ℕ). l.at + 4 + x) c.data_bytes.ensures.0) refl c.short_at-k-in-loop-k.ensures.0

pub returns : goal.returns
returns c =
    let l = c.loop-k in
    way_end _ c.requires.0 _ _ _ _ _ _ l.invariant c.requires.2 (omega arith) ∙ sets_front _ (ids_in c.args.p c.args.s.now) c.requires.2

pub overflow_add-at : goal.overflow_add-at
overflow_add-at c = omega (arith, (ahead c _ refl).inside)

pub short_at-requires : goal.short_at-requires
short_at-requires c = omega (arith, (ahead c _ refl).inside)

pub base_of-base-requires : goal.base_of-base-requires
base_of-base-requires c = (counted c).small

pub overflow_add-t : goal.overflow_add-t
overflow_add-t c = omega (arith, (counted (goal.at.overflow_add-t c).After-size-c).inside)

pub overflow_add-at-in-loop-k : goal.overflow_add-at-in-loop-k
overflow_add-at-in-loop-k c = omega (arith, next_in c)

pub short_at-k-requires-in-loop-k : goal.short_at-k-requires-in-loop-k
short_at-k-requires-in-loop-k c = omega (arith, next_in c)

pub loop-k-smaller : goal.loop-k-smaller
loop-k-smaller c = omega (arith, next_in (goal.at.loop-k-smaller c).After-data_bytes)
