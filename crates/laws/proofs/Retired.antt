-- Document 02, [7]: refusal 5, OFFSET, is retired. It was "a block would start at 2147483647 or later"; no block of a list within the
-- limits comes near that line, and no call gives 5 for any input. Assumes nothing.
use Rattle.format.specs.Kit.{◌≡◌, refl, ap, false, List, [], ◌∷◌, ◌++◌, append_assoc, ℕ, zero, suc, ◌+◌, ◌*◌, ◌≤◌, ◌<◌, zero-le, arith, ℤ, length, take}
use Rattle.format.specs.Kit.{drop, drop_at}
use Rattle.format.specs.Limits.{max_blocks, start_limit}
use Rattle.format.specs.Refusals.{Outcome, done, refused, LENGTHS, POWER, ORDER, RANGE, ROOM, SHORT, NUMBER, EDITION, HEADER, LENGTH, BUFFER, DAMAGED}
use Rattle.format.specs.Refusals.{ID, BROKEN, BACK, PLAN, write_numbers, planned_numbers, set_write_numbers, open_numbers, check_numbers, read_numbers, look_up_numbers}
use Rattle.format.specs.Refusals.{next_numbers, between_numbers, look_up_in_numbers, next_in_numbers, between_in_numbers, pair_at_numbers, pair_at_in_numbers}
use Rattle.format.specs.Refusals.{set_check_numbers, set_find_numbers}
use Rattle.format.specs.Bytes.{bytes_of}
use Rattle.format.specs.Ids.{Run, runs, block_of, end_block, jumps, entry_bytes, blocks, id_section, start_of}
use Rattle.format.specs.Runs.{AllFine, AscBlocks, end_of, total_bytes}
use Rattle.format.specs.Editions.{Edition, among}
use Rattle.format.specs.Valid.{Valid}
use Rattle.format.specs.Plan.{plan}
use Rattle.format.specs.Writer.{write_planned, write}
use Rattle.format.specs.Opening.{Opened, open_column}
use Rattle.format.specs.Check.{check, reading}
use Rattle.format.specs.LookUp.{Look, found, absent, look_up, look_up_in}
use Rattle.format.specs.Page.{place_kind, page}
use Rattle.format.specs.Next.{next, next_in}
use Rattle.format.specs.FirstBetween.{first_between, first_between_in}
use Rattle.format.specs.BetweenFrom.{first_between_from, first_between_from_in}
use Rattle.format.specs.ReadFrom.{read_from, read_from_in}
use Rattle.format.specs.PairAt.{pair_at, pair_at_in}
use Rattle.format.specs.Layered.{Layer, LayeredLook, found_in, absent_in, refused_by, look_up_layered, look_up_layered_in}
use Rattle.format.specs.LayeredPage.{layered_kind, layered_page, layered_page_in}
use Rattle.format.specs.LayeredReading.{refused_read, read_layered, read_layered_in}
use Rattle.format.specs.Orders.{Order}
use Rattle.format.specs.Judge.{judge_section}
use Rattle.format.specs.SetBytes.{set_write}
use Rattle.format.specs.SetCalls.{set_check, set_find}
use Rattle.laws.proofs.Pieces.{split_bytes}
use Rattle.laws.proofs.Section.{length_block_of, length_blocks}
use Rattle.format.proofs.RankBytes.{rank_le}
use Rattle.laws.proofs.Bounds.{block_le, end_le}
use Rattle.laws.proofs.RoundTrip.{power16, power_ge, blocks_asc, blocks_fine, blocks_le}
use Rattle.laws.proofs.RefusalNumbers.{within, unlisted, write_refusals, planned_refusals, plan_refusals, set_write_refusals, open_refusals}
use Rattle.laws.proofs.RefusalNumbers.{check_refusals, reading_refusals, look_up_refusals, next_refusals, page_refusals, between_refusals}
use Rattle.laws.proofs.RefusalNumbers.{look_up_in_refusals, next_in_refusals, between_in_refusals, layered_refusals, layered_in_refusals}
use Rattle.laws.proofs.RefusalNumbers.{read_from_refusals, pair_at_refusals, between_from_refusals, read_from_in_refusals, pair_at_in_refusals}
use Rattle.laws.proofs.RefusalNumbers.{layered_page_refusals, layered_read_refusals, layered_read_in_refusals}
use Rattle.laws.proofs.RefusalNumbers.{between_from_in_refusals, judge_refusals, set_check_refusals, set_find_refusals}

-- ---- no block starts near the line

total_take : (p i : ℕ) (gs : List Run) → total_bytes p (take i gs) ≤ total_bytes p gs
unfolding total_bytes
total_take p zero gs = zero-le
total_take p (suc i) [] = zero-le
total_take p (suc i) (g ∷ gs) = omega (arith, total_take p i gs)

-- each block has a number of its own
blocks_under : (next : ℕ) (gs : List Run) → AscBlocks next gs → length gs + next ≤ end_of next gs
unfolding end_of
blocks_under next [] t = omega arith
blocks_under next (g ∷ gs) t = omega (arith, t.0, blocks_under (suc g.block) gs t.1)

-- so there are no more of them than block numbers
pub blocks_few : (gs : List Run) → AllFine gs → AscBlocks 0 gs → length gs ≤ max_blocks
blocks_few gs fine asc = omega (arith, blocks_under 0 gs asc, end_le 0 gs zero-le fine)

-- for every list within the limits and every rank power
module _ {ed : Edition} (p : ℕ) (ids : List ℕ) (vs : List ℤ) (ok : Valid ed p ids vs) where
  -- block i, from 0, stands at its start, and the end block after the last
  pub starts_there : (i : ℕ)
      → drop (start_of p ids i) (id_section p ids) ≡ bytes_of (block_of p) (drop i (runs ids)) ++ (end_block ++ bytes_of entry_bytes (jumps p ids))
  unfolding start_of id_section blocks
  starts_there i =
      rw (split_bytes (block_of p) i (runs ids), append_assoc)
      (drop_at (bytes_of (block_of p) (take i (runs ids))) _ _ refl)

  -- there are at most 32766 blocks,
  pub few_blocks : length (runs ids) ≤ 32766
  few_blocks = blocks_few (runs ids) (blocks_fine p ids vs ok) (blocks_asc p ids vs ok)

  -- of at most 9220 bytes each,
  pub short_blocks : (g : Run) → length (block_of p g) ≤ 9220
  short_blocks g =
      omega (arith, length_block_of p g (power16 p ids vs ok), block_le p (length g.places) (rank_le p (power_ge p ok.power)))

  -- so that none starts later than this, the end block included,
  pub starts_bound : (i : ℕ) → start_of p ids i ≤ 32766 * 9220
  unfolding start_of
  starts_bound i =
      omega (arith, length_blocks p (take i (runs ids)) (power16 p ids vs ok), total_take p i (runs ids), blocks_le p ids vs ok)

  -- and none at 2147483647 or later
  pub starts_low : (i : ℕ) → start_of p ids i < start_limit
  starts_low i = omega (arith, starts_bound i)

-- ---- a number that no call gives, on any input

-- no call that writes: told an edition's number, by a plan, of a set; and the planner
pub record WritersNever (k : ℕ) : Type 0 where
  pub writing : (ed p : ℕ) (ids : List ℕ) (vs : List ℤ) (room w : ℕ) → write ed p ids vs room ≡ refused k w → ⊥
  pub by_plan : (p : ℕ) (ids : List ℕ) (vs us : List ℤ) (room w : ℕ) → write_planned p ids vs us room ≡ refused k w → ⊥
  pub planning : (vs : List ℤ) (room w : ℕ) → plan vs room ≡ refused k w → ⊥
  pub of_a_set : (ids : List ℕ) (room w : ℕ) → set_write ids room ≡ refused k w → ⊥

-- no call that reads: from bytes, by a reader of any editions; from a column that was opened before; with a correction on top; of an id section; of a set
pub record ReadersNever (k : ℕ) : Type 0 where
  pub opening : (known : List Edition) (bytes : List ℕ) (w : ℕ) → open_column known bytes ≡ refused k w → ⊥
  pub checking : (known : List Edition) (bytes : List ℕ) (w : ℕ) → check known bytes ≡ refused k w → ⊥
  pub full_reading : (known : List Edition) (bytes : List ℕ) (idRoom valueRoom w : ℕ) → reading known bytes idRoom valueRoom ≡ refused k w → ⊥
  pub looking : (known : List Edition) (bytes : List ℕ) (id w : ℕ) → look_up known bytes id ≡ refused k w → ⊥
  pub looking_in : (bytes : List ℕ) (c : Opened) (id w : ℕ) → look_up_in bytes c id ≡ refused k w → ⊥
  pub nexting : (known : List Edition) (bytes : List ℕ) (last t w : ℕ) → next known bytes last t ≡ refused k w → ⊥
  pub nexting_in : (bytes : List ℕ) (c : Opened) (last t w : ℕ) → next_in bytes c last t ≡ refused k w → ⊥
  pub reading_from : (known : List Edition) (bytes : List ℕ) (t room w : ℕ) → read_from known bytes t room ≡ refused k w → ⊥
  pub reading_from_in : (bytes : List ℕ) (c : Opened) (t room w : ℕ) → read_from_in bytes c t room ≡ refused k w → ⊥
  pub pairing : (known : List Edition) (bytes : List ℕ) (i w : ℕ) → pair_at known bytes i ≡ refused k w → ⊥
  pub pairing_in : (bytes : List ℕ) (c : Opened) (i w : ℕ) → pair_at_in bytes c i ≡ refused k w → ⊥
  pub ranging : (bytes : List ℕ) (a b : ℤ) (w : ℕ) → first_between bytes a b ≡ refused k w → ⊥
  pub ranging_in : (bytes : List ℕ) (c : Opened) (a b : ℤ) (w : ℕ) → first_between_in bytes c a b ≡ refused k w → ⊥
  pub ranging_from : (bytes : List ℕ) (i : ℕ) (a b : ℤ) (w : ℕ) → first_between_from bytes i a b ≡ refused k w → ⊥
  pub ranging_from_in : (bytes : List ℕ) (c : Opened) (i : ℕ) (a b : ℤ) (w : ℕ) → first_between_from_in bytes c i a b ≡ refused k w → ⊥
  pub paging : (known : List Edition) (bytes ids : List ℕ) (o v ks w : ℕ) → page known bytes ids o v ks ≡ refused k w → ⊥
  pub layering : (known : List Edition) (m c : List ℕ) (id : ℕ) (layer : Layer) (w : ℕ) → look_up_layered known m c id ≡ refused_by layer k w → ⊥
  pub layering_in : (m : List ℕ) (x : Opened) (c : List ℕ) (y : Opened) (id : ℕ) (layer : Layer) (w : ℕ)
      → look_up_layered_in m x c y id ≡ refused_by layer k w → ⊥
  pub layered_paging : (known : List Edition) (m c ids : List ℕ) (o v ks cs w : ℕ) → layered_page known m c ids o v ks cs ≡ refused k w → ⊥
  pub layered_paging_in : (m : List ℕ) (x : Opened) (c : List ℕ) (y : Opened) (ids : List ℕ) (o v ks cs w : ℕ)
      → layered_page_in m x c y ids o v ks cs ≡ refused k w → ⊥
  pub layered_reading : (known : List Edition) (m c : List ℕ) (t room : ℕ) (layer : Layer) (w : ℕ) → read_layered known m c t room ≡ refused_read layer k w → ⊥
  pub layered_reading_in : (m : List ℕ) (x : Opened) (c : List ℕ) (y : Opened) (t room : ℕ) (layer : Layer) (w : ℕ)
      → read_layered_in m x c y t room ≡ refused_read layer k w → ⊥
  pub judging : (o : Order) (p j : ℕ) (s : List ℕ) (w : ℕ) → judge_section o p j s ≡ refused k w → ⊥
  pub set_checking : (bytes : List ℕ) (w : ℕ) → set_check bytes ≡ refused k w → ⊥
  pub set_finding : (bytes : List ℕ) (id w : ℕ) → set_find bytes id ≡ refused k w → ⊥

abbrev writers : List ℕ
writers = LENGTHS ∷ EDITION ∷ POWER ∷ ORDER ∷ RANGE ∷ PLAN ∷ ROOM ∷ BUFFER ∷ []

abbrev readers : List ℕ
readers = SHORT ∷ NUMBER ∷ EDITION ∷ HEADER ∷ LENGTH ∷ BUFFER ∷ DAMAGED ∷ ID ∷ BROKEN ∷ BACK ∷ []

writers_never : (k : ℕ) → among writers k ≡ false → WritersNever k
unfolding within among
writers_never k n =
    record {
      writing = λ ed p ids vs room w e. unlisted write_numbers writers k refl n (write_refusals ed p ids vs room k w e);
      by_plan = λ p ids vs us room w e. unlisted planned_numbers writers k refl n (planned_refusals p ids vs us room k w e);
      planning = λ vs room w e. unlisted (BUFFER ∷ []) writers k refl n (plan_refusals vs room k w e);
      of_a_set = λ ids room w e. unlisted set_write_numbers writers k refl n (set_write_refusals ids room k w e);
    }

readers_never : (k : ℕ) → among readers k ≡ false → ReadersNever k
unfolding within among layered_page layered_page_in
readers_never k n =
    record {
      opening = λ known bytes w e. unlisted open_numbers readers k refl n (open_refusals known bytes k w e);
      checking = λ known bytes w e. unlisted check_numbers readers k refl n (check_refusals known bytes k w e);
      full_reading = λ known bytes i v w e. unlisted read_numbers readers k refl n (reading_refusals known bytes i v k w e);
      looking = λ known bytes id w e. unlisted look_up_numbers readers k refl n (look_up_refusals known bytes id k w e);
      looking_in = λ bytes c id w e. unlisted look_up_in_numbers readers k refl n (look_up_in_refusals bytes c id k w e);
      nexting = λ known bytes last t w e. unlisted next_numbers readers k refl n (next_refusals known bytes last t k w e);
      nexting_in = λ bytes c last t w e. unlisted next_in_numbers readers k refl n (next_in_refusals bytes c last t k w e);
      reading_from = λ known bytes t room w e. unlisted look_up_numbers readers k refl n (read_from_refusals known bytes t room k w e);
      reading_from_in = λ bytes c t room w e. unlisted look_up_in_numbers readers k refl n (read_from_in_refusals bytes c t room k w e);
      pairing = λ known bytes i w e. unlisted pair_at_numbers readers k refl n (pair_at_refusals known bytes i k w e);
      pairing_in = λ bytes c i w e. unlisted pair_at_in_numbers readers k refl n (pair_at_in_refusals bytes c i k w e);
      ranging = λ bytes a b w e. unlisted between_numbers readers k refl n (between_refusals bytes a b k w e);
      ranging_in = λ bytes c a b w e. unlisted between_in_numbers readers k refl n (between_in_refusals bytes c a b k w e);
      ranging_from = λ bytes i a b w e. unlisted between_numbers readers k refl n (between_from_refusals bytes i a b k w e);
      ranging_from_in = λ bytes c i a b w e. unlisted between_in_numbers readers k refl n (between_from_in_refusals bytes c i a b k w e);
      paging = λ known bytes ids o v ks w e. unlisted (BUFFER ∷ []) readers k refl n (page_refusals known bytes ids o v ks k w e);
      layering = λ known m c id layer w e. unlisted look_up_numbers readers k refl n (layered_refusals m c id k w known layer e);
      layering_in = λ m x c y id layer w e. unlisted look_up_in_numbers readers k refl n (layered_in_refusals m c id k w x y layer e);
      layered_paging = λ known m c ids o v ks cs w e. unlisted (BUFFER ∷ []) readers k refl n (layered_page_refusals _ ids o v ks cs k w e);
      layered_paging_in = λ m x c y ids o v ks cs w e. unlisted (BUFFER ∷ []) readers k refl n (layered_page_refusals _ ids o v ks cs k w e);
      layered_reading = λ known m c t room layer w e. unlisted look_up_numbers readers k refl n (layered_read_refusals m c t room k w known layer e);
      layered_reading_in = λ m x c y t room layer w e. unlisted look_up_in_numbers readers k refl n (layered_read_in_refusals m c t room k w x y layer e);
      judging = λ o p j s w e. unlisted (HEADER ∷ []) readers k refl n (judge_refusals o p j s k w e);
      set_checking = λ bytes w e. unlisted set_check_numbers readers k refl n (set_check_refusals bytes k w e);
      set_finding = λ bytes id w e. unlisted set_find_numbers readers k refl n (set_find_refusals bytes id k w e);
    }

-- "don't use 5 again": no call answers it
pub writers_never_5 : WritersNever 5
unfolding among
writers_never_5 = writers_never 5 refl

pub readers_never_5 : ReadersNever 5
unfolding among
readers_never_5 = readers_never 5 refl

-- nor is it the kind of a place in a page
not_kind_5 : (x : Outcome Look) → ((w : ℕ) → x ≡ refused 5 w → ⊥) → place_kind x ≡ 5 → ⊥
unfolding place_kind
not_kind_5 (done (found o v w)) h e = omega arith
not_kind_5 (done (absent w)) h e = omega arith
not_kind_5 (refused why w) h e = h w (ap {B = Outcome Look} (λ (m : ℕ). refused m w) e)

pub kind_never_5 : (known : List Edition) (bytes : List ℕ) (id : ℕ) → place_kind (look_up known bytes id) ≡ 5 → ⊥
kind_never_5 known bytes id = not_kind_5 (look_up known bytes id) (readers_never_5.looking known bytes id)

not_layered_kind_5 : (x : LayeredLook) → ((layer : Layer) (w : ℕ) → x ≡ refused_by layer 5 w → ⊥) → layered_kind x ≡ 5 → ⊥
unfolding layered_kind
not_layered_kind_5 (found_in layer o v w j) h e = omega arith
not_layered_kind_5 (absent_in w j) h e = omega arith
not_layered_kind_5 (refused_by layer why w) h e = h layer w (ap {B = LayeredLook} (λ (m : ℕ). refused_by layer m w) e)

pub layered_kind_never_5 : (known : List Edition) (m c : List ℕ) (id : ℕ) → layered_kind (look_up_layered known m c id) ≡ 5 → ⊥
layered_kind_never_5 known m c id = not_layered_kind_5 (look_up_layered known m c id) (readers_never_5.layering known m c id)

-- 1 is the writers' alone
pub readers_never_1 : ReadersNever LENGTHS
unfolding among
readers_never_1 = readers_never LENGTHS refl
