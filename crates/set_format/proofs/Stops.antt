-- Document 02, [14]: reading a set's bytes stops at the first number that is due and is none, all before it being sound, or with DAMAGED; and the other way
-- round. Assumes nothing.
use Rattle.format.specs.Kit.{◌≡◌, refl, sym, ap, ◌∙◌, subst, Bool, true, false, List, [], ◌∷◌, ◌++◌, append_assoc, ℕ, zero, suc, ◌+◌, ◌≤◌, ◌<◌}
use Rattle.format.specs.Kit.{arith, length, drop, length-append, length-drop, drop-drop, drop-append_seam, ltb, leb-true, le-leb}
use Rattle.format.specs.Limits.{max_block, max_blocks, max_kind}
use Rattle.format.specs.Refusals.{Outcome, done, refused, and_then, need, DAMAGED}
use Rattle.format.specs.Bytes.{bytes_of}
use Rattle.format.specs.HeaderNumbers.{groups, number, number_at}
use Rattle.format.specs.Ids.{Run}
use Rattle.format.specs.Pairs.{Below}
use Rattle.format.specs.Runs.{AllFine, AscBlocks, end_of}
use Rattle.format.specs.SetBytes.{set_kind, set_list, set_data, set_block_as, set_block}
use Rattle.format.specs.SetCalls.{SetHead, set_end, set_run, data_from, length_from, kind_from, block_from, blocks_from, set_ids}
use Rattle.format.specs.SetFaults.{BlocksTo, InBlock, its_number, its_kind, its_length, Due, block_count, in_block}
use Rattle.laws.proofs.Cases.{true_or}
use Rattle.laws.proofs.Tests.{stopped, both_true}
use Rattle.laws.proofs.Header.{number_at_lem}
use Rattle.laws.proofs.Minimal.{number_is}
use Rattle.set_format.proofs.Data.{fits}
use Rattle.set_format.proofs.Whole.{Block, block_there, Taken, taken}

-- ---- a number that is due and is none is the refusal

-- what reading comes to: a number at such a place is none; or DAMAGED, with 0
pub data Comes (bytes : List ℕ) (why w : ℕ) (At : ℕ → Type 0) : Type 0 where
  no_number : (place : ℕ) → At place → number_at bytes place ≡ refused why w → Comes bytes why w At
  damaged : why ≡ DAMAGED → w ≡ 0 → Comes bytes why w At

shape : (t c : ℕ) (g : Run) (rest : List ℕ) → set_kind (length g.places) ≡ t → length (set_list t g.places) ≡ c
    → set_block g ++ rest ≡ number g.block ++ (number t ++ (number c ++ (set_data t g.places ++ rest)))
unfolding set_block set_block_as
shape t c g rest e f = rw (e, f) (simp append_assoc)

number_some : (n : ℕ) → 0 < length (number n)
unfolding number groups
number_some n = true_or (ltb n 128) (λ e. rw e (omega arith)) (λ e. rw e (omega arith))

module _ (bytes : List ℕ) (why w : ℕ) where
  along : {At Bt : ℕ → Type 0} → ((place : ℕ) → At place → Bt place) → Comes bytes why w At → Comes bytes why w Bt
  along f (no_number place a e) = no_number place (f place a) e
  along f (damaged e z) = damaged e z

  -- one limit or test
  held_or : {A : Type 0} {At : ℕ → Type 0} (t : Bool) (next : Outcome A) → need t DAMAGED 0 next ≡ refused why w
      → (t ≡ true → next ≡ refused why w → Comes bytes why w At) → Comes bytes why w At
  unfolding need
  held_or true next e f = f refl e
  held_or false next e f = damaged (cc) (cc)

  -- no result
  never : {A : Type 0} {At : ℕ → Type 0} (a : A) → done a ≡ refused why w → Comes bytes why w At
  never a e = absurd (let z : ◌≡◌ {A = ℕ} 0 1 = cc in omega arith)

  module _ (u : Below 256 bytes) where
    block_stops : (next at : ℕ) → block_from next bytes at ≡ refused why w → Comes bytes why w (InBlock bytes next at)
    unfolding block_from kind_from length_from data_from
    block_stops next at e =
        stopped (number_at bytes at) _ why w e (λ f. no_number at (its_number refl) f) (λ k x e1.
        held_or _ _ e1 (λ h1 e2.
        let b1 = both_true _ _ h1 in
        let n1 = number_is bytes at k u x in
        let low : next ≤ k.0 = leb-true next k.0 b1.0 in
        let high : k.0 ≤ max_block = leb-true k.0 max_block b1.1 in
        stopped (number_at bytes k.1) _ why w e2 (λ f. no_number k.1 (its_kind k.0 low high n1.there n1.next) f) (λ t y e3.
        held_or _ _ e3 (λ h2 e4.
        let n2 = number_is bytes k.1 t u y in
        stopped (number_at bytes t.1) _ why w e4
        (λ f.
        no_number t.1
        (its_length k.0 t.0 low high (leb-true t.0 max_kind h2)
        (n1.there ∙ ap (λ (r : List ℕ). number k.0 ++ r) n2.there) (omega (arith, n1.next, n2.next)))
        f)
        (λ c z e5. held_or _ _ e5 (λ h3 e6. held_or _ _ e6 (λ h4 e7. never _ e7)))))))

    -- one sound block more in front
    more : (m next at : ℕ) (h : SetHead) (to after : ℕ) → block_from next bytes at ≡ done h → BlocksTo bytes m (suc h.block) (set_end h) to after
        → BlocksTo bytes (suc m) next at to after
    unfolding bytes_of set_run end_of
    more m next at h to after e b =
        let d : Block bytes u next at h = block_there bytes u next at h e in
        let k = d.block_data_is in
        let g : Run = set_run bytes h in
        let here : drop at bytes ≡ set_block g ++ drop (set_end h) bytes =
        d.bytes
        ∙ ap (λ (x : List ℕ). number h.block ++ (number h.kind ++ (number h.long ++ x))) k.bytes
        ∙ sym (shape h.kind h.long g (drop (set_end h) bytes) k.kind k.long) in
        let inside : set_end h ≤ length bytes = fits h.start h.kind h.long bytes d.data_ok in
        let size = ap length here ∙ length-append (set_block g) (drop (set_end h) bytes) in
        let some = ap length d.bytes ∙ length-append (number h.block) (number h.kind ++ (number h.long ++ drop h.start bytes)) in
        let ends : set_end h ≡ at + length (set_block g) =
        omega (arith, size, some, number_some h.block, inside, length-drop at bytes, length-drop (set_end h) bytes) in
        record {
          blocks = g ∷ b.blocks;
          fine = (record { number = d.high; some_place = k.some_place; ascending = k.ascending; inside = k.inside }, b.fine);
          ascending = (d.low, b.ascending);
          fewer = omega (arith, b.fewer);
          bytes_are =
              here ∙ ap (λ (x : List ℕ). set_block g ++ x) b.bytes_are
              ∙ sym (append_assoc (set_block g) (bytes_of set_block b.blocks) (drop to bytes));
          place = omega (arith, b.place, ends, length-append (set_block g) (bytes_of set_block b.blocks));
          last = b.last;
        }

    blocks_stop : (m next at : ℕ) → blocks_from m next bytes at ≡ refused why w
        → Comes bytes why w (λ place. (start after : ℕ) × BlocksTo bytes m next at start after × InBlock bytes after start place)
    unfolding blocks_from bytes_of end_of
    blocks_stop zero next at e = held_or _ _ e (λ h f. never _ f)
    blocks_stop (suc m) next at e =
        stopped (block_from next bytes at) _ why w e
        (λ f.
        along (λ place i. (
          at,
          next,
          record { blocks = []; fine = tt; ascending = tt; fewer = omega arith; bytes_are = refl; place = omega arith; last = refl },
          i,
        )) (block_stops next at f))
        (λ h x f.
        stopped (blocks_from m (suc h.block) bytes (set_end h)) _ why w f
        (λ g. along (λ place r. (r.0, r.1, more m next at h r.0 r.1 x r.2, r.3)) (blocks_stop m (suc h.block) (set_end h) g))
        (λ gs y g. never _ g))

    pub stops : set_ids bytes ≡ refused why w → Comes bytes why w (Due bytes)
    unfolding set_ids
    stops e =
        stopped (number_at bytes 0) _ why w e (λ f. no_number 0 (block_count refl) f) (λ m x f.
        held_or _ _ f (λ h g.
        let n = number_is bytes 0 m u x in
        let q : m.1 ≡ length (number m.0) = omega (arith, n.next) in
        let all : bytes ≡ number m.0 ++ drop (length (number m.0)) bytes = n.there ∙ ap (λ (a : ℕ). number m.0 ++ drop a bytes) q in
        stopped (blocks_from m.0 0 bytes m.1) _ why w g
        (λ i.
        along (λ place r.
        in_block m.0 r.0 r.1 (leb-true m.0 max_blocks h) all
        (subst (λ (a : ℕ). BlocksTo bytes m.0 0 a r.0 r.1) q r.2) r.3) (blocks_stop m.0 0 m.1 i))
        (λ gs y i. never _ i)))

  -- ---- and the other way round

  block_refused : (next start place : ℕ) → InBlock bytes next start place → number_at bytes place ≡ refused why w → block_from next bytes start ≡ refused why w
  unfolding block_from kind_from length_from and_then need
  block_refused next start place (its_number q) e =
      let f : number_at bytes start ≡ refused why w = rw q at e in
      rw f refl
  block_refused next start place (its_kind k low high d q) e =
      let n : number_at bytes start ≡ done (k, start + length (number k)) = number_at_lem bytes start k (drop place bytes) d (omega arith) in
      let f : number_at bytes (start + length (number k)) ≡ refused why w = rw q at e in
      rw (n, le-leb next k low, le-leb k max_block high, f) refl
  block_refused next start place (its_length k t low high kind d q) e =
      let n : number_at bytes start ≡ done (k, start + length (number k)) = number_at_lem bytes start k (number t ++ drop place bytes) d (omega arith) in
      let d2 : drop (start + length (number k)) bytes ≡ number t ++ drop place bytes =
      sym (drop-drop (length (number k)) start bytes) ∙ ap (drop (length (number k))) d ∙ drop-append_seam (number k) (number t ++ drop place bytes) in
      let n2 : number_at bytes (start + length (number k)) ≡ done (t, start + length (number k) + length (number t)) =
      number_at_lem bytes (start + length (number k)) t (drop place bytes) d2 (omega arith) in
      let f : number_at bytes (start + length (number k) + length (number t)) ≡ refused why w = rw q at e in
      rw (n, le-leb next k low, le-leb k max_block high, n2, le-leb t max_kind kind, f) refl

  blocks_refused : (gs : List Run) (m next at to place : ℕ) → AllFine gs → AscBlocks next gs → length gs < m → at ≤ length bytes
      → drop at bytes ≡ bytes_of set_block gs ++ drop to bytes → to ≡ at + length (bytes_of set_block gs) → InBlock bytes (end_of next gs) to place
      → number_at bytes place ≡ refused why w → blocks_from m next bytes at ≡ refused why w
  unfolding blocks_from bytes_of end_of and_then
  blocks_refused gs zero next at to place fine asc few a d q i e = absurd (omega arith)
  blocks_refused [] (suc m) next at to place fine asc few a d q i e =
      let same : to ≡ at = omega arith in
      let j : InBlock bytes next at place = subst (λ (n : ℕ). InBlock bytes next n place) same i in
      rw (block_refused next at place j e) refl
  blocks_refused (g ∷ gs) (suc m) next at to place fine asc few a d q i e =
      let rest : List ℕ = bytes_of set_block gs ++ drop to bytes in
      let here : drop at bytes ≡ set_block g ++ rest = d ∙ append_assoc (set_block g) (bytes_of set_block gs) (drop to bytes) in
      let k : Taken next at bytes g rest = taken next at bytes g rest fine.0 asc.0 a here in
      let size = ap length here ∙ length-append (set_block g) rest in
      let ends : set_end k.head ≡ at + length (set_block g) =
      omega (arith, size, ap length k.behind, k.inside, length-drop at bytes, length-drop (set_end k.head) bytes) in
      let ih : blocks_from m (suc g.block) bytes (set_end k.head) ≡ refused why w =
      blocks_refused gs m (suc g.block) (set_end k.head) to place fine.1 asc.1 (omega arith) k.inside k.behind
      (omega (arith, q, ends, length-append (set_block g) (bytes_of set_block gs))) i e in
      rw (k.read, k.block_is, ih) refl

  pub due_refused : (place : ℕ) → Due bytes place → number_at bytes place ≡ refused why w → set_ids bytes ≡ refused why w
  unfolding set_ids and_then need
  due_refused place (block_count q) e =
      let f : number_at bytes 0 ≡ refused why w = rw q at e in
      rw f refl
  due_refused place (in_block m start after most all b i) e =
      let n : number_at bytes 0 ≡ done (m, 0 + length (number m)) = number_at_lem bytes 0 m (drop (length (number m)) bytes) all (omega arith) in
      let z : 0 + length (number m) ≡ length (number m) = omega arith in
      let i2 : InBlock bytes (end_of 0 b.blocks) start place = subst (λ (k : ℕ). InBlock bytes k start place) b.last i in
      let inside : length (number m) ≤ length bytes = omega (arith, ap length all ∙ length-append (number m) (drop (length (number m)) bytes)) in
      let g : blocks_from m 0 bytes (length (number m)) ≡ refused why w =
      blocks_refused b.blocks m 0 (length (number m)) start place b.fine b.ascending b.fewer inside b.bytes_are b.place i2 e in
      rw (n, z, le-leb m max_blocks most, g) refl
