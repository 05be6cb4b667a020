-- The second pass, over blocks that were judged: the jump entries. At each turn the runs ahead stand at the place, and the entries that are
-- left are theirs; a block's entries are one and the same, so a turn passes them at once. Assumes nothing.
use Rattle.format.specs.Kit.{◌≡◌, refl, sym, ap, ap₂, ◌∙◌, Bool, true, false, List, [], ◌∷◌, ◌++◌, ℕ, suc, ◌+◌, ◌-◌, ◌*◌, ◌<◌, ◌≤◌, zero-le, add-zero}
use Rattle.format.specs.Kit.{add-one, arith, length, take, drop, replicate, get_or, lt-ltb, le-ltb}
use Rattle.format.specs.Limits.{Power, max_block}
use Rattle.format.specs.Refusals.{done, refused, need}
use Rattle.format.specs.Bytes.{same}
use Rattle.format.specs.Ids.{Run, Entry, block_bytes, runs, jumps_from}
use Rattle.format.specs.Runs.{total_bytes, AllFine, AscBlocks, end_of}
use Rattle.format.specs.Orders.{Order, fixed_at, entry_in}
use Rattle.format.specs.Judge.{jump_wrong, Ended, judge_from, jumps_in, judge_entries}
use Rattle.laws.proofs.Bounds.{total_le, end_le, block_le}
use Rattle.laws.proofs.Digits.{below_all}
use Rattle.laws.proofs.Jumps.{asc_blocks, length_jumps}
use Rattle.laws.proofs.Runs.{fine_runs}
use Rattle.laws.proofs.Sizes.{block_total, rank_max}
use Rattle.judge.proofs.Standing.{BlocksAt, Ahead, ahead}
use Rattle.judge.proofs.Built.{comes}
use Rattle.judge.proofs.Judged.{closed, long, jumps_are}
use Rattle.section_check.specs.Reasons.{Repeats}

-- block i is next, at the place `at`, with o ids before it
pub record Trail (ord : Order) (p : ℕ) (s : List ℕ) (start : ℕ) (whole : List Entry) (at o i : ℕ) : Type 0 where
  pub gs : List Run
  pub rest : List ℕ
  pub stands : BlocksAt ord p s at gs rest
  pub asc : AscBlocks i gs
  pub total : start ≡ at + total_bytes p gs
  pub same : judge_entries ord whole s (start + 6) ≡ judge_entries ord (jumps_from p i o at gs) s (start + 6 + 8 * i)
  pub few : o ≤ 65536 * i
  pub low : at ≤ 9220 * i
  pub most : i ≤ 32766
  pub near : start ≤ 302102520

-- a block ahead, of number k and c ids: the entries i to k are (o, at)
pub record Here (ord : Order) (p : ℕ) (s : List ℕ) (start : ℕ) (whole : List Entry) (at o i k c : ℕ) : Type 0 where
  pub after : i ≤ k
  pub most : k ≤ max_block
  pub inside : at + block_bytes p c ≤ start
  pub head : at + 4 ≤ length s
  pub stop : (n r x : ℕ) → n ≡ k + 1 - i → x ≡ at → r < n → Repeats ord s (start + 6 + 8 * i) n o x r
      → refused jump_wrong (start + 6 + 8 * i + 8 * r) ≡ judge_entries ord whole s (start + 6)
  pub on : (n r x to : ℕ) → n ≡ k + 1 - i → x ≡ at → r ≡ n → to ≡ at + block_bytes p c → Repeats ord s (start + 6 + 8 * i) n o x r
      → Trail ord p s start whole to (o + c) (k + 1)

repeats_stop : (ord : Order) (s : List ℕ) (from n o at r : ℕ) (more : List Entry) → r < n → Repeats ord s from n o at r
    → judge_entries ord (replicate n (o, at) ++ more) s from ≡ refused jump_wrong (from + 8 * r)
unfolding Repeats
repeats_stop ord s from n o at r more h t = t more ∙ rw (lt-ltb r n h) refl

repeats_on : (ord : Order) (s : List ℕ) (from n o at r : ℕ) (more : List Entry) → r ≡ n → Repeats ord s from n o at r
    → judge_entries ord (replicate n (o, at) ++ more) s from ≡ judge_entries ord more s (from + 8 * n)
unfolding Repeats
repeats_on ord s from n o at r more h t = t more ∙ rw (le-ltb r n (omega arith)) refl

module _ (ord : Order) (p : ℕ) (ok : Power p) (s : List ℕ) (start : ℕ) (whole : List Entry) where
  module _ (at o i : ℕ) (t : Trail ord p s start whole at o i) where
    module _ (g : Run) (gs : List Run) (stands : BlocksAt ord p s at (g ∷ gs) t.rest) (asc : AscBlocks i (g ∷ gs))
        (total : start ≡ at + (block_bytes p (length g.places) + total_bytes p gs))
        (same : judge_entries ord whole s (start + 6) ≡ judge_entries ord (jumps_from p i o at (g ∷ gs)) s (start + 6 + 8 * i)) where
      abbrev k : ℕ
      k = g.block

      abbrev c : ℕ
      c = length g.places

      first : Ahead ord p s at g gs t.rest
      first = ahead ord p (omega (arith, ok.most)) s at g gs t.rest stands

      -- the entries of the blocks after this one
      abbrev more : List Entry
      more = jumps_from p (suc k) (o + c) (at + block_bytes p c) gs

      chain : (n x : ℕ) → n ≡ k + 1 - i → x ≡ at
          → judge_entries ord whole s (start + 6) ≡ judge_entries ord (replicate n (o, x) ++ more) s (start + 6 + 8 * i)
      unfolding jumps_from
      chain n x q h =
          let z : suc k - i ≡ n = omega arith in
          same ∙ ap₂ (λ (m y : ℕ). judge_entries ord (replicate m (o, y) ++ more) s (start + 6 + 8 * i)) z (sym h)

      next : (n r x to : ℕ) → n ≡ k + 1 - i → x ≡ at → r ≡ n → to ≡ at + block_bytes p c → Repeats ord s (start + 6 + 8 * i) n o x r
          → Trail ord p s start whole to (o + c) (k + 1)
      next n r x to q h f d v =
          let y : start + 6 + 8 * i + 8 * n ≡ start + 6 + 8 * suc k = omega (arith, asc.0) in
          rw (d, add-one k)
          (record {
            gs = gs;
            rest = t.rest;
            stands = first.after;
            asc = asc.1;
            total = omega (arith, total);
            same = chain n x q h ∙ repeats_on ord s (start + 6 + 8 * i) n o x r more f v ∙ ap (judge_entries ord more s) y;
            few = omega (arith, t.few, asc.0, first.few);
            low = omega (arith, t.low, asc.0, block_le p c (rank_max p ok));
            most = omega (arith, first.fine.number);
            near = t.near;
          })

      the_block : (l m : ℕ) → l ≡ fixed_at ord 2 s at → m ≡ fixed_at ord 2 s (at + 2) + 1 → Here ord p s start whole at o i l m
      the_block l m el em =
          rw (el ∙ first.number, em ∙ add-one (fixed_at ord 2 s (at + 2)) ∙ first.count)
          (record {
            after = asc.0;
            most = omega (arith, first.fine.number);
            inside = omega (arith, total);
            head = omega (arith, first.inside, block_total p c);
            stop = λ n r x q y f v. sym (chain n x q y ∙ repeats_stop ord s (start + 6 + 8 * i) n o x r more f v);
            on = next;
          })

    pub trail_here : at < start → (k c : ℕ) → k ≡ fixed_at ord 2 s at → c ≡ fixed_at ord 2 s (at + 2) + 1 → Here ord p s start whole at o i k c
    unfolding total_bytes
    trail_here h k c ek ec = go t.gs t.stands t.asc t.total t.same
      where
        go : (l : List Run) → BlocksAt ord p s at l t.rest → AscBlocks i l → start ≡ at + total_bytes p l
            → judge_entries ord whole s (start + 6) ≡ judge_entries ord (jumps_from p i o at l) s (start + 6 + 8 * i) → Here ord p s start whole at o i k c
        go [] st asc total same = absurd (omega arith)
        go (g ∷ gs) st asc total same = the_block g gs st asc total same k c ek ec

    none_left : start ≤ at → (x : ℕ) → x ≡ at → judge_entries ord whole s (start + 6) ≡ judge_entries ord ((o, x) ∷ []) s (start + 6 + 8 * i)
    unfolding total_bytes jumps_from
    none_left h x q = rw q (go t.gs t.total t.same)
      where
        go : (l : List Run) → start ≡ at + total_bytes p l
            → judge_entries ord whole s (start + 6) ≡ judge_entries ord (jumps_from p i o at l) s (start + 6 + 8 * i)
            → judge_entries ord whole s (start + 6) ≡ judge_entries ord ((o, at) ∷ []) s (start + 6 + 8 * i)
        go [] total same = same
        go (g ∷ gs) total same = absurd (omega (arith, block_total p (length g.places)))

    -- the end block's entry, which was found to be right, or wrong
    module _ (h : start ≤ at) (x : ℕ) (q : x ≡ at) {r : Bool} (test : r ≡ same (take 8 (drop (start + 6 + 8 * i) s)) (entry_in ord (o, x))) where
      pub last_right : r ≡ true → done (start + 6 + 8 * i + 8) ≡ judge_entries ord whole s (start + 6)
      unfolding judge_entries need
      last_right e = sym (none_left h x q ∙ rw (sym test ∙ e))

      pub last_wrong : r ≡ false → refused jump_wrong (start + 6 + 8 * i) ≡ judge_entries ord whole s (start + 6)
      unfolding judge_entries need
      last_wrong e = sym (none_left h x q ∙ rw (sym test ∙ e))

-- what the first pass leaves: the end block stands in the section, there is an entry for each number to the last and one for the end, and the
-- second pass may begin
pub record Past (ord : Order) (p : ℕ) (s : List ℕ) (e : Ended) : Type 0 where
  pub fits : e.start + 6 ≤ length s
  pub most : e.next ≤ 32766
  pub long : length (jumps_in ord p s) ≡ e.next + 1
  pub begin : Trail ord p s e.start (jumps_in ord p s) 0 0 0

pub past : (ord : Order) (p : ℕ) → Power p → (s : List ℕ) → ((i : ℕ) → get_or s i 0 < 256) → (e : Ended)
    → judge_from (suc (length s)) ord p s 0 0 0 ≡ done e → Past ord p s e
past ord p ok s u e h =
    let c = closed ord p ok s e (comes ord p ok s (below_all 256 s u) (suc (length s)) 0 0 0 (omega arith) (done e) h) in
    let b = c.before in
    let gs : List Run = runs b.ids in
    let fine : AllFine gs = fine_runs b.ids b.ascending b.range in
    let asc : AscBlocks 0 gs = asc_blocks 0 b.ids b.ascending in
    let own : jumps_in ord p s ≡ jumps_from p 0 0 0 gs = jumps_are ord p ok s e.start e.count e.next c in
    let last : end_of 0 gs ≤ 32766 = end_le 0 gs zero-le fine in
    record {
      fits = omega (arith, long ord p ok s e.start e.count e.next c);
      most = omega (arith, b.last);
      long = ap length own ∙ omega (arith, length_jumps p 0 0 0 gs asc, b.last);
      begin =
          record {
            gs = gs;
            rest = drop e.start s;
            stands = record { fine = fine; bytes = b.bytes };
            asc = asc;
            total = omega (arith, b.place);
            same = ap₂ (λ (l : List Entry) (x : ℕ). judge_entries ord l s x) own (sym (add-zero (e.start + 6)));
            few = zero-le;
            low = zero-le;
            most = zero-le;
            near = omega (arith, b.place, total_le p 0 gs (rank_max p ok) asc);
          };
    }
