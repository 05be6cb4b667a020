-- Longs that follow each other are ids in a row, and what comes after them. Assumes nothing.
use Rattle.format.specs.Kit.{◌≡◌, refl, sym, ap, ◌∙◌, List, [], ◌∷◌, ◌++◌, ℕ, zero, suc, ◌+◌, ◌-◌, ◌*◌, ◌/◌, ◌≤◌, ◌<◌, arith, ones_in, count_trailing_zeros}
use Rattle.format.specs.Kit.{ℤ, length, take, length-take, take_all, sets}
use Rattle.format.specs.Limits.{Power}
use Rattle.format.specs.Refusals.{refused, BROKEN}
use Rattle.format.specs.Ids.{dense, kind_of, rank_bytes}
use Rattle.format.specs.Opening.{Opened, id_part, value_of}
use Rattle.format.specs.Drawn.{drawn}
use Rattle.format.specs.Next.{next_steps}
use Rattle.format.specs.ReadFrom.{id_after}
use Rattle.blocks.specs.declared.Block.{Block}
use Rattle.laws.proofs.Drawn.{drawn_most}
use Rattle.read_in_block.specs.Parts.{Reads}
use Rattle.read_in_block.specs.Rows.{bits_from, bits_at, longs_from, ones_ahead, place_after}
use Rattle.read_in_block.specs.Stretch.{InBlock, InLong, InLongs, LongsTo}
use Rattle.read_in_block.specs.declared.dense.Longs as Lo
use Rattle.read_in_block.proofs.Longs.{dense_pass, dense_pair}
use Rattle.read_in_block.proofs.BitRows.{last_index, ones_left, bit_left, bit_passed, none_left}
use Rattle.read_in_block.proofs.LongIds.{longs_length, longs_front}
use Rattle.read_in_block.proofs.Rows.{InRow, RowTo, row, after_none}

after_append : (u : ℕ) (xs ys : List ℕ) → id_after u (xs ++ ys) ≡ id_after (id_after u xs) ys
unfolding id_after
after_append u [] ys = refl
after_append u (x ∷ xs) ys = after_append (suc x) xs ys

module _ (bytes : List ℕ) (c : Opened) where
  row_start : (t t' x : ℕ) (xs : List ℕ) → next_steps bytes c t' ≡ next_steps bytes c t → InRow bytes c t' x xs → InRow bytes c t x xs
  row_start t t' x [] e r = refl
  row_start t t' x (id ∷ ids) e r = (sym e ∙ r.0, r.1)

  after_same : (t t' : ℕ) (xs : List ℕ) → next_steps bytes c t' ≡ next_steps bytes c t → next_steps bytes c (id_after t' xs) ≡ next_steps bytes c (id_after t xs)
  unfolding id_after
  after_same t t' [] e = e
  after_same t t' (x ∷ xs) e = refl

module _ (bytes : List ℕ) (c : Opened) (b : ℕ) (v : Block) (w : InBlock bytes c b v) (d : kind_of v.count ≡ dense) (s : List ℕ)
    (i : id_part bytes c ≡ s) (p : ℕ) (q : p ≡ c.head.power) (h : Power p) where
  abbrev at : ℕ
  at = v.start + rank_bytes p

  module _ (k : ℕ) where
    -- all bits that are left in a long, and a row from the place after it on
    bits_then : (n r rest inner j : ℕ) (x : InLong p s v.start k r rest inner) (more : List ℕ) → inner + n ≡ last_index p h s v.start k
        → inner + n ≤ v.count → j ≡ 64 * k + 64 → InRow bytes c (b * 65536 + j) (v.ordinal + (inner + n)) more
        → InRow bytes c (b * 65536 + r) (v.ordinal + inner) (bits_from b r rest n ++ more)
    unfolding bits_from
    bits_then zero r rest inner j x more e l f u =
        let z : inner + 0 ≡ inner = omega arith in
        let pass = dense_pass bytes c b v w d s i p q h k r rest inner x _ refl (none_left p h s v.start k r rest inner x (omega (arith, e))) in
        row_start bytes c _ _ _ more (rw f pass) (rw z at u)
    bits_then (suc n) r rest inner j x more e l f u =
        let y : ℕ = r + count_trailing_zeros 64 rest in
        let up : b * 65536 + suc y ≡ suc (b * 65536 + y) = omega arith in
        let o : v.ordinal + suc inner ≡ suc (v.ordinal + inner) = omega arith in
        let one : inner + suc n ≡ suc inner + n = omega arith in
        let g = bit_left p h s v.start k r rest inner x (omega (arith, e)) in
        let past = bit_passed p h s v.start k r rest inner x g in
        let row = bits_then n (suc y) _ (suc inner) j past more (omega (arith, e)) (omega (arith, l)) f (rw one at u) in
        ((dense_pair bytes c b v w d s i p q h k r rest inner x y refl g (omega (arith, l)) refl).0, rw (up, o) at row)

    bits_end : (n r rest inner j : ℕ) (x : InLong p s v.start k r rest inner) → inner + n ≡ last_index p h s v.start k → j ≡ 64 * k + 64
        → next_steps bytes c (b * 65536 + j) ≡ next_steps bytes c (id_after (b * 65536 + r) (bits_from b r rest n))
    unfolding bits_from id_after
    bits_end zero r rest inner j x e f =
        rw f (dense_pass bytes c b v w d s i p q h k r rest inner x _ refl (none_left p h s v.start k r rest inner x (omega (arith, e))))
    bits_end (suc n) r rest inner j x e f =
        let y : ℕ = r + count_trailing_zeros 64 rest in
        let up : b * 65536 + suc y ≡ suc (b * 65536 + y) = omega arith in
        let g = bit_left p h s v.start k r rest inner x (omega (arith, e)) in
        let row = bits_end n (suc y) _ (suc inner) j (bit_passed p h s v.start k r rest inner x g) (omega (arith, e)) f in
        rw up at row

  pub longs_in_row : (n k r inner : ℕ) → InLongs p s v.start n k r inner → inner + ones_ahead s at n k r ≤ v.count
      → InRow bytes c (b * 65536 + r) (v.ordinal + inner) (longs_from s at b n k r)
  unfolding longs_from ones_ahead
  longs_in_row zero k r inner x l = refl
  longs_in_row (suc n) k r inner x l =
      let rest : ℕ = bits_at s at k r in
      bits_then k (ones_in 64 rest) r rest inner (64 * suc k) x.0 _ (ones_left p h s v.start k r rest inner x.0) (omega (arith, l)) (omega arith)
      (longs_in_row n (suc k) (64 * suc k) (inner + ones_in 64 rest) x.1 (omega (arith, l)))

  place_is : (n k : ℕ) → place_after n (suc k) (64 * suc k) ≡ 64 * (k + suc n)
  place_is zero k = omega arith
  place_is (suc n) k = omega arith

  -- what comes next after them
  pub longs_end : (n k r inner : ℕ) → InLongs p s v.start n k r inner
      → next_steps bytes c (b * 65536 + place_after n k r) ≡ next_steps bytes c (id_after (b * 65536 + r) (longs_from s at b n k r))
  unfolding longs_from
  longs_end zero k r inner x = ap (next_steps bytes c) (sym (after_none (b * 65536 + r)))
  longs_end (suc n) k r inner x =
      let rest : ℕ = bits_at s at k r in
      let xs : List ℕ = bits_from b r rest (ones_in 64 rest) in
      let ys : List ℕ = longs_from s at b n (suc k) (64 * suc k) in
      let one = bits_end k (ones_in 64 rest) r rest inner (64 * suc k) x.0 (ones_left p h s v.start k r rest inner x.0) (omega arith) in
      let more = longs_end n (suc k) (64 * suc k) (inner + ones_in 64 rest) x.1 in
      ap (λ (y : ℕ). next_steps bytes c (b * 65536 + y)) (sym (place_is n k)) ∙ more
      ∙ after_same bytes c (id_after (b * 65536 + r) xs) (b * 65536 + 64 * suc k) ys one
      ∙ ap (next_steps bytes c) (sym (after_append (b * 65536 + r) xs ys))

  -- ---- read: as many ids as values came

  module _ (room from r inner most : ℕ) (l : Lo.Longs) (to : LongsTo p s v.start r inner most l) (m : from ≤ room) (few : most ≤ room - from)
      (some : inner + most ≤ v.count) where
    abbrev longs : List ℕ
    longs = longs_from s at b to.number (r / 64) r

    abbrev pub ahead : List ℕ
    ahead = longs_from s at b (1024 - r / 64) (r / 64) r

    long : length longs ≡ l.ones
    long = longs_length s at b to.number (r / 64) r ∙ sym to.ones

    front : (z : ℕ) → z ≤ l.ones → take z ahead ≡ take z longs
    front z u = longs_front s at b to.number (1024 - r / 64) (r / 64) r z (omega (arith, to.upto)) (omega (arith, u, to.ones))

    pub ahead_long : (z : ℕ) → z ≤ l.ones → z ≤ length ahead
    ahead_long z u = omega (arith, u, long, length-take z ahead, length-take z longs, ap length (front z u))

    pub longs_read : (ids ids' : List ℕ) (vs vs' : List ℤ) (end n x y : ℕ) → end ≡ from + l.ones → x ≡ v.ordinal + inner
        → n ≡ from + length (drawn (value_of bytes c) (end - from) x) → vs' ≡ sets vs from (drawn (value_of bytes c) (end - from) x)
        → b * 65536 + y ≡ id_after (b * 65536 + r) (take (n - from) ahead) → ids' ≡ sets ids from (take (n - from) ahead)
        → Reads bytes c room from (b * 65536 + r) ids vs n (b * 65536 + y) ids' vs' × (n < end → next_steps bytes c (b * 65536 + y) ≡ refused BROKEN 0)
        × (n ≡ end → next_steps bytes c (b * 65536 + l.place) ≡ next_steps bytes c (b * 65536 + y))
    longs_read ids ids' vs vs' end n x y ee ex en ev ey es =
        let t : ℕ = b * 65536 + r in
        let d : List ℤ = drawn (value_of bytes c) (end - from) x in
        let z : ℕ = length d in
        let ones : length longs ≡ end - from = long ∙ omega (arith, ee) in
        let most : z ≤ end - from = drawn_most (value_of bytes c) (end - from) x in
        let in_row = longs_in_row to.number (r / 64) r inner to.follow (omega (arith, to.ones, to.few, some)) in
        let w = row bytes c room longs t (v.ordinal + inner) from ids vs (omega (arith, long, to.few, few, m)) in_row in
        let u : RowTo bytes c room t from ids vs longs d = rw (ones, ← ex) at w in
        let e2 : n - from ≡ z = omega (arith, en) in
        let tk : take (n - from) ahead ≡ take z longs = ap (λ (j : ℕ). take j ahead) e2 ∙ front z (omega (arith, most, ee)) in
        let e3 : ids' ≡ sets ids from (take z longs) = es ∙ ap (sets ids from) tk in
        let e5 : b * 65536 + y ≡ id_after t (take z longs) = ey ∙ ap (id_after t) tk in
        let w1 = u.reads in
        let w2 = u.stops in (
          rw (en, e3, ev, e5) w1,
          λ g. rw e5 (w2 (omega (arith, g, ones, en, ee))),
          λ g.
              let all : take z longs ≡ longs = take_all z longs (omega (arith, g, en, ee, long)) in
              ap (λ (j : ℕ). next_steps bytes c (b * 65536 + j)) to.place ∙ longs_end to.number (r / 64) r inner to.follow
              ∙ ap (λ (xs : List ℕ). next_steps bytes c (id_after t xs)) (sym all) ∙ ap (next_steps bytes c) (sym e5),
        )
