-- The jump entries: the entry of block b counts the ids and the bytes of the blocks below b. Assumes nothing.
use Rattle.format.specs.Kit.{◌≡◌, refl, sym, ap, ◌∙◌, subst, cond, List, [], ◌∷◌, ◌++◌, ℕ, zero, suc, ◌+◌, ◌-◌, ◌*◌, ◌/◌, ◌%◌, ◌≤◌, le_trans}
use Rattle.format.specs.Kit.{add-zero, add_assoc, arith, ltb, length, get_or, replicate, length-append, length-replicate, get_or-replicate}
use Rattle.format.specs.Kit.{List·getD-append, get_or-append-add, lt-ltb, le-ltb, eq-eqb, ne_eqb}
use Rattle.format.specs.Ids.{Run, push, runs, block_bytes, Entry, jumps_from}
use Rattle.format.specs.Pairs.{Asc}
use Rattle.format.specs.Runs.{AscBlocks, end_of}
use Rattle.laws.proofs.Cases.{below_or, equal_or}
use Rattle.laws.proofs.Places.{asc_weaken}

-- ---- block numbers ascend

asc_push : (a b r : ℕ) (gs : List Run) → a ≤ b → AscBlocks b gs → AscBlocks a (push b r gs)
unfolding push
asc_push a b r [] h t = (h, tt)
asc_push a b r (g ∷ gs) h t =
    equal_or b g.block
    (λ e. rw (eq-eqb b g.block e) (h, subst (λ (n : ℕ). AscBlocks (suc n) gs) (sym e) t.1))
    (λ e. rw (ne_eqb b g.block e) (h, (omega (arith, t.0), t.1)))

pub asc_blocks : (a : ℕ) (ids : List ℕ) → Asc (a * 65536) ids → AscBlocks a (runs ids)
unfolding runs
asc_blocks a [] t = tt
asc_blocks a (i ∷ is) t =
    asc_push a (i / 65536) (i % 65536) (runs is) (omega (arith, t.0)) (asc_blocks (i / 65536) is (asc_weaken (omega arith) is t.1))

-- ---- how many entries

pub end_ge : (next : ℕ) (gs : List Run) → AscBlocks next gs → next ≤ end_of next gs
unfolding end_of
end_ge next [] t = omega arith
end_ge next (g ∷ gs) t = omega (arith, end_ge (suc g.block) gs t.1, t.0)

pub length_jumps : (p next o s : ℕ) (gs : List Run) → AscBlocks next gs → length (jumps_from p next o s gs) + next ≡ end_of next gs + 1
unfolding jumps_from end_of
length_jumps p next o s [] t = omega arith
length_jumps p next o s (g ∷ gs) t =
    omega (
      arith,
      t.0,
      length-append (replicate (suc g.block - next) (o, s))
          (jumps_from p (suc g.block) (o + length g.places) (s + block_bytes p (length g.places)) gs),
      length-replicate {A = Entry} (suc g.block - next) (o, s),
      length_jumps p (suc g.block) (o + length g.places) (s + block_bytes p (length g.places)) gs t.1,
    )

-- ---- what the entry of a block says

-- the sizes of the runs whose block is below b, by their counts: as ids, and as bytes
unfoldable pub under : (ℕ → ℕ) → ℕ → List Run → ℕ
under size b [] = 0
under size b (g ∷ gs) = cond (ltb g.block b) (size (length g.places)) 0 + under size b gs

abbrev pub ids_under : ℕ → List Run → ℕ
ids_under b gs = under (λ n. n) b gs

abbrev pub bytes_under : ℕ → ℕ → List Run → ℕ
bytes_under p b gs = under (block_bytes p) b gs

pub none_under : (size : ℕ → ℕ) (b next : ℕ) (gs : List Run) → b ≤ next → AscBlocks next gs → under size b gs ≡ 0
unfolding under
none_under size b next [] h t = refl
none_under size b next (g ∷ gs) h t =
    rw (le-ltb g.block b (le_trans h t.0), none_under size b (suc g.block) gs (omega (arith, t.0)) t.1)

pub pair : {a b c d : ℕ} → a ≡ b → c ≡ d → ◌≡◌ {A = Entry} (a, c) (b, d)
pair p q j = (p j, q j)

pub entry_is : (p next o s b i : ℕ) (d : Entry) (gs : List Run) → AscBlocks next gs → next + i ≡ b → b ≤ end_of next gs
    → get_or (jumps_from p next o s gs) i d ≡ (o + ids_under b gs, s + bytes_under p b gs)
unfolding jumps_from end_of under
entry_is p next o s b i d [] t e h =
    let z : i ≡ 0 = omega arith in
    rw z (pair (sym (add-zero o)) (sym (add-zero s)))
entry_is p next o s b i d (g ∷ gs) t e h =
    let rest : List Entry = jumps_from p (suc g.block) (o + length g.places) (s + block_bytes p (length g.places)) gs in
    let k : ℕ = suc g.block - next in
    let rep : List Entry = replicate k (o, s) in
    below_or g.block b
    (λ l.
    let at : i ≡ length rep + (i - k) = omega (arith, length-replicate {A = Entry} k (o, s), t.0) in
    rw (lt-ltb g.block b l)
    (ap (λ (n : ℕ). get_or (rep ++ rest) n d) at
    ∙ get_or-append-add rep rest (i - k) d
    ∙ entry_is p (suc g.block) (o + length g.places) (s + block_bytes p (length g.places)) b (i - k) d gs t.1 (omega (arith, t.0)) h
    ∙ pair (add_assoc o (length g.places) (ids_under b gs)) (add_assoc s (block_bytes p (length g.places)) (bytes_under p b gs))))
    (λ l.
    rw (
      le-ltb g.block b l,
      none_under (λ n. n) b (suc g.block) gs (omega arith) t.1,
      none_under (block_bytes p) b (suc g.block) gs (omega arith) t.1,
    )
    (List·getD-append rep rest d i (omega (arith, length-replicate {A = Entry} k (o, s), t.0))
    ∙ get_or-replicate k i (o, s) d (omega (arith, t.0))
    ∙ pair (sym (add-zero o)) (sym (add-zero s))))

-- ---- the number after the last block of ids

end_push : (next b r : ℕ) (gs : List Run) → end_of next (push b r gs) ≡ end_of (suc b) gs
unfolding push end_of
end_push next b r [] = refl
end_push next b r (g ∷ gs) = equal_or b g.block (λ e. rw (eq-eqb b g.block e, e)) (λ e. rw (ne_eqb b g.block e))

pub end_nil : (next : ℕ) → end_of next (runs []) ≡ next
unfolding runs end_of
end_nil next = refl

pub end_last : (next n : ℕ) (ids : List ℕ) → length ids ≡ suc n → end_of next (runs ids) ≡ suc (get_or ids n 0 / 65536)
unfolding runs
end_last next n [] e = absurd (omega arith)
end_last next zero (x ∷ []) e = end_push next (x / 65536) (x % 65536) (runs []) ∙ end_nil (suc (x / 65536))
end_last next zero (x ∷ y ∷ ys) e = absurd (omega arith)
end_last next (suc n) (x ∷ xs) e = end_push next (x / 65536) (x % 65536) (runs xs) ∙ end_last (suc (x / 65536)) n xs (omega arith)
