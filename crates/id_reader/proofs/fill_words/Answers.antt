-- `id_reader::fill_words` meets its contract: the ids that are left are the bits of n - i longs. Assumes nothing.
use Rattle.format.specs.Kit.{◌≡◌, ap, ◌∙◌, ◌++◌, ℕ, ◌+◌, ◌-◌, ◌*◌, ◌≤◌, arith, length}
use Rattle.format.specs.IdsRead.{set_bits}
use Rattle.laws.proofs.Stores.{part_more, room, filled}
use Rattle.id_reader.specs.Placed.{word_bits}
use Rattle.laws.proofs.Digits.{below_all}
use Rattle.id_reader.proofs.Words.{words_more, words_end}
use Rattle.id_reader.proofs.fill_words.Goals as goal
use Rattle.id_reader.proofs.fill_words.Goals.{After-long_at}

-- the long that was read, and those after it
word_on : (c : After-long_at) → let l = c.loop-i in let a = c.args in
    word_bits (a.n - l.i) (a.base + 64 * l.i) a.s.now (a.m + 8 * l.i)
    ≡ set_bits 64 (a.base + 64 * l.i) c.long_at.result ++ word_bits (a.n - (l.i + 1)) (a.base + 64 * (l.i + 1)) a.s.now (a.m + 8 * (l.i + 1))
word_on c =
    let l = c.loop-i in
    let a = c.args in
    let u = below_all 256 a.s.now (λ j. (c.type_inv.s j).fits) in
    let first = a.base + 64 * l.i in
    let e : first + 64 ≡ a.base + 64 * (l.i + 1) = omega arith in
    rw c.long_at.ensures (words_more a.n l.i first a.s.now a.m u c.requires.1 (omega arith))
    ∙ ap (λ (x : ℕ). set_bits 64 first c.long_at.result ++ word_bits (a.n - (l.i + 1)) x a.s.now (a.m + 8 * (l.i + 1))) e

pub fill_word-o-requires : goal.fill_word-o-requires
fill_word-o-requires c =
    let l = c.loop-i in
    let w = set_bits 64 (c.args.base + 64 * l.i) c.long_at.result in
    let r : l.o + length w ≤ length l.ids =
    room _ _ _ _ _ _ l.invariant w _ (word_on (goal.at.fill_word-o-requires c).After-long_at) c.requires.2 in
    (omega arith, r)

pub loop-i-preserved : goal.loop-i-preserved
loop-i-preserved c =
    let f = c.fill_word-o.ensures in
    part_more _ _ _ _ _ _ c.loop-i.invariant _ _ _ _ (word_on (goal.at.loop-i-preserved c).After-long_at) f.0 f.1

pub returns : goal.returns
returns c = filled _ _ _ _ _ _ c.loop-i.invariant (words_end _ _ _ _ (omega arith))
