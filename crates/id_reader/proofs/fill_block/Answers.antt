-- `id_reader::fill_block` meets its contract, kind by kind. Assumes nothing.
use Rattle.format.specs.Kit.{◌≡◌, sym, ap, ◌∙◌, ℕ, ◌+◌, ◌*◌, arith, rules, length, drop}
use Rattle.format.specs.Bytes.{count_from}
use Rattle.format.specs.Ids.{rank_bytes, data_bytes}
use Rattle.format.specs.IdsRead.{shorts, places_in}
use Rattle.blocks.specs.Kinds.{kind_is}
use Rattle.id_reader.specs.Placed.{ids_from, word_bits}
use Rattle.id_reader.proofs.ByKind.{places_sparse, places_dense, places_all}
use Rattle.id_reader.proofs.fill_block.Goals as goal
use Rattle.id_reader.proofs.fill_block.Goals.{After-rank_bytes, In-All, In-Sparse}

sparse_is : (c : In-Sparse) → let a = c.args in
    (ids_from a.base (places_in a.p a.c (drop a.t a.s.now)) ≡ ids_from a.base (shorts a.c (drop a.t a.s.now))) ×
    (data_bytes a.p a.c ≡ 2 * a.c)
sparse_is c =
    let a = c.args in
    places_sparse a.p a.c a.s.now a.t a.base (sym c.kind_of-kind.ensures ∙ ap kind_is c.in-Sparse.is)

dense_is : (c : After-rank_bytes) → let a = c.args in
    (ids_from a.base (places_in a.p a.c (drop a.t a.s.now)) ≡ word_bits 1024 a.base a.s.now (a.t + c.rank_bytes.result)) ×
    (data_bytes a.p a.c ≡ rank_bytes a.p + 8192)
dense_is c =
    let a = c.args in
    let q =
    places_dense a.p a.c a.s.now a.t a.base (sym c.kind_of-kind.ensures ∙ ap kind_is c.in-Dense.is) in
    (q.0 ∙ ap (λ (x : ℕ). word_bits 1024 a.base a.s.now (a.t + x)) (sym c.rank_bytes.ensures.0), q.1)

all_is : (c : In-All) → let a = c.args in
    ids_from a.base (places_in a.p a.c (drop a.t a.s.now)) ≡ count_from 65536 a.base
all_is c =
    let a = c.args in
    places_all a.p a.c a.s.now a.t a.base (sym c.kind_of-kind.ensures ∙ ap kind_is c.in-All.is)

pub fill_sparse-requires : goal.fill_sparse-requires
fill_sparse-requires c = let q = sparse_is (goal.at.fill_sparse-requires c).In-Sparse in (search rules, omega (arith, q.1), omega (arith, ap length q.0))

pub fill_words-requires : goal.fill_words-requires
fill_words-requires c = let q = dense_is (goal.at.fill_words-requires c).After-rank_bytes in (omega arith, omega (arith, q.1), omega (arith, ap length q.0))

pub fill_all-requires : goal.fill_all-requires
fill_all-requires c = (omega arith, omega (arith, ap length (all_is (goal.at.fill_all-requires c).In-All)))

pub returns-in-Sparse : goal.returns-in-Sparse
returns-in-Sparse c = rw (sparse_is (goal.at.returns-in-Sparse c).In-Sparse).0 c.fill_sparse.ensures

pub returns-in-Dense : goal.returns-in-Dense
returns-in-Dense c = rw (dense_is (goal.at.returns-in-Dense c).After-rank_bytes).0 c.fill_words.ensures

pub returns-in-All : goal.returns-in-All
returns-in-All c = rw (all_is (goal.at.returns-in-All c).In-All) c.fill_all.ensures
