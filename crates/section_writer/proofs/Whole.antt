-- The section as a whole: the bounds of its length, and its bytes in three parts. Assumes nothing.
use Rattle.format.specs.Kit.{◌≡◌, refl, sym, ap, ◌∙◌, List, [], ◌++◌, ℕ, suc, ◌+◌, ◌≤◌, zero-le, arith, length, sets, ne_eqb, eq-eqb}
use Rattle.format.specs.Limits.{Power, max_id}
use Rattle.format.specs.Bytes.{bytes_of}
use Rattle.format.specs.Ids.{runs, block_of, end_block, Entry, entry_bytes, jumps_from, not_two, jumps, blocks, id_section}
use Rattle.format.specs.Pairs.{Below, Asc}
use Rattle.format.specs.Runs.{end_of, total_bytes}
use Rattle.laws.proofs.Section.{length_blocks}
use Rattle.laws.proofs.Jumps.{length_jumps, asc_blocks}
use Rattle.laws.proofs.Bounds.{total_le, end_le}
use Rattle.laws.proofs.Runs.{fine_runs}
use Rattle.laws.proofs.Sizes.{rank_max}
use Rattle.laws.proofs.Stores.{sets_then}
use Rattle.section_writer.specs.Good.{Good}

pub good : {ids : List ℕ} → Asc 0 ids → Below (suc max_id) ids → Good ids
good {ids} t u = record { fine = fine_runs ids t u; asc = asc_blocks 0 ids t; up = t }

end_six : length end_block ≡ 6
unfolding end_block
end_six = refl

module _ {p : ℕ} {ids : List ℕ} (g : Good ids) where
  pub total_small : Power p → total_bytes p (runs ids) ≤ 302102520
  total_small h = omega (arith, total_le p 0 (runs ids) (rank_max p h) g.asc, end_le 0 (runs ids) zero-le g.fine)

module _ (p : ℕ) {ids : List ℕ} (g : Good ids) where
  count_is : length (jumps_from p 0 0 0 (runs ids)) ≡ end_of 0 (runs ids) + 1
  count_is = omega (arith, length_jumps p 0 0 0 (runs ids) g.asc)

  pub jumps_two : end_of 0 (runs ids) + 1 ≡ 2 → jumps p ids ≡ []
  unfolding jumps not_two
  jumps_two e = rw (eq-eqb (length (jumps_from p 0 0 0 (runs ids))) 2 (count_is ∙ e))

  pub jumps_other : (end_of 0 (runs ids) + 1 ≡ 2 → ⊥) → jumps p ids ≡ jumps_from p 0 0 0 (runs ids)
  unfolding jumps not_two
  jumps_other e = rw (ne_eqb (length (jumps_from p 0 0 0 (runs ids))) 2 (λ q. e (sym count_is ∙ q)))

  pub length_other : (end_of 0 (runs ids) + 1 ≡ 2 → ⊥) → length (jumps p ids) ≡ end_of 0 (runs ids) + 1
  length_other e = ap length (jumps_other e) ∙ count_is

  -- blocks and end block, laid at a place
  abbrev ended : List ℕ → ℕ → List ℕ
  ended out at = sets (sets out at (bytes_of (block_of p) (runs ids))) (at + total_bytes p (runs ids)) end_block

  module _ (out : List ℕ) (at : ℕ) (h : p ≤ 16) where
    section_is : sets out at (id_section p ids) ≡ sets (ended out at) (at + total_bytes p (runs ids) + 6) (bytes_of entry_bytes (jumps p ids))
    unfolding id_section blocks
    section_is =
        let total : ℕ = total_bytes p (runs ids) in
        let es : List ℕ = bytes_of entry_bytes (jumps p ids) in
        sets_then out at (at + total) (bytes_of (block_of p) (runs ids)) (end_block ++ es) (ap (λ (n : ℕ). at + n) (length_blocks p (runs ids) h))
        ∙ sets_then (sets out at (bytes_of (block_of p) (runs ids))) (at + total) (at + total + 6) end_block es (ap (λ (n : ℕ). at + total + n) end_six)

    pub section_other : (end_of 0 (runs ids) + 1 ≡ 2 → ⊥)
        → sets (ended out at) (at + total_bytes p (runs ids) + 6) (bytes_of entry_bytes (jumps_from p 0 0 0 (runs ids))) ≡ sets out at (id_section p ids)
    section_other e =
        sym
        (section_is
        ∙ ap (λ (es : List Entry). sets (ended out at) (at + total_bytes p (runs ids) + 6) (bytes_of entry_bytes es)) (jumps_other e))

    pub section_two : end_of 0 (runs ids) + 1 ≡ 2 → ended out at ≡ sets out at (id_section p ids)
    unfolding bytes_of
    section_two e =
        sym (section_is ∙ ap (λ (es : List Entry). sets (ended out at) (at + total_bytes p (runs ids) + 6) (bytes_of entry_bytes es)) (jumps_two e))
