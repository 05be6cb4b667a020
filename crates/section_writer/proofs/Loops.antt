-- The invariants of the loops over runs. Each holds since a turn takes the first run off what is left, and puts its bytes. Assumes nothing.
use Rattle.format.specs.Kit.{◌≡◌, refl, sym, ap, ◌∙◌, subst, List, [], append-nil, ℕ, suc, zero-add, ◌+◌, ◌-◌, ◌*◌, ◌/◌, ◌≤◌, zero-le, arith, length, get_or}
use Rattle.format.specs.Kit.{replicate, sets}
use Rattle.format.specs.Limits.{max_block}
use Rattle.format.specs.Bytes.{bytes_of}
use Rattle.format.specs.Ids.{Run, runs, block_bytes, entry_bytes, jumps_from}
use Rattle.format.specs.Runs.{AllFine, AscBlocks}
use Rattle.format.specs.Stores.{Fill}
use Rattle.laws.proofs.Section.{length_bytes_of_lem, entry_eight}
use Rattle.laws.proofs.Stores.{begun, part_more, room, filled, reached}
use Rattle.block_writer.specs.Part.{run_of}
use Rattle.section_writer.specs.Good.{Good, Begins}
use Rattle.section_writer.proofs.Steps.{fine_more, asc_more, bytes_more, bytes_none, jumps_more, length_equal, last_entry}

-- ---- blocks, of whatever bytes: those of the ids left go to place pos

pub record Written (ids : List ℕ) (f : Run → List ℕ) (out₀ : List ℕ) (at : ℕ) (left : List ℕ) (pos : ℕ) (out : List ℕ) : Type 0 where
  pub fine : AllFine (runs left)
  pub fill : Fill out₀ at (bytes_of f (runs ids)) out pos (bytes_of f (runs left))

pub written_none : {ids : List ℕ} {f : Run → List ℕ} {out₀ : List ℕ} {at : ℕ} → Good ids → Written ids f out₀ at ids at out₀
written_none g = record { fine = g.fine; fill = begun _ _ _ _ refl }

module _ {ids : List ℕ} {f : Run → List ℕ} {out₀ : List ℕ} {at : ℕ} {left : List ℕ} {pos : ℕ} {out : List ℕ} (g : Written ids f out₀ at left pos out) where
  module _ {run rest : List ℕ} (r : Begins left run rest) where
    pub block_room : at + length (bytes_of f (runs ids)) ≤ length out₀ → pos + length (f (run_of run)) ≤ length out
    block_room k = room _ _ _ _ _ _ g.fill (f (run_of run)) _ (bytes_more r f) k

    pub written_more : {n : ℕ} {out2 : List ℕ} → n ≡ length (f (run_of run)) → out2 ≡ sets out pos (f (run_of run))
        → Written ids f out₀ at rest (pos + n) out2
    written_more en eo =
        record {
          fine = (fine_more r g.fine).1;
          fill = part_more _ _ _ _ _ _ g.fill _ _ (f (run_of run)) _ (bytes_more r f) eo (ap (λ (n : ℕ). pos + n) en);
        }

  pub written_all : length left ≡ 0 → (out ≡ sets out₀ at (bytes_of f (runs ids))) × (pos ≡ at + length (bytes_of f (runs ids)))
  written_all k =
      let e = bytes_none f left k in
      (filled _ _ _ _ _ _ g.fill e, reached _ _ _ _ _ _ g.fill e)

-- ---- entries: those of block `next` and on are left for place pos

pub record Jumped (ids : List ℕ) (p : ℕ) (out₀ : List ℕ) (at : ℕ) (left : List ℕ) (ordinal next start pos : ℕ) (out : List ℕ) : Type 0 where
  pub counted : ordinal + length left ≡ length ids
  pub fine : AllFine (runs left)
  pub asc : AscBlocks next (runs left)
  pub small : start ≤ 9220 * next
  pub next_le : next ≤ suc max_block
  pub fill : Fill out₀ at (bytes_of entry_bytes (jumps_from p 0 0 0 (runs ids))) out pos (bytes_of entry_bytes (jumps_from p next ordinal start (runs left)))

pub jumped_none : {ids : List ℕ} {p : ℕ} {out₀ : List ℕ} {at : ℕ} → Good ids → Jumped ids p out₀ at ids 0 0 0 at out₀
jumped_none {ids} g =
    record { counted = zero-add (length ids); fine = g.fine; asc = g.asc; small = zero-le; next_le = zero-le; fill = begun _ _ _ _ refl }

module _ {ids : List ℕ} {p : ℕ} {out₀ : List ℕ} {at : ℕ} {left : List ℕ} {ordinal next start pos : ℕ} {out : List ℕ}
    (g : Jumped ids p out₀ at left ordinal next start pos out) where
  module _ {run rest : List ℕ} {b : ℕ} (r : Begins left run rest) (eb : b ≡ get_or run 0 0 / 65536) where
    pub above : next ≤ b
    above = omega (arith, (asc_more r g.asc).0)

    below : b ≤ max_block
    below = omega (arith, (fine_more r g.fine).0.number)

    pub entries_room : at + 8 * length (jumps_from p 0 0 0 (runs ids)) ≤ length out₀ → pos + 8 * (b + 1 - next) ≤ length out
    entries_room k =
        omega (
          arith,
          room _ _ _ _ _ _ g.fill (bytes_of entry_bytes (replicate (b + 1 - next) (ordinal, start))) _ (jumps_more r p next ordinal start eb refl)
              (omega (arith, length_bytes_of_lem 8 entry_bytes entry_eight (jumps_from p 0 0 0 (runs ids)))),
          length_equal (b + 1 - next) (ordinal, start),
        )

    pub jumped_more : {n : ℕ} {out2 : List ℕ} → n ≡ block_bytes p (length run) → n ≤ 9220
        → out2 ≡ sets out pos (bytes_of entry_bytes (replicate (b + 1 - next) (ordinal, start)))
        → Jumped ids p out₀ at rest (ordinal + length run) (b + 1) (start + n) (pos + 8 * (b + 1 - next)) out2
    jumped_more en hn eo =
        let e : suc (run_of run).block ≡ b + 1 = omega arith in
        record {
          counted = omega (arith, g.counted, r.whole);
          fine = (fine_more r g.fine).1;
          asc = subst (λ (x : ℕ). AscBlocks x (runs rest)) e (asc_more r g.asc).1;
          small = omega (arith, g.small, above);
          next_le = omega (arith, below);
          fill =
              part_more _ _ _ _ _ _ g.fill _ _ (bytes_of entry_bytes (replicate (b + 1 - next) (ordinal, start))) _ (jumps_more r p next ordinal start eb en) eo
              (omega (arith, length_equal (b + 1 - next) (ordinal, start)));
        }

  module _ (k : length left ≡ 0) where
    pub last_room : at + 8 * length (jumps_from p 0 0 0 (runs ids)) ≤ length out₀ → pos + 8 ≤ length out
    last_room l =
        omega (
          arith,
          room _ _ _ _ _ _ g.fill (entry_bytes (ordinal, start)) [] (last_entry p next ordinal start left k ∙ sym (append-nil (entry_bytes (ordinal, start))))
              (omega (arith, length_bytes_of_lem 8 entry_bytes entry_eight (jumps_from p 0 0 0 (runs ids)))),
          entry_eight (ordinal, start),
        )

    pub jumped_all : sets out pos (entry_bytes (ordinal, start)) ≡ sets out₀ at (bytes_of entry_bytes (jumps_from p 0 0 0 (runs ids)))
    jumped_all = ap (sets out pos) (sym (last_entry p next ordinal start left k)) ∙ g.fill.same
