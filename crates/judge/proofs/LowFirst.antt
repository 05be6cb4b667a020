-- Low byte first the section is document 01's, so that the judge accepts exactly our id sections; the ids of one are what its runs are read
-- back to. Assumes nothing.
use Rattle.format.specs.Kit.{◌≡◌, refl, sym, ap, ap₂, ◌∙◌, subst, List, [], ◌∷◌, ◌++◌, ℕ, zero, suc, ◌-◌, ◌*◌, ◌≤◌, arith, length, take, drop}
use Rattle.format.specs.Limits.{Power}
use Rattle.format.specs.Refusals.{done}
use Rattle.format.specs.Bytes.{digits, low, from_low, bytes_of}
use Rattle.format.specs.Ids.{Run, Entry, by_kind, kind_of, rank_table, bitmap, block_data, block_of, end_block, entry_bytes, runs, jumps, blocks, id_section}
use Rattle.format.specs.IdsRead.{shorts, read_runs, ids_of}
use Rattle.format.specs.LookUp.{ones_from}
use Rattle.format.specs.Pairs.{Below, Asc}
use Rattle.format.specs.Orders.{low_byte, numbers_in, longs_in, block_data_in, block_in, end_in, entry_in, id_section_in}
use Rattle.format.specs.Judge.{judge}
use Rattle.laws.proofs.Blocks.{read_runs_lem}
use Rattle.laws.proofs.Halves.{SectionOf}
use Rattle.laws.proofs.RoundTrip.{runs_le}
use Rattle.laws.proofs.Runs.{fine_runs, ids_runs}
use Rattle.laws.proofs.Standing.{Stands, stands_long}
use Rattle.judge.proofs.Numbers.{numbers_below, numbers_bytes}
use Rattle.judge.proofs.Longs.{longs_low, ones_upto}
use Rattle.judge.proofs.Ranks.{ones_all}
use Rattle.judge.proofs.Judged as J

-- ---- shorts and longs

pub shorts_low : (c : ℕ) (d : List ℕ) → numbers_in low_byte 2 c d ≡ shorts c d
unfolding numbers_in shorts
shorts_low zero d = refl
shorts_low (suc c) d = ap (λ (l : List ℕ). from_low (take 2 d) ∷ l) (shorts_low c (drop 2 d))

module _ (c : ℕ) (d : List ℕ) (h : 2 * c ≤ length d) (t : Below 256 d) where
  pub shorts_below : Below 65536 (shorts c d)
  shorts_below = subst (Below 65536) (shorts_low c d) (numbers_below low_byte 2 c d h t)

  pub shorts_bytes : bytes_of (low 2) (shorts c d) ++ drop (2 * c) d ≡ d
  shorts_bytes = ap (λ (l : List ℕ). bytes_of (low 2) l ++ drop (2 * c) d) (sym (shorts_low c d)) ∙ numbers_bytes low_byte 2 c d h t

-- the ones of a bitmap that stands at m
pub ones_low : (s : List ℕ) (m : ℕ) (rs rest : List ℕ) → Asc 0 rs → drop m s ≡ low 8192 (bitmap rs) ++ rest → Below 65536 rs
    → ones_from s m 1024 0 ≡ length rs
unfolding longs_in
ones_low s m rs rest asc here u =
    let longs : drop m s ≡ longs_in low_byte (bitmap rs) ++ rest = here ∙ ap (λ (l : List ℕ). l ++ rest) (sym (longs_low 1024 (bitmap rs))) in
    ones_all s m rs asc (ones_upto low_byte s m rs rest asc longs) u

-- ---- the section

block_low : (p : ℕ) (g : Run) → block_in low_byte p g ≡ block_of p g
unfolding block_in block_of block_data_in block_data longs_in
block_low p g =
    ap (λ (l : List ℕ). low 2 g.block ++ low 2 (length g.places - 1)
    ++ by_kind (kind_of (length g.places)) (bytes_of (low 2) g.places) (rank_table p g.places ++ l) [])
    (longs_low 1024 (bitmap g.places))

blocks_low : (p : ℕ) (gs : List Run) → bytes_of (block_in low_byte p) gs ≡ bytes_of (block_of p) gs
unfolding bytes_of
blocks_low p [] = refl
blocks_low p (g ∷ gs) = ap₂ {C = List ℕ} (λ (a b : List ℕ). a ++ b) (block_low p g) (blocks_low p gs)

end_low : end_in low_byte ≡ end_block
unfolding end_in end_block digits
end_low = refl

entries_low : (es : List Entry) → bytes_of (entry_in low_byte) es ≡ bytes_of entry_bytes es
unfolding bytes_of entry_in entry_bytes
entries_low [] = refl
entries_low (e ∷ es) = ap (λ (l : List ℕ). entry_bytes e ++ l) (entries_low es)

pub section_low : (p : ℕ) (ids : List ℕ) → id_section_in low_byte p ids ≡ id_section p ids
unfolding id_section_in id_section blocks
section_low p ids =
    ap₂ {C = List ℕ} (λ (a b : List ℕ). a ++ b) (blocks_low p (runs ids))
    (ap₂ {C = List ℕ} (λ (a b : List ℕ). a ++ b) end_low (entries_low (jumps p ids)))

-- ---- judged

module _ (p : ℕ) (ok : Power p) (j : ℕ) (s : List ℕ) (n : ℕ) where
  pub judge_sound : Below 256 s → judge low_byte p j s ≡ done n → SectionOf p j s n
  judge_sound u h =
      let c = J.judge_sound low_byte p ok s j n u h in
      record {
        ids = c.ids;
        ascending = c.ascending;
        range = c.range;
        bytes = sym (section_low p c.ids) ∙ c.bytes;
        entries = c.entries;
        count = c.count;
      }

  pub judge_complete : SectionOf p j s n → judge low_byte p j s ≡ done n
  judge_complete c =
      J.judge_complete low_byte p ok s j n
      (record {
        ids = c.ids;
        ascending = c.ascending;
        range = c.range;
        bytes = section_low p c.ids ∙ c.bytes;
        entries = c.entries;
        count = c.count;
      })

  -- ---- read back

  module _ (c : SectionOf p j s n) where
    -- its blocks stand at its start
    pub section_stands : Stands p s 0 (runs c.ids) (bytes_of entry_bytes (jumps p c.ids))
    unfolding id_section blocks
    section_stands = record { fine = fine_runs c.ids c.ascending c.range; bytes = sym c.bytes }

    -- the one list that a section can be of: what it decodes to
    pub section_runs : read_runs (length s) p s ≡ runs c.ids
    section_runs =
        let gs : List Run = runs c.ids in
        let rest : List ℕ = bytes_of entry_bytes (jumps p c.ids) in
        let hp : p ≤ 16 = omega (arith, ok.most) in
        ap (read_runs (length s) p) section_stands.bytes
        ∙ read_runs_lem (length s) p gs rest hp section_stands.fine (omega (arith, runs_le p gs, stands_long p hp s 0 rest gs section_stands))

    pub section_decoded : ids_of (read_runs (length s) p s) ≡ c.ids
    section_decoded = ap ids_of section_runs ∙ ids_runs c.ids
