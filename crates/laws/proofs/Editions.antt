-- The editions: their numbers, edition 1 in document 01's words, editions 2 and 3 in document 02's, and that the codec of each is lawful.
-- Assumes nothing.
use Rattle.format.specs.Kit.{◌≡◌, true, refl, sym, ap, ◌∙◌, false, ◌&&◌, List, [], ◌∷◌, some, Option·some-injective, ℕ, ◌/◌, ◌%◌, ◌^◌, ◌<◌, div-le_self, ◌+◌}
use Rattle.format.specs.Kit.{◌*◌}
use Rattle.format.specs.Kit.{lt_of_le_of_lt, arith, leb, eqb, lit<, ℤ, drop, le-leb, leb-true, eqb-true, ne_eqb}
use Rattle.format.specs.Limits.{max_width}
use Rattle.format.specs.HeaderNumbers.{zigzag, unzigzag}
use Rattle.format.specs.Bits.{packed_bytes, packed, fetched, bit_at, bit_of}
use Rattle.format.specs.BitsLow.{packed_low, fetched_low, bit_low_at, bit_low}
use Rattle.format.specs.Values.{smallest, spread, divisor, bit_length, width, width_with, stored, value_at}
use Rattle.format.specs.Pairs.{Each, Fits}
use Rattle.format.specs.Codec.{Fields, signed64, scaled}
use Rattle.format.specs.ValueRuns.{run_length, directory_length, runs_of, summary_at, run_section, in_run, in_runs}
use Rattle.format.specs.Editions.{Edition, plain, lucene, runs, table, number_of, editions, edition_in, Knows, high_first, lucene_widths, low_first, codec}
use Rattle.laws.proofs.Orders.{packed_by, fetched_by}
use Rattle.laws.proofs.Bits.{high_order, high_orderly}
use Rattle.laws.proofs.BitsLow.{low_order, low_orderly}
use Rattle.laws.proofs.Widths.{LeastOf, lucene_least, lucene_narrow}
use Rattle.laws.proofs.Values.{bit_length_lem, bit_length_le}
use Rattle.laws.proofs.Bounds.{spread_lt}
use Rattle.laws.proofs.Lawful.{Lawful, LawfulReader}
use Rattle.laws.proofs.Scaled.{Sound, scaled_takes, scaled_lawful, scaled_wide}
use Rattle.laws.proofs.InRuns.{runs_lawful}
use Rattle.laws.proofs.Table.{tabled_lawful, table_wide}
use Rattle.laws.proofs.Cases.{true_or}

-- ---- numbers

pub number_small : (ed : Edition) → number_of ed < 2 ^ 64
unfolding number_of
number_small plain = lit< tt
number_small lucene = lit< tt
number_small runs = lit< tt
number_small table = lit< tt

-- all editions are known
pub knows_all : (ed : Edition) → Knows editions ed
unfolding number_of editions edition_in
knows_all plain = refl
knows_all lucene = refl
knows_all runs = refl
knows_all table = refl

-- what is found by its number has it
pub found_number : (known : List Edition) (k : ℕ) (ed : Edition) → edition_in known k ≡ some ed → k ≡ number_of ed
unfolding edition_in
found_number [] k ed e = absurd (let z : ◌≡◌ {A = ℕ} 0 1 = cc in omega arith)
found_number (x ∷ known) k ed e =
    true_or (eqb k (number_of x))
    (λ f. let same : x ≡ ed = cc (rw f at e) in let own : k ≡ number_of x = eqb-true k (number_of x) f in cc)
    (λ f. found_number known k ed (rw f at e))

-- no two editions have the same number
pub one_number : (ed ed' : Edition) → number_of ed ≡ number_of ed' → ed ≡ ed'
one_number ed ed' e = Option·some-injective ed ed' (sym (knows_all ed) ∙ ap (edition_in editions) e ∙ knows_all ed')

-- ---- edition 1

-- its codec in document 01's words: w, smallest, g and the packed numbers of the list; the header rules; step 7
pub plain_fields : (vs : List ℤ) → (codec plain).fields vs ≡ record { width = width vs; smallest = zigzag (smallest vs); divisor = divisor vs }
unfolding codec scaled high_first width width_with
plain_fields vs = refl

pub plain_section : (vs : List ℤ) → (codec plain).section vs ≡ packed (width vs) (stored vs)
unfolding codec scaled high_first width width_with
plain_section vs = refl

pub plain_rules : (n : ℕ) (f : Fields) (v : ℕ) → (codec plain).fields_ok n f v
    ≡ (leb f.width max_width && leb 1 f.divisor && eqb v (packed_bytes n f.width))
unfolding codec scaled high_first
plain_rules n f v = refl

pub plain_value : (n : ℕ) (f : Fields) (s : List ℕ) (i : ℕ) → (codec plain).value n f s i
    ≡ signed64 (value_at (unzigzag f.smallest) f.divisor (fetched s f.width i))
unfolding codec scaled high_first
plain_value n f s i = refl

-- its packing is sound
unfoldable pub high_first_sound : Sound high_first
unfolding high_first high_order packed fetched packed_by fetched_by bit_at bit_of
high_first_sound =
    record {
      enough = λ q h. bit_length_lem q;
      allowed = λ q h. le-leb (bit_length q) max_width (bit_length_le q max_width h);
      narrow = λ w. leb-true w max_width;
      order = high_order;
      orderly = high_orderly;
      packs = λ w xs. refl;
      fetches = λ s w i. refl;
    }

-- ---- edition 2

-- it differs from edition 1 in the width, which is the least of Lucene 9's that suffices, and in the bits' order: g, the smallest value
-- and the stored numbers are the same
pub lucene_width : (vs : List ℤ) → Each Fits vs → LeastOf lucene_widths (spread vs / divisor vs) ((codec lucene).fields vs).width
unfolding codec scaled low_first
lucene_width vs t = lucene_least (spread vs / divisor vs) (lt_of_le_of_lt (div-le_self (spread vs) (divisor vs)) (spread_lt vs t))

pub lucene_fields : (vs : List ℤ) → let w = ((codec lucene).fields vs).width in
    ((codec lucene).fields vs ≡ record { width = w; smallest = zigzag (smallest vs); divisor = divisor vs })
    × ((codec lucene).section vs ≡ packed_low w (stored vs))
unfolding codec scaled low_first
lucene_fields vs = (refl, refl)

unfoldable pub low_first_sound : Sound low_first
unfolding low_first low_order packed_low fetched_low packed_by fetched_by bit_low_at bit_low
low_first_sound =
    record {
      enough = λ q h. (lucene_least q h).suffices;
      allowed = λ q h. (lucene_least q h).listed;
      narrow = lucene_narrow;
      order = low_order;
      orderly = low_orderly;
      packs = λ w xs. refl;
      fetches = λ s w i. refl;
    }

-- ---- edition 3

-- its codec in document 02's words
pub runs_takes : (vs : List ℤ) → (codec runs).takes vs ≡ true
unfolding codec in_runs
runs_takes vs = refl

pub runs_fields : (vs : List ℤ) → (codec runs).fields vs ≡ record { width = 0; smallest = 0; divisor = divisor vs }
unfolding codec in_runs
runs_fields vs = refl

pub runs_section : (vs : List ℤ) → (codec runs).section vs ≡ run_section (divisor vs) (runs_of vs)
unfolding codec in_runs
runs_section vs = refl

pub runs_rules : (n : ℕ) (f : Fields) (v : ℕ) → (codec runs).fields_ok n f v
    ≡ (eqb f.width 0 && eqb f.smallest 0 && leb 1 f.divisor && leb (directory_length n) v)
unfolding codec in_runs
runs_rules n f v = refl

pub runs_value : (n : ℕ) (f : Fields) (s : List ℕ) (i : ℕ) → (codec runs).value n f s i
    ≡ in_run f.divisor (drop (directory_length n) s) (summary_at s (i / run_length)) (i % run_length)
unfolding codec in_runs
runs_value n f s i = refl

-- value k of run r is that of its ordinal
pub value_in : (n : ℕ) (f : Fields) (s : List ℕ) (r k : ℕ) → k < run_length
    → in_run f.divisor (drop (directory_length n) s) (summary_at s r) k ≡ (codec runs).value n f s (run_length * r + k)
value_in n f s r k h =
    let q : (run_length * r + k) / run_length ≡ r = omega arith in
    let m : (run_length * r + k) % run_length ≡ k = omega arith in
    sym (runs_value n f s (run_length * r + k) ∙ rw (q, m))

-- ---- all editions but the fourth take every list (document 02, [12])

pub takes_all : (ed : Edition) (vs : List ℤ) → (ed ≡ table → ⊥) → (codec ed).takes vs ≡ true
unfolding codec
takes_all plain vs h = scaled_takes high_first vs
takes_all lucene vs h = scaled_takes low_first vs
takes_all runs vs h = runs_takes vs
takes_all table vs h = absurd (h refl)

-- ---- every codec is lawful, and so is every reader

pub lawful : (ed : Edition) → Lawful (codec ed)
unfolding codec
lawful plain = scaled_lawful high_first high_first_sound
lawful lucene = scaled_lawful low_first low_first_sound
lawful runs = runs_lawful
lawful table = tabled_lawful (codec plain)

pub lawful_reader : (known : List Edition) → LawfulReader known
lawful_reader known ed k = lawful ed

-- no edition takes a width above its limit
pub wide : (ed : Edition) (n : ℕ) (f : Fields) (v : ℕ) → max_width < f.width → (codec ed).fields_ok n f v ≡ false
unfolding codec
wide plain n f v h = scaled_wide high_first high_first_sound n f v h
wide lucene n f v h = scaled_wide low_first low_first_sound n f v h
wide runs n f v h = runs_rules n f v ∙ rw (ne_eqb f.width 0 (λ e. omega arith))
wide table n f v h = table_wide (codec plain) n f v h
