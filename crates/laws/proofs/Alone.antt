-- A reader of some editions only: bytes whose first header number is no known edition's get EDITION, or a refusal that is tested before the
-- header is read, and never a value. So a reader of edition 1 alone, as before document 02, [6], refuses edition 2. Assumes nothing.
use Rattle.format.specs.Kit.{◌≡◌, refl, ap, ap₂, ◌∙◌, cond, List, [], ◌∷◌, map, none, ℕ, ◌<◌, ◌≤◌, arith, ℤ, length, leb, leb-true, le-leb, lt-leb}
use Rattle.format.specs.Limits.{max_id}
use Rattle.format.specs.Refusals.{Outcome, done, refused, and_then, need, given, EDITION, ID, BACK}
use Rattle.format.specs.HeaderNumbers.{number_at}
use Rattle.format.specs.Editions.{Edition, plain, lucene, number_of, editions, edition_in}
use Rattle.format.specs.Valid.{Valid}
use Rattle.format.specs.Column.{column, head_of}
use Rattle.format.specs.Opening.{Opened, open_column, head_from}
use Rattle.format.specs.Check.{check, reading}
use Rattle.format.specs.LookUp.{Look, found, absent, look_up}
use Rattle.format.specs.Next.{next}
use Rattle.format.specs.Page.{page}
use Rattle.format.specs.Layered.{machine, correction, found_in, refused_by, on_top, underneath, look_up_layered, no_part, section_in, part_by, layered_part}
use Rattle.laws.proofs.Editions.{knows_all, lawful, found_number}
use Rattle.laws.proofs.RoundTrip.{opened, the_column, the_head}
use Rattle.laws.proofs.Tests.{result, needed, given_some, passed}
use Rattle.laws.proofs.Cases.{true_or}
use Rattle.laws.proofs.Paged.{enough}
use Rattle.laws.proofs.Layered.{layered_says}

-- the answer to each id: EDITION, but ID above the limit, which is tested before the header is read
abbrev pub refusal : ℕ → Outcome Look
refusal id = refused (cond (leb id max_id) EDITION ID) 0

-- what such a reader says: EDITION, but ID comes before it in a look-up, and ID and BACK in the next candidate
pub record Refuses (known : List Edition) (bytes : List ℕ) : Type 0 where
  pub opens : open_column known bytes ≡ refused EDITION 0
  pub checks : check known bytes ≡ refused EDITION 0
  pub reads : (idRoom valueRoom : ℕ) → reading known bytes idRoom valueRoom ≡ refused EDITION 0
  pub looks : (id : ℕ) → id ≤ max_id → look_up known bytes id ≡ refused EDITION 0
  pub looks_id : (id : ℕ) → max_id < id → look_up known bytes id ≡ refused ID 0
  pub nexts : (last t : ℕ) → t ≤ max_id → last ≤ t → next known bytes last t ≡ refused EDITION 0
  pub nexts_back : (last t : ℕ) → t ≤ max_id → t < last → next known bytes last t ≡ refused BACK 0
  pub nexts_id : (last t : ℕ) → max_id < t → next known bytes last t ≡ refused ID 0
  -- a page into lists that are long enough: each place is refused so
  pub pages : (ids : List ℕ) (o v k : ℕ) → length ids ≤ o → length ids ≤ v → length ids ≤ k → page known bytes ids o v k ≡ done (map refusal ids)
  -- as a correction it refuses the call, with an empty part;
  pub on_top_is : (m : List ℕ) (id : ℕ) → id ≤ max_id → look_up_layered known m bytes id ≡ refused_by correction EDITION 0
  pub on_top_part : (m : List ℕ) (id : ℕ) → id ≤ max_id → layered_part known m bytes id ≡ no_part
  pub layered_id : (m : List ℕ) (id : ℕ) → max_id < id → look_up_layered known m bytes id ≡ refused_by correction ID 0
  pub layered_id_part : (m : List ℕ) (id : ℕ) → max_id < id → layered_part known m bytes id ≡ no_part
  -- as a machine column it refuses each id that the correction has not; else the correction's own answer or refusal, and its part
  pub below_absent : (c : List ℕ) (id w : ℕ) → look_up known c id ≡ done (absent w)
      → (look_up_layered known bytes c id ≡ refused_by machine EDITION 0) × (layered_part known bytes c id ≡ no_part)
  pub below_found : (c : List ℕ) (id o : ℕ) (x : ℤ) (w : ℕ) → look_up known c id ≡ done (found o x w)
      → (look_up_layered known bytes c id ≡ found_in correction o x 0 w) × (layered_part known bytes c id ≡ section_in correction (open_column known c))
  pub below_refused : (c : List ℕ) (id why w : ℕ) → look_up known c id ≡ refused why w
      → (look_up_layered known bytes c id ≡ refused_by correction why w) × (layered_part known bytes c id ≡ no_part)
  -- and never with a value of these bytes
  pub no_value : (c : List ℕ) (id o : ℕ) (x : ℤ) (w k : ℕ) → look_up_layered known bytes c id ≡ found_in machine o x w k → ⊥

-- each place of a page
every : (known : List Edition) (bytes : List ℕ) → ((id : ℕ) → look_up known bytes id ≡ refusal id) → (ids : List ℕ)
    → map (look_up known bytes) ids ≡ map refusal ids
every known bytes each [] = refl
every known bytes each (id ∷ ids) = ap₂ ◌∷◌ (each id) (every known bytes each ids)

-- an id that a column has as absent is within the limit
within : (known : List Edition) (c : List ℕ) (id w : ℕ) → look_up known c id ≡ done (absent w) → id ≤ max_id
unfolding look_up
within known c id w e = leb-true id max_id (needed _ _ _ _ (absent w) e).0

pub refuses : (known : List Edition) (bytes : List ℕ) (k at : ℕ) → number_at bytes 0 ≡ done (k, at) → edition_in known k ≡ none → Refuses known bytes
unfolding open_column check reading look_up next look_up_layered layered_part part_by on_top underneath and_then given need
refuses known bytes k at e unknown =
    let o : open_column known bytes ≡ refused EDITION 0 = rw (e, unknown) in
    let looks : (id : ℕ) → id ≤ max_id → look_up known bytes id ≡ refused EDITION 0 = λ id h. rw (le-leb id max_id h, o) in
    let each : (id : ℕ) → look_up known bytes id ≡ refusal id = λ id. true_or (leb id max_id) (λ h. rw (h, o)) (λ h. rw h) in
    record {
      opens = o;
      checks = rw o;
      reads = λ a b. rw o;
      looks = looks;
      looks_id = λ id h. rw (lt-leb id max_id h);
      nexts = λ last t h l. rw (le-leb t max_id h, le-leb last t l, o);
      nexts_back = λ last t h l. rw (le-leb t max_id h, lt-leb last t l);
      nexts_id = λ last t h. rw (lt-leb t max_id h);
      pages = λ ids p v k hp hv hk.
          enough known bytes ids p v k hp hv hk
          ∙ ap {B = Outcome (List (Outcome Look))} (λ (l : List (Outcome Look)). done l) (every known bytes each ids);
      on_top_is = λ m id h. rw (le-leb id max_id h, o);
      on_top_part = λ m id h. rw (le-leb id max_id h, o);
      layered_id = λ m id h. rw (lt-leb id max_id h);
      layered_id_part = λ m id h. rw (lt-leb id max_id h);
      below_absent = λ c id w a. let b = looks id (within known c id w a) in (rw (a, b), rw (a, b));
      below_found = λ c id p x w a. (rw a, rw a);
      below_refused = λ c id why w a. (rw a, rw a);
      no_value = λ c id p x w k a.
          let s = (layered_says known bytes c id _ a).1 in
          let f = each id in
          let z : ◌≡◌ {A = ℕ} 0 1 = cc in
          omega arith;
    }

-- ---- edition 1 alone

pub refuses_two : (bytes : List ℕ) (at : ℕ) → number_at bytes 0 ≡ done (2, at) → Refuses (plain ∷ []) bytes
unfolding edition_in number_of
refuses_two bytes at e = refuses (plain ∷ []) bytes 2 at e refl

-- so it refuses each column of edition 2
pub refuses_lucene : (p : ℕ) (ids : List ℕ) (vs : List ℤ) → Valid lucene p ids vs → Refuses (plain ∷ []) (column lucene p ids vs)
unfolding open_column head_from the_column head_of the_head number_of
refuses_lucene p ids vs ok =
    let bytes : List ℕ = column lucene p ids vs in
    let c : Opened = the_column lucene p ids vs in
    let s1 = passed _ _ c (opened lucene (lawful lucene) p ids vs ok editions (knows_all lucene)) in
    let s2 = passed _ _ c s1.2 in
    let s3 = passed _ _ c s2.2 in
    let s5 = needed _ _ _ _ c (needed _ _ _ _ c s3.2).1 in
    let ed : s2.0 ≡ lucene = ap (λ (x : Opened). x.head.edition) (ap (result c) s5.1) in
    let own : s1.0.0 ≡ 2 = found_number editions s1.0.0 s2.0 (given_some _ _ _ _ s2.1) ∙ ap number_of ed in
    refuses_two bytes s1.0.1 (s1.1 ∙ ap {B = Outcome (ℕ × ℕ)} (λ (k : ℕ). done (k, s1.0.1)) own)
