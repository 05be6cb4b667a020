-- A block's steps: a number is read, held to its limits, and the next step takes over; the data decide. Assumes nothing.
use Rattle.format.specs.Kit.{◌≡◌, refl, sym, ap, ◌∙◌, Bool, true, false, cond, ◌&&◌, List, ℕ, ◌≤◌, arith, leb, length, drop}
use Rattle.format.specs.Limits.{max_block, max_kind}
use Rattle.format.specs.Refusals.{Outcome, done, refused, and_then, need, DAMAGED}
use Rattle.answers.specs.Replies.{refused_as}
use Rattle.format.specs.HeaderNumbers.{number_at}
use Rattle.format.specs.Pairs.{Below}
use Rattle.format.specs.SetCalls.{list_length_ok, set_data_ok, set_places, data_from, length_from, kind_from, block_from}
use Rattle.answers.specs.declared.Refusal.{Refusal}
use Rattle.set_format.proofs.Data.{held}
use Rattle.set_format.proofs.ByKind.{counted}
use Rattle.set_blocks.specs.Kinds.{kind_number}
use Rattle.set_blocks.specs.declared.SetKind.{SetKind}

pub kind_le : (k : SetKind) → kind_number k ≤ max_kind
kind_le SetKind.Listed = omega arith
kind_le SetKind.Missing = omega arith
kind_le SetKind.Bitmap = omega arith

-- a count that a test lets pass, and 0 otherwise
pub by_test : (b : Bool) (n x : ℕ) → (b ≡ false → x ≡ 0) → (b ≡ true → x ≡ n) → cond b n 0 ≡ x
by_test false n x f g = sym (f refl)
by_test true n x f g = sym (g refl)

-- ---- one step of a chain

-- no number
pub stopped : {B : Type 0} (why : Refusal) (o : Outcome (ℕ × ℕ)) (g : (ℕ × ℕ) → Outcome B) → refused_as why ≡ o → refused_as why ≡ and_then o g
unfolding and_then
stopped why o g e = sym (ap (λ (x : Outcome (ℕ × ℕ)). and_then x g) (sym e))

-- a number, which breaks its limit or keeps it
module _ {B : Type 0} (v n : ℕ) (o : Outcome (ℕ × ℕ)) (test : (ℕ × ℕ) → Bool) (next : (ℕ × ℕ) → Outcome B) (e : done (v, n) ≡ o) where
  pub limit_broken : test (v, n) ≡ false → refused DAMAGED 0 ≡ and_then o (λ x. need (test x) DAMAGED 0 (next x))
  unfolding and_then need
  limit_broken l = sym (ap (λ (x : Outcome (ℕ × ℕ)). and_then x (λ y. need (test y) DAMAGED 0 (next y))) (sym e) ∙ rw l refl)

  pub limit_kept : test (v, n) ≡ true → next (v, n) ≡ and_then o (λ x. need (test x) DAMAGED 0 (next x))
  unfolding and_then need
  limit_kept l = sym (ap (λ (x : Outcome (ℕ × ℕ)). and_then x (λ y. need (test y) DAMAGED 0 (next y))) (sym e) ∙ rw l refl)

-- ---- number, kind and length

module _ (s : List ℕ) (at : ℕ) (why : Refusal) (e : refused_as why ≡ number_at s at) where
  pub length_stop : (block kind : ℕ) → refused_as why ≡ length_from block kind s at
  unfolding length_from
  length_stop block kind = stopped why (number_at s at) _ e

  pub kind_stop : (block : ℕ) → refused_as why ≡ kind_from block s at
  unfolding kind_from
  kind_stop block = stopped why (number_at s at) _ e

  pub block_stop : (least : ℕ) → refused_as why ≡ block_from least s at
  unfolding block_from
  block_stop least = stopped why (number_at s at) _ e

module _ (s : List ℕ) (at v n : ℕ) (e : done (v, n) ≡ number_at s at) where
  module _ (block kind : ℕ) where
    pub length_limit : list_length_ok kind v ≡ false → refused DAMAGED 0 ≡ length_from block kind s at
    unfolding length_from
    length_limit l = limit_broken v n (number_at s at) (λ c. list_length_ok kind c.0) (λ c. data_from block kind c.0 s c.1) e l

    pub length_next : list_length_ok kind v ≡ true → data_from block kind v s n ≡ length_from block kind s at
    unfolding length_from
    length_next l = limit_kept v n (number_at s at) (λ c. list_length_ok kind c.0) (λ c. data_from block kind c.0 s c.1) e l

  module _ (block : ℕ) where
    pub kind_limit : leb v max_kind ≡ false → refused DAMAGED 0 ≡ kind_from block s at
    unfolding kind_from
    kind_limit l = limit_broken v n (number_at s at) (λ t. leb t.0 max_kind) (λ t. length_from block t.0 s t.1) e l

    pub kind_next : leb v max_kind ≡ true → length_from block v s n ≡ kind_from block s at
    unfolding kind_from
    kind_next l = limit_kept v n (number_at s at) (λ t. leb t.0 max_kind) (λ t. length_from block t.0 s t.1) e l

  module _ (least : ℕ) where
    pub block_limit : leb least v && leb v max_block ≡ false → refused DAMAGED 0 ≡ block_from least s at
    unfolding block_from
    block_limit l = limit_broken v n (number_at s at) (λ k. leb least k.0 && leb k.0 max_block) (λ k. kind_from k.0 s k.1) e l

    pub block_next : leb least v && leb v max_block ≡ true → kind_from v s n ≡ block_from least s at
    unfolding block_from
    block_next l = limit_kept v n (number_at s at) (λ k. leb least k.0 && leb k.0 max_block) (λ k. kind_from k.0 s k.1) e l

-- ---- the data

module _ (t c : ℕ) (s : List ℕ) (at block n : ℕ) (e : n ≡ counted t c s at) where
  pub data_damaged : t ≤ max_kind → list_length_ok t c ≡ true → Below 256 s → n ≡ 0 → refused DAMAGED 0 ≡ data_from block t c s at
  unfolding data_from need
  data_damaged h l u z = go (set_data_ok t c s at) refl
    where
      go : (b : Bool) → set_data_ok t c s at ≡ b → refused DAMAGED 0 ≡ data_from block t c s at
      go false f = sym (rw f refl)
      go true f =
          let m : cond (set_data_ok t c s at) (length (set_places t c (drop at s))) 0 ≡ length (set_places t c (drop at s)) = rw f in
          absurd (omega (arith, e, m, (held s u at t c h l f).some_place))

  pub record FineData : Type 0 where
    pub taken : done (record { block = block; kind = t; long = c; start = at }) ≡ data_from block t c s at
    pub count : n ≡ length (set_places t c (drop at s))

  pub data_fine : (n ≡ 0 → ⊥) → FineData
  unfolding data_from need
  data_fine z = go (set_data_ok t c s at) refl
    where
      go : (b : Bool) → set_data_ok t c s at ≡ b → FineData
      go true f = record { taken = sym (rw f refl); count = e ∙ rw f }
      go false f = absurd (z (e ∙ rw f))
