-- Blocks that steps 1 to 4 gave, kept in sixteen slots with their numbers. Assumes nothing.
use Rattle.format.specs.Kit.{◌≡◌, ◌∙◌, subst, List, ℕ, ◌<◌, arith, length, get_or, set, replicate, length-set, get_or-replicate, get_or-set_same, get_or-set_other}
use Rattle.format.specs.Opening.{Opened}
use Rattle.laws.proofs.Cases.{equal_or}
use Rattle.lookup.specs.declared.Step as St
use Rattle.page.specs.Marks.{BlockIs}

module _ (bytes : List ℕ) (c : Opened) where
  pub record Known (numbers : List ℕ) (steps : List St.Step) : Type 0 where
    pub numbers_long : length numbers ≡ 16
    pub steps_long : length steps ≡ 16
    pub each : (k : ℕ) (d : St.Step) → k < 16 → BlockIs bytes c (get_or numbers k 0) (get_or steps k d)

  -- no id has this block number
  pub none_known : Known (replicate 16 65536) (replicate 16 St.Step.Absent)
  none_known =
      record {
        numbers_long = omega arith;
        steps_long = omega arith;
        each = λ k d l. rw (get_or-replicate {A = ℕ} 16 k 65536 0 l, get_or-replicate 16 k St.Step.Absent d l) (λ id f e. absurd (omega arith));
      }

  -- block b is in slot k
  pub there : {numbers : List ℕ} {steps : List St.Step} → Known numbers steps → (k b : ℕ) (d : St.Step) → k < 16 → get_or numbers k 0 ≡ b
      → BlockIs bytes c b (get_or steps k d)
  there {numbers} {steps} n k b d l e = subst (λ (x : ℕ). BlockIs bytes c x (get_or steps k d)) e (n.each k d l)

  -- it is put there
  pub renewed : {numbers : List ℕ} {steps : List St.Step} → Known numbers steps → (k b : ℕ) (st : St.Step) → k < 16 → BlockIs bytes c b st
      → Known (set numbers k b) (set steps k st) × (get_or (set numbers k b) k 0 ≡ b)
  renewed {numbers} {steps} n k b st l h =
      let same : get_or (set numbers k b) k 0 ≡ b = get_or-set_same numbers k b 0 (omega (arith, n.numbers_long)) in (
        record {
          numbers_long = length-set numbers k b ∙ n.numbers_long;
          steps_long = length-set steps k st ∙ n.steps_long;
          each = λ j d m.
              equal_or j k
              (λ e. rw (e, same, get_or-set_same steps k st d (omega (arith, n.steps_long))) h)
              (λ e. rw (get_or-set_other numbers k j b 0 e, get_or-set_other steps k j st d e) (n.each j d m));
        },
        same,
      )
