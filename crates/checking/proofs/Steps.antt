-- What each step of the check's code finds, by the definitions. Assumes nothing.
use Rattle.format.specs.Kit.{◌≡◌, refl, sym, ap, ap₂, ◌∙◌, Bool, true, false, ◌&&◌, List, ℕ, ◌+◌, ◌-◌, arith, length, take, drop, length-drop}
use Rattle.format.specs.Kit.{take_all}
use Rattle.format.specs.Refusals.{Outcome, done, refused, and_then, DAMAGED}
use Rattle.format.specs.Pairs.{Pairs}
use Rattle.format.specs.Editions.{editions}
use Rattle.format.specs.Column.{Head}
use Rattle.format.specs.Opening.{Opened, open_column, id_part, value_part}
use Rattle.format.specs.Check.{accepted, check}
use Rattle.format.specs.Orders.{low_byte}
use Rattle.format.specs.Judge.{judge}
use Rattle.laws.proofs.Open.{sound}
use Rattle.laws.proofs.Unique.{OnlyBy, accepted_only}
use Rattle.values.specs.Edition.{tests}
use Rattle.checking.specs.Tests.{holds, ids_ok, column_ok, is_taken}

pub ids_judged : (h : Head) (s : List ℕ) (p j : ℕ) → p ≡ h.power → j ≡ h.jump_count → (o : Outcome ℕ) → judge low_byte p j s ≡ o
    → ids_ok h s ≡ holds h.count o
unfolding ids_ok
ids_judged h s p j ep ej o e = ap (holds h.count) (ap₂ (λ (x y : ℕ). judge low_byte x y s) (sym ep) (sym ej) ∙ e)

-- ---- the parts, by the code's own numbers

module _ (bytes : List ℕ) (c : Opened) (a b : ℕ) (ea : a ≡ c.start) (eb : b ≡ c.head.id_bytes) where
  ids_part : take (a + b - a) (drop a bytes) ≡ id_part bytes c
  unfolding id_part
  ids_part = let e : a + b - a ≡ c.head.id_bytes = omega arith in rw (e, ea)

  values_part : take (length bytes - (a + b)) (drop (a + b) bytes) ≡ value_part bytes c
  unfolding value_part
  values_part =
      take_all (length bytes - (a + b)) (drop (a + b) bytes) (omega (arith, length-drop (a + b) bytes))
      ∙ ap₂ (λ (x y : ℕ). drop (x + y) bytes) ea eb

  pub values_long : open_column editions bytes ≡ done c → length (take (length bytes - (a + b)) (drop (a + b) bytes)) ≡ c.head.value_bytes
  unfolding value_part
  values_long e = ap length values_part ∙ omega (arith, length-drop (c.start + c.head.id_bytes) bytes, (sound editions bytes c e).whole)

  abbrev test : List ℕ → Bool
  test = tests c.head.edition c.head.count c.head.fields

  with_parts : {t v : Bool} → t ≡ ids_ok c.head (take (a + b - a) (drop a bytes)) → v ≡ test (take (length bytes - (a + b)) (drop (a + b) bytes))
      → t && v ≡ column_ok bytes c
  unfolding column_ok
  with_parts e f = ap₂ (λ (x y : Bool). x && y) (e ∙ ap (ids_ok c.head) ids_part) (f ∙ ap test values_part)

  pub ids_fail : {t : Bool} → t ≡ ids_ok c.head (take (a + b - a) (drop a bytes)) → t ≡ false → false ≡ column_ok bytes c
  ids_fail e f = with_parts (sym f ∙ e) refl

  pub ids_pass : {t v : Bool} → t ≡ ids_ok c.head (take (a + b - a) (drop a bytes)) → t ≡ true
      → v ≡ test (take (length bytes - (a + b)) (drop (a + b) bytes)) → v ≡ column_ok bytes c
  ids_pass e f g = with_parts (sym f ∙ e) g

-- ---- the check

pub check_refused : (bytes : List ℕ) (why w : ℕ) → open_column editions bytes ≡ refused why w → refused why w ≡ check editions bytes
unfolding check and_then
check_refused bytes why w e = rw e

module _ (bytes : List ℕ) (c : Opened) (e : open_column editions bytes ≡ done c) where
  pub check_damaged : is_taken (accepted bytes c) ≡ false → refused DAMAGED 0 ≡ check editions bytes
  unfolding check and_then is_taken
  check_damaged f = rw e (go (accepted bytes c) (accepted_only bytes c) f)
    where
      go : (o : Outcome Pairs) → OnlyBy DAMAGED o → is_taken o ≡ false → refused DAMAGED 0 ≡ and_then o (λ q. done c.head.count)
      go (done q) d f = absurd (let z : ◌≡◌ {A = ℕ} 0 1 = cc in omega arith)
      go (refused x y) d f = ap₂ {C = Outcome ℕ} (λ (x y : ℕ). refused x y) (sym d.0) (sym d.1)

  pub check_done : is_taken (accepted bytes c) ≡ true → done c.head.count ≡ check editions bytes
  unfolding check and_then is_taken
  check_done f = rw e (go (accepted bytes c) f)
    where
      go : (o : Outcome Pairs) → is_taken o ≡ true → done c.head.count ≡ and_then o (λ q. done c.head.count)
      go (done q) f = refl
      go (refused x y) f = absurd (let z : ◌≡◌ {A = ℕ} 0 1 = cc in omega arith)
