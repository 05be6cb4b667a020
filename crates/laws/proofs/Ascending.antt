-- Ascending lists of signed numbers: the order, a number's place, numbers put in, and that one list alone ascends and has just these members.
-- Assumes nothing.
use Rattle.format.specs.Kit.{◌≡◌, refl, sym, ap, ap₂, ◌∙◌, subst, true, false, ◌&&◌, List, [], ◌∷◌, ℕ, zero, suc, ◌+◌, ◌<◌, ◌≤◌}
use Rattle.format.specs.Kit.{arith, leb, ℤ, pos, negsuc, le_z, lt_z, length, get_or, lt-ltb, le-ltb, ltb-true, le-leb, leb-true}
use Rattle.format.specs.Table.{insert, insert_all, table_of, code_in, ascends_from, ascends, is_in, all_in}
use Rattle.laws.proofs.Cases.{below_or, equal_or, true_or, false_true}
use Rattle.laws.proofs.Tests.{both_true, true_both, or_left, or_right}

-- ---- the order

pub order_or : {X : Type 0} (u v : ℤ) → (lt_z u v ≡ true → X) → (u ≡ v → X) → (lt_z v u ≡ true → X) → X
order_or (pos a) (pos b) f g h =
    below_or a b (λ k. f (lt-ltb a b k)) (λ k. equal_or a b (λ e. g (ap (λ (n : ℕ). pos n) e)) (λ e. h (lt-ltb b a (omega arith))))
order_or (pos a) (negsuc b) f g h = h refl
order_or (negsuc a) (pos b) f g h = f refl
order_or (negsuc a) (negsuc b) f g h =
    below_or b a (λ k. f (lt-ltb b a k)) (λ k. equal_or a b (λ e. g (ap (λ (n : ℕ). negsuc n) e)) (λ e. h (lt-ltb a b (omega arith))))

pub lt_irrefl : (v : ℤ) → lt_z v v ≡ false
lt_irrefl (pos a) = le-ltb a a (omega arith)
lt_irrefl (negsuc a) = le-ltb a a (omega arith)

pub lt_not : (u v : ℤ) → lt_z u v ≡ true → lt_z v u ≡ false
lt_not (pos a) (pos b) h = le-ltb b a (omega (arith, ltb-true a b h))
lt_not (pos a) (negsuc b) h = false_true h
lt_not (negsuc a) (pos b) h = refl
lt_not (negsuc a) (negsuc b) h = le-ltb a b (omega (arith, ltb-true b a h))

pub lt_trans : (a b c : ℤ) → lt_z a b ≡ true → lt_z b c ≡ true → lt_z a c ≡ true
lt_trans (pos a) (pos b) (pos c) h k = lt-ltb a c (omega (arith, ltb-true a b h, ltb-true b c k))
lt_trans (pos a) (pos b) (negsuc c) h k = false_true k
lt_trans (pos a) (negsuc b) c h k = false_true h
lt_trans (negsuc a) (pos b) (pos c) h k = refl
lt_trans (negsuc a) (pos b) (negsuc c) h k = false_true k
lt_trans (negsuc a) (negsuc b) (pos c) h k = refl
lt_trans (negsuc a) (negsuc b) (negsuc c) h k = lt-ltb c a (omega (arith, ltb-true b a h, ltb-true c b k))

le_refl_both : (v : ℤ) → le_z v v && le_z v v ≡ true
le_refl_both (pos a) = rw (le-leb a a (omega arith))
le_refl_both (negsuc a) = rw (le-leb a a (omega arith))

le_both : (u v : ℤ) → le_z u v && le_z v u ≡ true → u ≡ v
le_both (pos a) (pos b) e =
    let t = both_true (leb a b) (leb b a) e in
    let n : a ≡ b = omega (arith, leb-true a b t.0, leb-true b a t.1) in
    ap (λ (n : ℕ). pos n) n
le_both (pos a) (negsuc b) e = false_true e
le_both (negsuc a) (pos b) e = false_true e
le_both (negsuc a) (negsuc b) e =
    let t = both_true (leb b a) (leb a b) e in
    let n : a ≡ b = omega (arith, leb-true b a t.0, leb-true a b t.1) in
    ap (λ (n : ℕ). negsuc n) n

clash : {X : Type 0} (u v : ℤ) → lt_z u v ≡ true → lt_z v u ≡ true → X
clash u v h k = false_true (sym (lt_not u v h) ∙ k)

same_clash : {X : Type 0} (u v : ℤ) → u ≡ v → lt_z u v ≡ true → X
same_clash u v e h = false_true (sym (lt_irrefl v) ∙ subst (λ (z : ℤ). lt_z z v ≡ true) e h)

-- ---- members

abbrev pub In : List ℤ → ℤ → Type 0
In us x = is_in us x ≡ true

pub in_or : {X : Type 0} (u : ℤ) (us : List ℤ) (x : ℤ) → In (u ∷ us) x → (u ≡ x → X) → (In us x → X) → X
unfolding is_in
in_or u us x e f g = true_or (le_z u x && le_z x u) (λ t. f (le_both u x t)) (λ t. g (rw t at e))

pub in_first : (us : List ℤ) (x : ℤ) → In (x ∷ us) x
unfolding is_in
in_first us x = or_left _ _ (le_refl_both x)

pub in_head : (u : ℤ) (us : List ℤ) (x : ℤ) → u ≡ x → In (u ∷ us) x
in_head u us x e = subst (λ (z : ℤ). In (z ∷ us) x) (sym e) (in_first us x)

pub in_more : (u : ℤ) (us : List ℤ) (x : ℤ) → In us x → In (u ∷ us) x
unfolding is_in
in_more u us x e = or_right (le_z u x && le_z x u) (is_in us x) e

pub in_none : {X : Type 0} (x : ℤ) → In [] x → X
unfolding is_in
in_none x e = false_true e

pub in_at : (us : List ℤ) (c : ℕ) (d : ℤ) → c < length us → In us (get_or us c d)
in_at [] c d h = absurd (omega arith)
in_at (u ∷ us) zero d h = in_first us u
in_at (u ∷ us) (suc c) d h = in_more u us (get_or us c d) (in_at us c d (omega arith))

-- each of vs is one of us
pub all_each : (us vs : List ℤ) → all_in us vs ≡ true → (x : ℤ) → In vs x → In us x
unfolding all_in
all_each us [] t x e = in_none x e
all_each us (v ∷ vs) t x e =
    let b = both_true (is_in us v) (all_in us vs) t in
    in_or v vs x e (λ s. subst (In us) s b.0) (λ s. all_each us vs b.1 x s)

pub each_all : (us vs : List ℤ) → ((x : ℤ) → In vs x → In us x) → all_in us vs ≡ true
unfolding all_in
each_all us [] f = refl
each_all us (v ∷ vs) f = true_both _ _ (f v (in_first vs v)) (each_all us vs (λ x e. f x (in_more v vs x e)))

-- ---- ascending

pub tail_ascends : (a : ℤ) (us : List ℤ) → ascends_from a us ≡ true → ascends us ≡ true
unfolding ascends_from ascends
tail_ascends a [] e = refl
tail_ascends a (u ∷ us) e = (both_true (lt_z a u) (ascends_from u us) e).1

pub above_all : (a : ℤ) (us : List ℤ) (x : ℤ) → ascends_from a us ≡ true → In us x → lt_z a x ≡ true
unfolding ascends_from
above_all a [] x t e = in_none x e
above_all a (u ∷ us) x t e =
    let b = both_true (lt_z a u) (ascends_from u us) t in
    in_or u us x e (λ s. subst (λ (z : ℤ). lt_z a z ≡ true) s b.0) (λ s. lt_trans a u x b.0 (above_all u us x b.1 s))

-- a member stands at its place
pub record Coded (us : List ℤ) (x : ℤ) : Type 0 where
  pub within : code_in us x < length us
  pub there : get_or us (code_in us x) (pos 0) ≡ x

pub coded : (us : List ℤ) (x : ℤ) → ascends us ≡ true → In us x → Coded us x
unfolding code_in ascends
coded [] x t e = in_none x e
coded (u ∷ us) x t e =
    order_or u x
    (λ h.
    let c : Coded us x = coded us x (tail_ascends u us t) (in_or u us x e (λ s. same_clash u x s h) (λ s. s)) in
    record { within = rw h (omega (arith, c.within)); there = rw h c.there })
    (λ h.
    let k : lt_z u x ≡ false = subst (λ (z : ℤ). lt_z u z ≡ false) h (lt_irrefl u) in
    record { within = rw k (omega arith); there = rw k h })
    (λ h. in_or u us x e (λ s. same_clash x u (sym s) h) (λ s. clash x u h (above_all u us x t s)))

-- and the entry at a place has that place
pub code_at : (us : List ℤ) (c : ℕ) → ascends us ≡ true → c < length us → code_in us (get_or us c (pos 0)) ≡ c
unfolding code_in ascends
code_at [] c t h = absurd (omega arith)
code_at (u ∷ us) zero t h = rw (lt_irrefl u)
code_at (u ∷ us) (suc c) t h =
    rw (above_all u us (get_or us c (pos 0)) t (in_at us c (pos 0) (omega arith)), code_at us c (tail_ascends u us t) (omega arith))

-- one list alone ascends and has these members
pub one_table : (us ws : List ℤ) → ascends us ≡ true → ascends ws ≡ true → ((x : ℤ) → In us x → In ws x) → ((x : ℤ) → In ws x → In us x) → us ≡ ws
unfolding ascends
one_table [] [] s t f g = refl
one_table [] (w ∷ ws) s t f g = in_none w (g w (in_first ws w))
one_table (u ∷ us) [] s t f g = in_none u (f u (in_first us u))
one_table (u ∷ us) (w ∷ ws) s t f g =
    order_or u w
    (λ h. in_or w ws u (f u (in_first us u)) (λ e. same_clash u w (sym e) h) (λ e. clash u w h (above_all w ws u t e)))
    (λ h.
    ap₂ {C = List ℤ} (λ (a : ℤ) (l : List ℤ). a ∷ l) h
    (one_table us ws (tail_ascends u us s) (tail_ascends w ws t)
    (λ x e. in_or w ws x (f x (in_more u us x e)) (λ k. same_clash u x (h ∙ k) (above_all u us x s e)) (λ k. k))
    (λ x e. in_or u us x (g x (in_more w ws x e)) (λ k. same_clash w x (sym h ∙ k) (above_all w ws x t e)) (λ k. k))))
    (λ h. in_or u us w (g w (in_first ws w)) (λ e. same_clash w u (sym e) h) (λ e. clash w u h (above_all u us w s e)))

-- ---- put in

insert_own : (v : ℤ) (us : List ℤ) → In (insert v us) v
unfolding insert
insert_own v [] = in_first [] v
insert_own v (u ∷ us) =
    order_or u v
    (λ h. rw h (in_more u (insert v us) v (insert_own v us)))
    (λ h. rw (subst (λ (z : ℤ). lt_z u z ≡ false) h (lt_irrefl u), subst (λ (z : ℤ). lt_z z u ≡ false) h (lt_irrefl u)) (in_head u us v h))
    (λ h. rw (lt_not v u h, h) (in_first (u ∷ us) v))

insert_keeps : (v : ℤ) (us : List ℤ) (x : ℤ) → In us x → In (insert v us) x
unfolding insert
insert_keeps v [] x e = in_none x e
insert_keeps v (u ∷ us) x e =
    true_or (lt_z u v)
    (λ h. rw h (in_or u us x e (λ s. in_head u (insert v us) x s) (λ s. in_more u (insert v us) x (insert_keeps v us x s))))
    (λ h. true_or (lt_z v u) (λ k. rw (h, k) (in_more v (u ∷ us) x e)) (λ k. rw (h, k) e))

insert_only : {X : Type 0} (v : ℤ) (us : List ℤ) (x : ℤ) → In (insert v us) x → (v ≡ x → X) → (In us x → X) → X
unfolding insert
insert_only v [] x e f g = in_or v [] x e f g
insert_only v (u ∷ us) x e f g =
    true_or (lt_z u v)
    (λ h.
    in_or u (insert v us) x (rw h at e) (λ s. g (in_head u us x s)) (λ s. insert_only v us x s f (λ k. g (in_more u us x k))))
    (λ h. true_or (lt_z v u) (λ k. in_or v (u ∷ us) x (rw (h, k) at e) f g) (λ k. g (rw (h, k) at e)))

insert_from : (a v : ℤ) (us : List ℤ) → lt_z a v ≡ true → ascends_from a us ≡ true → ascends_from a (insert v us) ≡ true
unfolding insert ascends_from
insert_from a v [] h t = rw h
insert_from a v (u ∷ us) h t =
    let b = both_true (lt_z a u) (ascends_from u us) t in
    true_or (lt_z u v)
    (λ k. rw (k, b.0) (insert_from u v us k b.1))
    (λ k. true_or (lt_z v u) (λ l. rw (k, l, h) (rw l b.1)) (λ l. rw (k, l) t))

pub insert_ascends : (v : ℤ) (us : List ℤ) → ascends us ≡ true → ascends (insert v us) ≡ true
unfolding insert ascends ascends_from
insert_ascends v [] t = refl
insert_ascends v (u ∷ us) t =
    true_or (lt_z u v)
    (λ k. rw k (insert_from u v us k t))
    (λ k. true_or (lt_z v u) (λ l. rw (k, l) (rw l t)) (λ l. rw (k, l) t))

-- each in turn
all_ascends : (us vs : List ℤ) → ascends us ≡ true → ascends (insert_all us vs) ≡ true
unfolding insert_all
all_ascends us [] t = t
all_ascends us (v ∷ vs) t = all_ascends (insert v us) vs (insert_ascends v us t)

all_keeps : (us vs : List ℤ) (x : ℤ) → In us x → In (insert_all us vs) x
unfolding insert_all
all_keeps us [] x e = e
all_keeps us (v ∷ vs) x e = all_keeps (insert v us) vs x (insert_keeps v us x e)

all_own : (us vs : List ℤ) (x : ℤ) → In vs x → In (insert_all us vs) x
unfolding insert_all
all_own us [] x e = in_none x e
all_own us (v ∷ vs) x e =
    in_or v vs x e (λ s. all_keeps (insert v us) vs x (subst (In (insert v us)) s (insert_own v us))) (λ s. all_own (insert v us) vs x s)

all_only : {X : Type 0} (us vs : List ℤ) (x : ℤ) → In (insert_all us vs) x → (In us x → X) → (In vs x → X) → X
unfolding insert_all
all_only us [] x e f g = f e
all_only us (v ∷ vs) x e f g =
    all_only (insert v us) vs x e
    (λ s. insert_only v us x s (λ k. g (in_head v vs x k)) f)
    (λ s. g (in_more v vs x s))

-- ---- the table of a list: ascending, with the members of the list, and no other is

pub table_ascends : (vs : List ℤ) → ascends (table_of vs) ≡ true
unfolding table_of ascends
table_ascends vs = all_ascends [] vs refl

pub table_has : (vs : List ℤ) (x : ℤ) → In vs x → In (table_of vs) x
unfolding table_of
table_has vs x e = all_own [] vs x e

pub table_only : (vs : List ℤ) (x : ℤ) → In (table_of vs) x → In vs x
unfolding table_of
table_only vs x e = all_only [] vs x e (λ s. in_none x s) (λ s. s)

pub table_is : (us vs : List ℤ) → ascends us ≡ true → all_in us vs ≡ true → all_in vs us ≡ true → us ≡ table_of vs
table_is us vs t a b =
    one_table us (table_of vs) t (table_ascends vs)
    (λ x e. table_has vs x (all_each vs us b x e))
    (λ x e. all_each us vs a x (table_only vs x e))

-- and it has no more entries than the list
insert_few : (v : ℤ) (us : List ℤ) → length (insert v us) ≤ suc (length us)
unfolding insert
insert_few v [] = omega arith
insert_few v (u ∷ us) =
    true_or (lt_z u v)
    (λ h. rw h (omega (arith, insert_few v us)))
    (λ h. true_or (lt_z v u) (λ k. rw (h, k) (omega arith)) (λ k. rw (h, k) (omega arith)))

all_few : (us vs : List ℤ) → length (insert_all us vs) ≤ length us + length vs
unfolding insert_all
all_few us [] = omega arith
all_few us (v ∷ vs) = omega (arith, all_few (insert v us) vs, insert_few v us)

pub table_few : (vs : List ℤ) → length (table_of vs) ≤ length vs
unfolding table_of
table_few vs = omega (arith, all_few [] vs)
