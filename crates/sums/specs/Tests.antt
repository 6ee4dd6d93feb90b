-- Tests taken apart: what `eqb` and `&&` say, and a test of every entry of a list or of every number below a bound. Assumes nothing.
use Rattle.std.specs.Prelude.{◌≡◌, refl, ◌≢◌, ◌⊎◌, Bool, true, false, not, ◌&&◌, ◌||◌, ℕ, zero, suc, ◌+◌, ◌≤◌, ◌<◌, T, eqb}
use Rattle.std.proofs.Common.{sym, subst, inl, inr, not-suc-le-zero, arith, eqb→eq}
use mathlib.Core.List.Memᴰ
use mathlib.Core.List.{List, [], ◌∷◌, ◌++◌, Memᴰ}
use Rattle.std.proofs.Math.Decide.{dec_lt}
use Rattle.std.proofs.Math.Dec.{eqb_refl}
use Rattle.sums.specs.Counting.{when, only, each, those, total, count}

-- ---- order of numbers

pub below_or : (a b : ℕ) → (a < b) ⊎ (b ≤ a)
below_or a b = by (dec_lt a b)
  where
    by : Dec (a < b) → (a < b) ⊎ (b ≤ a)
    by (yes p) = inl p
    by (no p) = inr (omega arith)

-- ---- equality of numbers

-- what `eqb a b` says
pub data Same (a b : ℕ) : Bool → Type 0 where
  same : a ≡ b → Same a b true
  other : a ≢ b → Same a b false

pub same? : (a b : ℕ) → Same a b (eqb a b)
same? a b = go (eqb a b) (eqb→eq a b) (λ (e : a ≡ b). subst (λ (x : ℕ). T (eqb a x)) e (eqb_refl a))
  where
    go : (t : Bool) → (T t → a ≡ b) → (a ≡ b → T t) → Same a b t
    go true f g = same (f tt)
    go false f g = other g

-- a test that holds exactly where another does
pub eqb-iff : (a b c d : ℕ) → (a ≡ b → c ≡ d) → (c ≡ d → a ≡ b) → eqb a b ≡ eqb c d
eqb-iff a b c d f g = go (eqb a b) (same? a b) (eqb c d) (same? c d)
  where
    go : (s : Bool) → Same a b s → (t : Bool) → Same c d t → s ≡ t
    go true (same e) true (same k) = refl
    go true (same e) false (other k) = absurd (k (f e))
    go false (other e) true (same k) = absurd (e (g k))
    go false (other e) false (other k) = refl

-- ---- conjunction

pub and_left : (a b : Bool) → T (a && b) → T a
and_left true b t = tt
and_left false b t = t

pub and_right : (a b : Bool) → T (a && b) → T b
and_right true b t = t
and_right false b t = absurd t

pub and_both : (a b : Bool) → T a → T b → T (a && b)
and_both true b s t = t
and_both false b s t = s

-- an implication as a test
pub if-so : (a b : Bool) → T (not a || b) → T a → T b
if-so true b t s = t
if-so false b t s = absurd s

pub or-by : {A : Type 0} (a b : Bool) → (T a → A) → (T b → A) → T (a || b) → A
or-by true b f g t = f tt
or-by false b f g t = g t

pub and_comm : (a b : Bool) → (a && b) ≡ (b && a)
and_comm true true = refl
and_comm true false = refl
and_comm false true = refl
and_comm false false = refl

pub and-not : (b : Bool) → T (b && not b) → ⊥
and-not true t = t
and-not false t = t

-- a test whose outcome is known by an equation
pub so : {b : Bool} → b ≡ true → T b
so e = subst T (sym e) tt

pub so-not : {b : Bool} → b ≡ false → T (not b)
so-not e = subst (λ (x : Bool). T (not x)) (sym e) tt

pub both_ways : (a b : Bool) → (T a → T b) → (T b → T a) → a ≡ b
both_ways true true f g = refl
both_ways true false f g = absurd (f tt)
both_ways false true f g = absurd (g tt)
both_ways false false f g = refl

-- ---- every entry of a list

unfoldable pub every : {A : Type 0} → List A → (A → Bool) → Bool
every [] p = true
every (x ∷ l) p = p x && every l p

pub every-at : {A : Type 0} {x : A} (l : List A) (p : A → Bool) → T (every l p) → Memᴰ x l → T (p x)
unfolding every
every-at {A = A} {x = x} [] p t x3 = elim x3 [ ]
every-at {A} {x} (y ∷ l) p t (Memᴰ.head e) = subst (λ (z : A). T (p z)) (sym e) (and_left (p y) (every l p) t)
every-at (y ∷ l) p t (Memᴰ.tail m) = every-at l p (and_right (p y) (every l p) t) m

pub every_append : {A : Type 0} (l m : List A) (p : A → Bool) → T (every l p) → T (every m p) → T (every (l ++ m) p)
unfolding every
every_append [] m p s t = t
every_append (x ∷ l) m p s t =
    and_both (p x) (every (l ++ m) p) (and_left (p x) (every l p) s) (every_append l m p (and_right (p x) (every l p) s) t)

-- ---- every number below a bound

unfoldable pub below : ℕ → (ℕ → Bool) → Bool
below zero p = true
below (suc n) p = below n p && p n

pub below_at : (n : ℕ) (p : ℕ → Bool) → T (below n p) → (i : ℕ) → i < n → T (p i)
unfolding below
below_at zero p t i l = absurd (not-suc-le-zero l)
below_at (suc n) p t i l = by (eqb i n) (same? i n) (below_at n p (and_left (below n p) (p n) t) i)
  where
    by : (b : Bool) → Same i n b → (i < n → T (p i)) → T (p i)
    by true (same e) r = subst (λ (j : ℕ). T (p j)) (sym e) (and_right (below n p) (p n) t)
    by false (other e) r = r (omega arith)

-- ---- membership in lists made entry by entry

pub each-has : {A : Type 0} {x : A} (n i : ℕ) (f : ℕ → List A) → i < n → Memᴰ x (f i) → Memᴰ x (each n f)
unfolding each
each-has zero i f l m = absurd (not-suc-le-zero l)
each-has {A} {x} (suc n) i f l m = by (eqb i n) (same? i n) (λ k. each-has n i f k m)
  where
    by : (b : Bool) → Same i n b → (i < n → Memᴰ x (each n f)) → Memᴰ x (each n f ++ f n)
    by true (same e) r = Memᴰ.append_right (each n f) (subst (λ (j : ℕ). Memᴰ x (f j)) e m)
    by false (other e) r = Memᴰ.append_left (f n) (r (omega arith))

pub those-has : {A : Type 0} {x : A} (p : A → Bool) (l : List A) → T (p x) → Memᴰ x l → Memᴰ x (those p l)
unfolding those
those-has {A = A} {x = x} p [] t x3 = elim x3 [ ]
those-has {A} {x} p (y ∷ l) t (Memᴰ.head e) = by (p y) (subst (λ (z : A). T (p z)) e t)
  where
    by : (b : Bool) → T b → Memᴰ x (only b (y ∷ []) ++ those p l)
    by true u = Memᴰ.head e
    by false u = absurd u
those-has p (y ∷ l) t (Memᴰ.tail m) = Memᴰ.append_right (only (p y) (y ∷ [])) (those-has p l t m)

-- ---- what a count or a sum above 0 tells

pub count-some : {A : Type 0} (l : List A) (p : A → Bool) → (count l p ≡ 0) ⊎ ((x : A) × Memᴰ x l × T (p x))
unfolding total
count-some [] p = inl refl
count-some {A} (x ∷ l) p = by (p x) refl (count-some l p)
  where
    by : (b : Bool) → p x ≡ b → (count l p ≡ 0) ⊎ ((y : A) × Memᴰ y l × T (p y)) → (when b 1 + count l p ≡ 0) ⊎ ((y : A) × Memᴰ y (x ∷ l) × T (p y))
    by true e r = inr (x, Memᴰ.head refl, so e)
    by false e (inl z) = inl (omega arith)
    by false e (inr (y, m, t)) = inr (y, Memᴰ.tail m, t)

pub total-some : {A : Type 0} (l : List A) (f : A → ℕ) → (total l f ≡ 0) ⊎ ((x : A) × Memᴰ x l × (0 < f x))
unfolding total
total-some [] f = inl refl
total-some {A} (x ∷ l) f = by (f x) refl (total-some l f)
  where
    by : (n : ℕ) → f x ≡ n → (total l f ≡ 0) ⊎ ((y : A) × Memᴰ y l × (0 < f y)) → (n + total l f ≡ 0) ⊎ ((y : A) × Memᴰ y (x ∷ l) × (0 < f y))
    by zero e (inl z) = inl (omega arith)
    by zero e (inr (y, m, t)) = inr (y, Memᴰ.tail m, t)
    by (suc n) e r = inr (x, Memᴰ.head refl, omega arith)

-- a count over a list of lists is 0, or one of the lists has an entry that passes the test
pub total-count-some : {A B : Type 0} (l : List A) (f : A → List B) (p : B → Bool)
    → (total l (λ a. count (f a) p) ≡ 0) ⊎ ((a : A) × Memᴰ a l × (b : B) × Memᴰ b (f a) × T (p b))
total-count-some {A} {B} l f p = by (total-some l (λ a. count (f a) p))
  where
    Found : Type 0
    Found = (a : A) × Memᴰ a l × (b : B) × Memᴰ b (f a) × T (p b)

    within : (a : A) → Memᴰ a l → (count (f a) p ≡ 0) ⊎ ((b : B) × Memᴰ b (f a) × T (p b)) → 0 < count (f a) p → Found
    within a m (inl z) u = absurd (omega arith)
    within a m (inr (b, n, t)) u = (a, m, b, n, t)

    by : (total l (λ a. count (f a) p) ≡ 0) ⊎ ((a : A) × Memᴰ a l × (0 < count (f a) p)) → (total l (λ a. count (f a) p) ≡ 0) ⊎ Found
    by (inl z) = inl z
    by (inr (a, m, u)) = inr (within a m (count-some (f a) p) u)
