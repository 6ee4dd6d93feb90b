-- Laws of `when` and of sums over the numbers below a bound. Assumes nothing.
use Rattle.std.specs.Prelude.{◌≡◌, refl, ◌≢◌, ◌⊎◌, Bool, true, false, not, ◌&&◌, ℕ, zero, suc, ◌+◌, ◌*◌, ◌≤◌, ◌<◌, ◌-◌, T, eqb}
use Rattle.std.proofs.Common.{sym, ap, ◌∙◌, subst, inl, inr, le_refl, not-suc-le-zero, lt-suc_self, eq-zero-or-pos, add-zero, add-suc, zero-mul, suc-mul, zero-lt-suc, arith}
use Rattle.std.proofs.Math.Nat.{le_step}
use Rattle.sums.specs.Counting.{when, sum}
use Rattle.sums.specs.Tests.{Same, same, other, same?, eqb-iff}
use Rattle.std.proofs.Math.Option.{Option, none, some}

-- ---- a number under a condition

pub when-same : (a b x : ℕ) → a ≡ b → when (eqb a b) x ≡ x
when-same a b x e = go (eqb a b) (same? a b)
  where
    go : (t : Bool) → Same a b t → when t x ≡ x
    go true (same e) = refl
    go false (other n) = absurd (n e)

pub when-other : (a b x : ℕ) → a ≢ b → when (eqb a b) x ≡ 0
when-other a b x n = go (eqb a b) (same? a b)
  where
    go : (t : Bool) → Same a b t → when t x ≡ 0
    go true (same e) = absurd (n e)
    go false (other n) = refl

pub when-add : (b : Bool) (x y : ℕ) → when b (x + y) ≡ when b x + when b y
when-add true x y = refl
when-add false x y = refl

pub when-le : (b : Bool) (x y : ℕ) → (T b → x ≤ y) → when b x ≤ when b y
when-le true x y h = h tt
when-le false x y h = le_refl 0

pub when-cong : (b : Bool) (x y : ℕ) → (T b → x ≡ y) → when b x ≡ when b y
when-cong true x y h = h tt
when-cong false x y h = refl

pub when-none : (b : Bool) (x : ℕ) → (T b → x ≡ 0) → when b x ≡ 0
when-none true x h = h tt
when-none false x h = refl

pub when-so : (b : Bool) (x : ℕ) → T b → when b x ≡ x
when-so true x t = refl
when-so false x t = absurd t

pub when-when : (a b : Bool) (x : ℕ) → when a (when b x) ≡ when b (when a x)
when-when true true x = refl
when-when true false x = refl
when-when false true x = refl
when-when false false x = refl

pub when-part : (b : Bool) (x : ℕ) → when b x + when (not b) x ≡ x
when-part true x = omega arith
when-part false x = omega arith

pub when-split : (a b : Bool) (x : ℕ) → when a x ≡ when (a && not b) x + when (a && b) x
when-split true true x = omega arith
when-split true false x = omega arith
when-split false b x = refl

-- ---- sums

pub sum-cong : (n : ℕ) (g h : ℕ → ℕ) → ((i : ℕ) → i < n → g i ≡ h i) → sum n g ≡ sum n h
unfolding sum
sum-cong zero g h e = refl
sum-cong (suc n) g h e =
    let r : sum n g ≡ sum n h = sum-cong n g h (λ i l. e i (le_step l)) in
    omega (arith, e n (lt-suc_self n))

pub sum-le : (n : ℕ) (g h : ℕ → ℕ) → ((i : ℕ) → i < n → g i ≤ h i) → sum n g ≤ sum n h
unfolding sum
sum-le zero g h e = le_refl 0
sum-le (suc n) g h e =
    let r : sum n g ≤ sum n h = sum-le n g h (λ i l. e i (le_step l)) in
    omega (arith, e n (lt-suc_self n))

pub sum-none : (n : ℕ) (g : ℕ → ℕ) → ((i : ℕ) → i < n → g i ≡ 0) → sum n g ≡ 0
unfolding sum
sum-none zero g e = refl
sum-none (suc n) g e =
    let r : sum n g ≡ 0 = sum-none n g (λ i l. e i (le_step l)) in
    omega (arith, e n (lt-suc_self n))

-- where each term is at most its bound and the sums are equal, each term is its bound
pub sum-tight : (n : ℕ) (g h : ℕ → ℕ) → ((i : ℕ) → i < n → g i ≤ h i) → sum n h ≤ sum n g → (i : ℕ) → i < n → g i ≡ h i
unfolding sum
sum-tight zero g h e s i l = absurd (not-suc-le-zero l)
sum-tight (suc n) g h e s i l = go (eqb i n) (same? i n) (λ d k. sum-tight n g h (λ j m. e j (le_step m)) d i k)
  where
    go : (t : Bool) → Same i n t → (sum n h ≤ sum n g → i < n → g i ≡ h i) → g i ≡ h i
    go true (same p) r =
        subst (λ (x : ℕ). g x ≡ h x) (sym p) (omega (arith, sum-le n g h (λ j m. e j (le_step m)), e n (lt-suc_self n)))
    go false (other p) r = r (omega (arith, e n (lt-suc_self n))) (omega arith)

pub sum-add : (n : ℕ) (g h : ℕ → ℕ) → sum n (λ i. g i + h i) ≡ sum n g + sum n h
unfolding sum
sum-add zero g h = refl
sum-add (suc n) g h = omega (arith, sum-add n g h)

pub sum-swap : (n m : ℕ) (g : ℕ → ℕ → ℕ) → sum n (λ i. sum m (λ j. g i j)) ≡ sum m (λ j. sum n (λ i. g i j))
unfolding sum
sum-swap zero m g = sym (sum-none m (λ j. 0) (λ i l. refl))
sum-swap (suc n) m g = ap (λ (x : ℕ). x + sum m (λ j. g n j)) (sum-swap n m g) ∙ sym (sum-add m (λ j. sum n (λ i. g i j)) (λ j. g n j))

pub sum-when : (b : Bool) (n : ℕ) (g : ℕ → ℕ) → sum n (λ i. when b (g i)) ≡ when b (sum n g)
sum-when true n g = refl
sum-when false n g = sum-none n (λ i. 0) (λ i l. refl)

-- a sum by a test: where it passes, and where it fails
pub sum-part : (n : ℕ) (p : ℕ → Bool) (g : ℕ → ℕ) → sum n g ≡ sum n (λ i. when (p i) (g i)) + sum n (λ i. when (not (p i)) (g i))
sum-part n p g = simp (← sum-add, when-part)

-- the one term at which a test passes
pub sum-pick : (n a : ℕ) (g : ℕ → ℕ) → a < n → sum n (λ i. when (eqb a i) (g i)) ≡ g a
unfolding sum
sum-pick zero a g l = absurd (not-suc-le-zero l)
sum-pick (suc n) a g l = go (eqb a n) (same? a n) (sum-pick n a g)
  where
    go : (t : Bool) → Same a n t → (a < n → sum n (λ i. when (eqb a i) (g i)) ≡ g a) → sum n (λ i. when (eqb a i) (g i)) + when t (g n) ≡ g a
    go true (same p) r =
        omega (arith, ap g p, sum-none n (λ i. when (eqb a i) (g i)) (λ i k. when-other a i (g i) (omega arith)))
    go false (other p) r = omega (arith, r (omega arith))

-- a sum over the fibres of t
pub sum-fibre : (n m : ℕ) (t : ℕ → ℕ) (g : ℕ → ℕ → ℕ) → ((j : ℕ) → j < m → t j < n)
    → sum n (λ i. sum m (λ j. when (eqb (t j) i) (g i j))) ≡ sum m (λ j. g (t j) j)
sum-fibre n m t g l =
    sum-swap n m (λ i j. when (eqb (t j) i) (g i j))
    ∙ sum-cong m _ _ (λ j k. sum-pick n (t j) (λ i. g i j) (l j k))

-- a sum taken in another order, by an involution
pub sum-rev : (n : ℕ) (r : ℕ → ℕ) (g : ℕ → ℕ) → ((i : ℕ) → i < n → r i < n) → ((i : ℕ) → i < n → r (r i) ≡ i) → sum n (λ i. g (r i)) ≡ sum n g
sum-rev n r g l v =
    sym (sum-fibre n n r (λ i j. g i) l)
    ∙ sum-cong n _ _ one
  where
    one : (i : ℕ) → i < n → sum n (λ j. when (eqb (r j) i) (g i)) ≡ g i
    one i k =
        sum-cong n _ _
        (λ j h. ap (λ (b : Bool). when b (g i)) (eqb-iff (r j) i (r i) j (λ p. ap r (sym p) ∙ v j h) (λ p. ap r (sym p) ∙ v i k)))
        ∙ sum-pick n (r i) (λ j. g i) (l i k)

-- a sum that is not 0 has a term that is not 0
pub sum-some : (n : ℕ) (g : ℕ → ℕ) → 0 < sum n g → (i : ℕ) × (i < n) × (0 < g i)
unfolding sum
sum-some zero g p = absurd (not-suc-le-zero p)
sum-some (suc n) g p = go (eq-zero-or-pos (g n)) (sum-some n g)
  where
    go : (g n ≡ 0) ⊎ (0 < g n) → (0 < sum n g → (i : ℕ) × (i < n) × (0 < g i)) → (i : ℕ) × (i < suc n) × (0 < g i)
    go (inl e) r = let (i, l, q) = r (omega arith) in (i, le_step l, q)
    go (inr q) r = (n, lt-suc_self n, q)

pub when-some : (b : Bool) (x : ℕ) → 0 < when b x → T b × (0 < x)
when-some true x p = (tt, p)
when-some false x p = absurd (not-suc-le-zero p)

pub sum-append : (a b : ℕ) (g : ℕ → ℕ) → sum (a + b) g ≡ sum a g + sum b (λ i. g (a + i))
unfolding sum
sum-append a zero g = rw add-zero (omega arith)
sum-append a (suc b) g = rw add-suc (omega (arith, sum-append a b g))

-- a sum row by row
pub sum_rows : (n k : ℕ) (g : ℕ → ℕ) → sum (n * k) g ≡ sum n (λ u. sum k (λ i. g (u * k + i)))
unfolding sum
sum_rows zero k g = rw zero-mul
sum_rows (suc n) k g = rw suc-mul (omega (arith, sum-append (n * k) k g, sum_rows n k g))

-- a condition that holds wherever the number is not 0
pub when-full : (b : Bool) (x : ℕ) → (0 < x → T b) → when b x ≡ x
when-full true x h = refl
when-full false zero h = refl
when-full false (suc x) h = absurd (h (zero-lt-suc x))

pub when-and : (a b : Bool) (x : ℕ) → when a (when b x) ≡ when (a && b) x
when-and true b x = refl
when-and false b x = refl

pub when-implies : (a b : Bool) (x : ℕ) → (T a → T b) → when a x ≤ when b x
when-implies true true x h = le_refl x
when-implies true false x h = absurd (h tt)
when-implies false b x h = omega arith

-- terms that are 0 from n on
pub sum-widen : (n m : ℕ) (g : ℕ → ℕ) → n ≤ m → ((i : ℕ) → n ≤ i → i < m → g i ≡ 0) → sum m g ≡ sum n g
sum-widen n m g l e =
    let p : m ≡ n + (m - n) = omega arith in
    ap (λ (k : ℕ). sum k g) p
    ∙ omega (arith, sum-append n (m - n) g, sum-none (m - n) (λ i. g (n + i)) (λ i k. e (n + i) (omega arith) (omega arith)))

pub sum_first : (n : ℕ) (g : ℕ → ℕ) → sum (suc n) g ≡ g 0 + sum n (λ i. g (suc i))
unfolding sum
sum_first zero g = omega arith
sum_first (suc n) g = omega (arith, sum_first n g)

pub sum_ones : (n : ℕ) → sum n (λ i. 1) ≡ n
unfolding sum
sum_ones zero = refl
sum_ones (suc n) = omega (arith, sum_ones n)

-- ---- entries by index

abbrev is_none : {A : Type 0} → Option A → Bool
is_none none = true
is_none (some x) = false
