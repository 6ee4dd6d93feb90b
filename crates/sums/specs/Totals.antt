-- Laws of sums over a list. Assumes nothing.
use Rattle.std.specs.Prelude.{◌≡◌, refl, Bool, true, false, ℕ, zero, suc, ◌+◌, ◌≤◌, ◌<◌, length}
use Rattle.std.proofs.Common.{ap, sym, arith, not-suc-le-zero, le_of_suc-le-suc}
use mathlib.Core.List.{List, [], ◌∷◌, ◌++◌, Memᴰ, map}
use Rattle.sums.specs.Counting.{when, only, sum, each, those, total}
use Rattle.std.proofs.Math.Option.{some}
use Rattle.std.proofs.Math.ListN.{get_elem?}
use Rattle.sums.specs.Sums.{sum-none, sum-add, sum_first}

pub total-add : {A : Type 0} (l : List A) (f g : A → ℕ) → total l (λ x. f x + g x) ≡ total l f + total l g
unfolding total
total-add [] f g = refl
total-add (x ∷ l) f g = omega (arith, total-add l f g)

pub total-le : {A : Type 0} (l : List A) (f g : A → ℕ) → ((x : A) → f x ≤ g x) → total l f ≤ total l g
unfolding total
total-le [] f g h = omega arith
total-le (x ∷ l) f g h = omega (arith, h x, total-le l f g h)

pub total-cong : {A : Type 0} (l : List A) (f g : A → ℕ) → ((x : A) → f x ≡ g x) → total l f ≡ total l g
unfolding total
total-cong [] f g h = refl
total-cong (x ∷ l) f g h = omega (arith, h x, total-cong l f g h)

pub total-none : {A : Type 0} (l : List A) (f : A → ℕ) → ((x : A) → f x ≡ 0) → total l f ≡ 0
unfolding total
total-none [] f h = refl
total-none (x ∷ l) f h = omega (arith, h x, total-none l f h)

-- one term of a sum
pub total-has : {A : Type 0} {x : A} (l : List A) (f : A → ℕ) → Memᴰ x l → f x ≤ total l f
unfolding total
total-has {A = A} [] f x'' = elim x'' [ ]
total-has (y ∷ l) f (Memᴰ.head e) = omega (arith, ap f e)
total-has (y ∷ l) f (Memᴰ.tail m) = omega (arith, total-has l f m)

pub total-append : {A : Type 0} (l m : List A) (f : A → ℕ) → total (l ++ m) f ≡ total l f + total m f
unfolding total
total-append [] m f = omega arith
total-append (x ∷ l) m f = omega (arith, total-append l m f)

-- ---- over lists made entry by entry

pub total-each : {A : Type 0} (n : ℕ) (F : ℕ → List A) (f : A → ℕ) → total (each n F) f ≡ sum n (λ i. total (F i) f)
unfolding each sum total
total-each zero F f = refl
total-each (suc n) F f = omega (arith, total-append (each n F) (F n) f, total-each n F f)

pub total-those : {A : Type 0} (p : A → Bool) (l : List A) (f : A → ℕ) → total (those p l) f ≡ total l (λ x. when (p x) (f x))
unfolding those total
total-those p [] f = refl
total-those {A} p (x ∷ l) f = by (p x) (total-those p l f)
  where
    by : (b : Bool) → total (those p l) f ≡ total l (λ y. when (p y) (f y))
        → total (only b (x ∷ []) ++ those p l) f ≡ when b (f x) + total l (λ y. when (p y) (f y))
    by true r = omega arith
    by false r = omega arith

pub total-when : {A : Type 0} (b : Bool) (l : List A) (f : A → ℕ) → total l (λ x. when b (f x)) ≡ when b (total l f)
total-when true l f = refl
total-when false l f = total-none l (λ x. 0) (λ x. refl)

pub total-map : {A B : Type 0} (h : A → B) (l : List A) (f : B → ℕ) → total (map h l) f ≡ total l (λ x. f (h x))
unfolding total
total-map h [] f = refl
total-map h (x ∷ l) f = omega (arith, total-map h l f)

-- terms that are those of a list, entry by entry, and 0 behind it
pub sum-entries : {A : Type 0} (l : List A) (n : ℕ) (g : ℕ → ℕ) (f : A → ℕ) → length l ≤ n → ((i : ℕ) (x : A) → get_elem? l i ≡ some x → g i ≡ f x)
    → ((i : ℕ) → length l ≤ i → i < n → g i ≡ 0) → sum n g ≡ total l f
unfolding total
sum-entries [] n g f k e z = sum-none n g (λ i h. z i (omega arith) h)
sum-entries (x ∷ l) zero g f k e z = absurd (not-suc-le-zero k)
sum-entries (x ∷ l) (suc n) g f k e z =
    omega (
      arith,
      sum_first n g,
      e 0 x refl,
      sum-entries l n (λ i. g (suc i)) f (le_of_suc-le-suc k) (λ i y h. e (suc i) y h) (λ i p q. z (suc i) (omega arith) (omega arith)),
    )

-- a bound that holds of the entries alone
pub total-le-in : {A : Type 0} (l : List A) (f g : A → ℕ) → ((x : A) → Memᴰ x l → f x ≤ g x) → total l f ≤ total l g
unfolding total
total-le-in [] f g h = omega arith
total-le-in (x ∷ l) f g h = omega (arith, h x (Memᴰ.head refl), total-le-in l f g (λ y m. h y (Memᴰ.tail m)))

pub total-swap : {A B : Type 0} (l : List A) (m : List B) (g : A → B → ℕ) → total l (λ x. total m (λ y. g x y)) ≡ total m (λ y. total l (λ x. g x y))
unfolding total
total-swap [] m g = sym (total-none m (λ y. 0) (λ y. refl))
total-swap (x ∷ l) m g = omega (arith, total-swap l m g, total-add m (λ y. g x y) (λ y. total l (λ x. g x y)))

pub total-sum : {A : Type 0} (l : List A) (n : ℕ) (g : A → ℕ → ℕ) → total l (λ x. sum n (λ i. g x i)) ≡ sum n (λ i. total l (λ x. g x i))
unfolding total
total-sum [] n g = sym (sum-none n (λ i. 0) (λ i k. refl))
total-sum (x ∷ l) n g = omega (arith, total-sum l n g, sum-add n (λ i. g x i) (λ i. total l (λ x. g x i)))

pub length-total : {A : Type 0} (l : List A) → length l ≡ total l (λ x. 1)
unfolding total
length-total [] = refl
length-total (x ∷ l) = omega (arith, length-total l)
