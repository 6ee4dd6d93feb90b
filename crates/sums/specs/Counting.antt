-- The words of counting: a number under a condition, sums over the numbers below a bound and over a list, lists made entry by entry. Assumes nothing.
use Rattle.std.specs.Prelude.{Bool, true, false, List, [], ◌∷◌, ◌++◌, ℕ, zero, suc, ◌+◌}

-- x where b holds, else 0
abbrev pub when : Bool → ℕ → ℕ
when true x = x
when false x = 0

-- the list where b holds, else nothing
abbrev pub only : {A : Type 0} → Bool → List A → List A
only true l = l
only false l = []

-- f 0 + f 1 + .. + f (n - 1)
unfoldable pub sum : ℕ → (ℕ → ℕ) → ℕ
sum zero f = 0
sum (suc n) f = sum n f + f n

-- f 0, f 1, .. f (n - 1), one after the other
unfoldable pub each : {A : Type 0} → ℕ → (ℕ → List A) → List A
each zero f = []
each (suc n) f = each n f ++ f n

-- those for which p holds, in order
unfoldable pub those : {A : Type 0} → (A → Bool) → List A → List A
those p [] = []
those p (x ∷ l) = only (p x) (x ∷ []) ++ those p l

-- f added up over the list
unfoldable pub total : {A : Type 0} → List A → (A → ℕ) → ℕ
total [] f = 0
total (x ∷ l) f = f x + total l f

-- how many of the list pass the test
abbrev pub count : {A : Type 0} → List A → (A → Bool) → ℕ
count l p = total l (λ x. when (p x) 1)
