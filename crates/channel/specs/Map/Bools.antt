-- Tests and their outcomes: the arms of a test, tests that agree, and what `&&` and `||` come to. Assumes nothing.
use Rattle.std.specs.Prelude.{◌≡◌, refl, Bool, true, false, not, ◌&&◌, ◌||◌, ℕ, ◌≤◌, ◌<◌, T, leb, ltb}
use Rattle.std.proofs.Common.{sym, subst, ltb-false, leb-false}
use Rattle.std.specs.Bool.{beq}
use Rattle.sums.specs.Tests.{and_left, so}

-- the two arms of a test whose outcome is known
pub if-true : {A : Type 0} (b : Bool) (x y : A) → b ≡ true → elim b [ true ↦ x | false ↦ y ] ≡ x
if-true true x y e = refl
if-true false x y e = absurd (subst T (sym e) tt)

pub if-false : {A : Type 0} (b : Bool) (x y : A) → b ≡ false → elim b [ true ↦ x | false ↦ y ] ≡ y
if-false true x y e = absurd (subst T e tt)
if-false false x y e = refl

-- two tests that agree
pub same_test : (a b : Bool) → T (beq a b) → a ≡ b
same_test true true t = refl
same_test true false t = absurd t
same_test false true t = absurd t
same_test false false t = refl

pub not_so : (a b : Bool) → T (not (a && b)) → T a → b ≡ false
not_so true true t s = absurd t
not_so true false t s = refl
not_so false b t s = absurd s

pub if-so : (a b : Bool) → T (not a || b) → T a → T b
if-so true b t s = t
if-so false b t s = absurd s

-- ---- a test as an equation

pub is-on : (b : Bool) → T b → b ≡ true
is-on true t = refl
is-on false t = absurd t

pub is-off : (b : Bool) → T (not b) → b ≡ false
is-off true t = absurd t
is-off false t = refl

pub is-left : (a b : Bool) → (a && b) ≡ true → a ≡ true
is-left a b e = is-on a (and_left a b (so e))

-- ---- conjunction and disjunction

pub and_same : (b : Bool) → (b && b) ≡ b
and_same true = refl
and_same false = refl

pub and-true : (b : Bool) → (b && true) ≡ b
and-true true = refl
and-true false = refl

pub and-false : (b : Bool) → (b && false) ≡ false
and-false true = refl
and-false false = refl

pub and-swap : (a b : Bool) → (a && b) ≡ (b && a)
and-swap true b = sym (and-true b)
and-swap false b = sym (and-false b)

pub or-true : (b : Bool) → (b || true) ≡ true
or-true true = refl
or-true false = refl

pub or-false : (b : Bool) → (b || false) ≡ b
or-false true = refl
or-false false = refl

-- what is left by a test of both ends
pub between : (x a b : ℕ) → (ltb x a || leb b x) ≡ false → (a ≤ x) × (x < b)
between x a b e = by (ltb x a) refl (leb b x) refl e
  where
    by : (s : Bool) → ltb x a ≡ s → (t : Bool) → leb b x ≡ t → (s || t) ≡ false → (a ≤ x) × (x < b)
    by true p t q z = absurd (subst T z tt)
    by false p true q z = absurd (subst T z tt)
    by false p false q z = (ltb-false x a p, leb-false b x q)
