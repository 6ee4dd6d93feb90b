-- Decisions: below a bound, one of two things holds of some number or the other of all; so a statement about some or about all numbers below a bound is
-- decided where it is decided of each. Assumes nothing.
use Rattle.std.proofs.Common.{sym, subst, inl, inr, not-suc-le-zero, lt-suc_self, arith}
use Rattle.std.specs.Prelude.{◌⊎◌, Bool, true, false, ℕ, zero, suc, ◌<◌, T, eqb}
use Rattle.std.proofs.Math.Nat.{le_step}
use Rattle.sums.specs.Tests.{Same, same, other, same?}

-- some number below n has P, or all have Q
pub some-or-all : (P Q : ℕ → Type 0) → ((i : ℕ) → P i ⊎ Q i) → (n : ℕ) → ((i : ℕ) × (i < n) × P i) ⊎ ((i : ℕ) → i < n → Q i)
some-or-all P Q d zero = inr (λ i l. absurd (not-suc-le-zero l))
some-or-all P Q d (suc n) = by (some-or-all P Q d n) (d n)
  where
    at : ((i : ℕ) → i < n → Q i) → Q n → (i : ℕ) → i < suc n → Q i
    at f q i l = go (eqb i n) (same? i n)
      where
        go : (b : Bool) → Same i n b → Q i
        go true (same e) = subst Q (sym e) q
        go false (other e) = f i (omega arith)

    by : ((i : ℕ) × (i < n) × P i) ⊎ ((i : ℕ) → i < n → Q i) → P n ⊎ Q n → ((i : ℕ) × (i < suc n) × P i) ⊎ ((i : ℕ) → i < suc n → Q i)
    by (inl (i, l, p)) w = inl (i, le_step l, p)
    by (inr f) (inl p) = inl (n, lt-suc_self n, p)
    by (inr f) (inr q) = inr (at f q)

module _ (P : ℕ → Type 0) (d : (i : ℕ) → Dec (P i)) (n : ℕ) where
  pub some? : Dec ((i : ℕ) × (i < n) × P i)
  some? = by (some-or-all P (λ i. P i → ⊥) (λ i. one (d i)) n)
    where
      one : {A : Type 0} → Dec A → A ⊎ (A → ⊥)
      one (yes a) = inl a
      one (no h) = inr h

      by : ((i : ℕ) × (i < n) × P i) ⊎ ((i : ℕ) → i < n → P i → ⊥) → Dec ((i : ℕ) × (i < n) × P i)
      by (inl x) = yes x
      by (inr f) = no (λ w. f w.0 w.1 w.2)

  pub all? : Dec ((i : ℕ) → i < n → P i)
  all? = by (some-or-all (λ i. P i → ⊥) P (λ i. one (d i)) n)
    where
      one : {A : Type 0} → Dec A → (A → ⊥) ⊎ A
      one (yes a) = inr a
      one (no h) = inl h

      by : ((i : ℕ) × (i < n) × (P i → ⊥)) ⊎ ((i : ℕ) → i < n → P i) → Dec ((i : ℕ) → i < n → P i)
      by (inl (i, l, h)) = no (λ f. h (f i l))
      by (inr f) = yes f

pub test? : (b : Bool) → Dec (T b)
test? true = yes tt
test? false = no (λ t. t)
