-- What the audit decides: a record whose values, loads and unused bytes are in order, loops apart; and how a program's answer decides a statement.
-- Assumes nothing.
use Rattle.std.specs.Prelude.{◌≡◌, refl, Bool, true, false, not, ◌&&◌, List, ℕ, ◌+◌, ◌≤◌, ◌<◌, T, eqb, length}
use Rattle.std.proofs.Common.{sym, subst, arith}
use Rattle.sums.specs.Tests.{Same, same, other, same?}
use Rattle.model.specs.Loads.{Feasible}
use Rattle.model.specs.Record.{record_size, job_of, load, InRange, Unused}

-- `Legal` without its demand that no loop stands
pub record FeasibleRecord (rec : List ℕ) : Type 0 where
  pub long : record_size ≤ length rec
  pub values : InRange rec
  pub feasible : Feasible (job_of rec) (load rec)
  pub unused : Unused rec

-- b says whether P holds
pub record Decides (P : Type 0) (b : Bool) : Type 0 where
  pub yes : b ≡ true → P
  pub no : b ≡ false → P → ⊥

-- ---- answers

pub decides-yes : {P : Type 0} → P → Decides P true
decides-yes p = record { yes = λ e. p; no = λ e q. subst T e tt }

pub decides-no : {P : Type 0} → (P → ⊥) → Decides P false
decides-no n = record { yes = λ e. absurd (subst T (sym e) tt); no = λ e q. n q }

-- a test that fails, and one that passes
pub test-fails : (t u : Bool) → t ≡ u → not t ≡ true → T u → ⊥
test-fails true u e n s = subst T (sym n) tt
test-fails false u e n s = subst T (sym e) s

pub test-holds : (t u : Bool) → t ≡ u → not t ≡ false → T u
test-holds true u e n = subst T e tt
test-holds false u e n = absurd (subst T n tt)

-- what holds below n, and at n
one_more : (P : ℕ → Type 0) (n : ℕ) → ((i : ℕ) → i < n → P i) → P n → (i : ℕ) → i < n + 1 → P i
one_more P n f p i l = by (eqb i n) (same? i n)
  where
    by : (b : Bool) → Same i n b → P i
    by true (same e) = subst P (sym e) p
    by false (other e) = f i (omega arith)

-- tested below n, and at n
pub decides-more : (P : ℕ → Type 0) (n : ℕ) (b t : Bool) → Decides ((i : ℕ) → i < n → P i) b → Decides (P n) t → Decides ((i : ℕ) → i < n + 1 → P i) (b && t)
decides-more P n true true d e = decides-yes (one_more P n (d.yes refl) (e.yes refl))
decides-more P n true false d e = decides-no (λ f. e.no refl (f n (omega arith)))
decides-more P n false t d e = decides-no (λ f. d.no refl (λ i l. f i (omega arith)))

-- a test asked where A holds, which does
pub decides-here : (A : Type 0) (t u : Bool) → t ≡ u → A → Decides (A → T u) t
decides-here A true u e a = decides-yes (λ b. subst T e tt)
decides-here A false u e a = decides-no (λ f. subst T (sym e) (f a))
