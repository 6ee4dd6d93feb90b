-- Reading a number digit by digit: one digit more. Assumes nothing.
use mathlib.Core.Path.{◌≡◌, sym, ap, subst, ◌∙◌}
use mathlib.Core.Logic.{◌⊎◌, inl, inr}
use mathlib.Core.List.{List}
use Prim.Native.Nat.{ℕ, ◌+◌, ◌-◌, ◌*◌, ◌≤◌, ◌<◌}
use native.Mathlib.Numerals.{add-one}
use native.Mathlib.Omega.{arith}
use lib.Dec.{T}
use lib.ListN.{length, get_or}
use Rattle.sums.specs.Tests.{below_or}
use Rattle.std.specs.Prelude.{Some}
use Rattle.rules.specs.Arguments.{is_digit, decimal, capped, Written, digits}

pub digits_more : (text : List ℕ) (i : ℕ) → ((j : ℕ) → j < i → T (is_digit (get_or text j 0))) → T (is_digit (get_or text i 0))
    → (j : ℕ) → j < i + 1 → T (is_digit (get_or text j 0))
digits_more text i h t j l = by (below_or j i)
  where
    by : (j < i) ⊎ (i ≤ j) → T (is_digit (get_or text j 0))
    by (inl k) = h j k
    by (inr k) = subst (λ n. T (is_digit (get_or text n 0))) (omega arith) t

pub decimal-more : (text : List ℕ) (i n : ℕ) → n ≡ capped (decimal text i) → capped (10 * n + (get_or text i 0 - 48)) ≡ capped (decimal text (i + 1))
unfolding decimal
decimal-more text i n e = rw add-one (omega (arith, e))

pub written : (text : List ℕ) (i n : ℕ) → i ≡ length text → 0 < length text → n ≡ capped (decimal text i)
    → ((j : ℕ) → j < i → T (is_digit (get_or text j 0))) → Written text (Some n)
written text i n e l q h = subst (λ m. Written text (Some m)) (sym (q ∙ ap (λ m. capped (decimal text m)) e)) (digits l (λ j k. h j (omega arith)))
