-- The lowest bit of 1 of a number below 256: it is where the zeros under it end. Assumes nothing.
use Rattle.std.specs.Prelude.{◌≡◌, Bool, not, ◌&&◌, ◌||◌, ℕ, ◌/◌, ◌%◌, ◌^◌, ◌<◌, T, eqb, ltb}
use Rattle.std.proofs.Common.{arith, eqb→eq, ltb→lt, lt→ltb}
use Rattle.std.specs.Int.Count.{count_trailing_zeros}
use Rattle.sums.specs.Tests.{below, below_at, and_left, and_right, if-so}

-- the lowest bit of 1 of x stands at r
pub record Lowest (x r : ℕ) : Type 0 where
  pub here : x / 2 ^ r % 2 ≡ 1
  pub under : (j : ℕ) → j < r → x / 2 ^ j % 2 ≡ 0

unfoldable is_lowest : ℕ → ℕ → Bool
is_lowest x r = ltb r 8 && (eqb (x / 2 ^ r % 2) 1 && below 8 (λ j. not (ltb j r) || eqb (x / 2 ^ j % 2) 0))

lowest-test : (x r : ℕ) → T (is_lowest x r) → Lowest x r
unfolding is_lowest
lowest-test x r t =
    let s = and_right (ltb r 8) _ t in
    record {
      here = eqb→eq _ _ (and_left (eqb (x / 2 ^ r % 2) 1) _ s);
      under = λ j l. eqb→eq _ _ (if-so (ltb j r) _ (below_at 8 (λ j. not (ltb j r) || eqb (x / 2 ^ j % 2) 0) (and_right (eqb (x / 2 ^ r % 2) 1) _ s) j
          (omega (arith, ltb→lt r 8 (and_left (ltb r 8) _ t)))) (lt→ltb j r l));
    }

pub lowest-is : (x : ℕ) → 0 < x → x < 256 → Lowest x (count_trailing_zeros 64 x)
unfolding below is_lowest count_trailing_zeros
lowest-is x s l =
    lowest-test x (count_trailing_zeros 64 x)
    (if-so (ltb 0 x) _ (below_at 256 (λ x. not (ltb 0 x) || is_lowest x (count_trailing_zeros 64 x)) tt x l) (lt→ltb 0 x s))
