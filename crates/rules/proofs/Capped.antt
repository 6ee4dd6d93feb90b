-- Capping each number at 10,000,000,000 changes no answer. Assumes nothing.
use mathlib.Core.Path.{◌≡◌}
use Prim.Native.Nat.{ℕ, ◌≤◌}
use native.Mathlib.Nat.{min-eq_left}
use native.Mathlib.Omega.{arith}
use lib.Dec.{T}
use Rattle.rules.specs.Rules.{Answer, measured, Answered, beyond, under, outside, given}
use Rattle.rules.specs.Ranges.{Ranges, ranges}
use Rattle.rules.specs.Arguments.{capped}

-- within the range no number is capped
uncapped : (n : ℕ) → n ≤ 100000 → capped n ≡ n
uncapped n l = min-eq_left (omega arith)

module _ (p d w s : ℕ) where
  same_answer : {a : Answer} → T (measured (capped p) (capped d) (capped w) (capped s)) → Answered (capped p) (capped d) (capped w) (capped s) a
      → Answered p d w s a
  same_answer t x =
      let r : Ranges (capped p) (capped d) (capped w) (capped s) = ranges (capped p) (capped d) (capped w) (capped s) t in
      simp (uncapped p (omega arith), uncapped d (omega arith), uncapped w (omega arith), uncapped s (omega arith)) at x

  pub capped_same : {a : Answer} → Answered (capped p) (capped d) (capped w) (capped s) a → Answered p d w s a
  capped_same (beyond n) = beyond (λ t. n (in-range (ranges p d w s t) t))
    where
      in-range : Ranges p d w s → T (measured p d w s) → T (measured (capped p) (capped d) (capped w) (capped s))
      in-range r t = simp (uncapped p r.pitch.1, uncapped d r.pad.1, uncapped w r.wire.1, uncapped s r.spacing.1) t
  capped_same (under t l) = same_answer t (under t l)
  capped_same (outside o r t l q h) = same_answer t (outside o r t l q h)
  capped_same (given f t l h g) = same_answer t (given f t l h g)
