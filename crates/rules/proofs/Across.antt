-- Document 02, K1: laws of the diagonal count. More wires take more space, so a number that passes while the next one does not is the largest.
-- Assumes nothing.
use Prim.Native.Nat.{ℕ, ◌+◌, ◌*◌, ◌/◌, ◌≤◌, ◌<◌}
use native.Mathlib.Nat.{mul-le-mul, mul-le-mul_right, mod-lt, div-add-mod', div-le_self, add-mul}
use native.Mathlib.Omega.{arith}
use Rattle.rules.specs.Rules.{across, Passes, Largest}
use Rattle.rules.specs.Ranges.{Ranges}

-- ---- the space of k wires

pub across-le : (d w s : ℕ) {k n : ℕ} → k ≤ n → across d w s k ≤ across d w s n
across-le d w s {k} {n} l = omega (arith, mul-le-mul_right (w + s) l)

pub passes-less : (p d w s : ℕ) {k n : ℕ} → k ≤ n → Passes p d w s n → Passes p d w s k
passes-less p d w s l h = omega (arith, h, mul-le-mul (across-le d w s l) (across-le d w s l))

-- it holds at k and fails at k + 1, so it fails for every larger number
pub largest_step : (p d w s k : ℕ) → Passes p d w s k → (Passes p d w s (k + 1) → ⊥) → Largest p d w s k
largest_step p d w s k h n = record { passes = h; most = λ m l g. n (passes-less p d w s (omega arith) g) }

-- ---- where the bisection starts

pub none_passes : (p d w s : ℕ) → d + s ≤ p → Passes p d w s 0
none_passes p d w s l =
    let h : across d w s 0 ≤ p = omega arith in
    omega (arith, mul-le-mul h h)

-- as many wires as fit in 2×p, and one more
abbrev pub bound : (p w s : ℕ) → ℕ
bound p w s = 2 * p / (w + s) + 1

module _ (p d w s : ℕ) (r : Ranges p d w s) where
  pub bound-small : bound p w s ≤ 200001
  bound-small = omega (arith, div-le_self (2 * p) (w + s))

  bound-space : (2 * p < bound p w s * (w + s)) × (bound p w s * (w + s) ≤ 2 * p + (w + s))
  bound-space =
      omega (arith, add-mul (2 * p / (w + s)) 1 (w + s), div-add-mod' (2 * p) (w + s), mod-lt (2 * p) {m = w + s} (omega arith))

  pub bound-within : (k : ℕ) → k ≤ bound p w s → across d w s k ≤ 600000
  bound-within k l = omega (arith, bound-space, across-le d w s l)

  pub bound-fails : 2 * p * p < across d w s (bound p w s) * across d w s (bound p w s)
  bound-fails =
      let l : 2 * p < across d w s (bound p w s) = omega (arith, bound-space) in
      let h : p ≤ across d w s (bound p w s) = omega arith in
      omega (arith, mul-le-mul l h)

  pub whole-small : 2 * p * p ≤ 20000000000
  whole-small =
      let l : 2 * p ≤ 200000 = omega arith in
      omega (arith, mul-le-mul l r.pitch.1)
