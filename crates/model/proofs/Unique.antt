-- A job has one greatest number at most, it is at most the sum of every near side, and one smallest near side belongs to it: two that each lie inside
-- the other are the same. Assumes nothing.
use mathlib.Core.Path.{◌≡◌}
use mathlib.Core.Bool.{Bool}
use Prim.Native.Nat.{ℕ, ◌≤◌}
use native.Mathlib.Omega.{arith}
use Rattle.sums.specs.Tests.{both_ways}
use Rattle.model.specs.Job.{Job}
use Rattle.model.specs.Route.{Greatest}
use Rattle.model.specs.Near.{Near, near_sum, Smallest}
use Rattle.model.proofs.Bound.{routes-le-sum}

module _ (J : Job) where
  pub greatest-unique : (g h : ℕ) → Greatest J g → Greatest J h → g ≡ h
  greatest-unique g h a b = omega (arith, a.most b.routes b.together, b.most a.routes a.together, a.size, b.size)

  -- "every other near side has at least that sum"
  pub greatest-le : (g : ℕ) (S : ℕ → Bool) → Greatest J g → Near J S → g ≤ near_sum J S
  greatest-le g S a near = omega (arith, routes-le-sum J S near a.routes a.together, a.size)

  pub smallest-unique : (g : ℕ) (S R : ℕ → Bool) → Smallest J S g → Smallest J R g → (i : ℕ) → S i ≡ R i
  smallest-unique g S R a b i = both_ways (S i) (R i) (a.least R b.near b.meets i) (b.least S a.near a.meets i)
