-- How high prices go. A priced flow that lacks a start at a wanted node p, beside a load that starts all that is wanted: the price of p is at most what
-- that load costs. So raising ends. Assumes nothing.
use Rattle.std.specs.Prelude.{◌≡◌, Bool, eqb}
use Rattle.std.proofs.Math.Path.{ap}
use Rattle.std.proofs.Math.Bool.{true, false}
use Prim.Native.Nat.{ℕ, suc, ◌+◌, ◌*◌, ◌≤◌, ◌<◌}
use Rattle.std.proofs.Math.Nat.{mul-le-mul_left}
use native.Mathlib.Omega.{arith}
use Rattle.sums.specs.Counting.{when}
use Rattle.sums.specs.Tests.{Same, same, other, same?}
use Rattle.sums.specs.Sums.{sum-le, sum-add, sum-pick}
use Rattle.flow.specs.Network.{Net}
use Rattle.flow.specs.Flow.{Load, Unstarted}
use Rattle.price.specs.Cost.{cost}
use Rattle.price.specs.Priced.{Priced, worth, priced-le}

module _ {G : Net} {f g s t : ℕ → ℕ} (F : Load G f s) (L : Load G g t) (all : (u : ℕ) → u < G.nodes → t u ≡ G.want u) {p : ℕ} (h : Unstarted G s p) where
  worth-lacks : (π : ℕ → ℕ) → worth G π s + π p ≤ worth G π t
  unfolding worth
  worth-lacks π =
      omega (
        arith,
        sum-le G.nodes (λ u. π u * s u + when (eqb p u) (π u * 1)) (λ u. π u * t u) (λ u l. node u l (eqb p u) (same? p u)),
        sum-add G.nodes (λ u. π u * s u) (λ u. when (eqb p u) (π u * 1)),
        sum-pick G.nodes p (λ u. π u * 1) h.node,
      )
    where
      node : (u : ℕ) → u < G.nodes → (b : Bool) → Same p u b → π u * s u + when b (π u * 1) ≤ π u * t u
      node u l true (same e) =
          let k : suc (s u) ≤ t u = omega (arith, h.short, all u l, ap s e, ap G.want e) in
          omega (arith, mul-le-mul_left (π u) k)
      node u l false (other e) =
          let k : s u ≤ t u = omega (arith, F.wanted u l, all u l) in
          omega (arith, mul-le-mul_left (π u) k)

  -- The price of an unstarted wanted node is at most what a load costs that starts all that is wanted.
  pub unstarted-le : {c π : ℕ → ℕ} → Priced G c f π → π p ≤ cost G c g
  unstarted-le {π = π} P = omega (arith, priced-le P F L, worth-lacks π)
