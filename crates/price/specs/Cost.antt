-- The cost of a load: what each dart costs, times what it carries, added up. A chain costs what its darts cost, and a family of walks what its walks cost.
-- Assumes nothing.
use Rattle.std.specs.Prelude.{◌≡◌, refl, Bool, true, false, ℕ, zero, suc, ◌+◌, ◌*◌, ◌≤◌, ◌<◌, eqb}
use Rattle.std.proofs.Common.{◌∙◌}
use mathlib.Core.List.{List, [], ◌∷◌}
use Rattle.std.proofs.Math.Nat.{mul-le-mul_left}
use native.Mathlib.Omega.{arith}
use Rattle.sums.specs.Counting.{when, sum, total}
use Rattle.sums.specs.Sums.{sum-cong, sum-le, sum-none, sum-add, sum-pick}
use Rattle.flow.specs.Network.{Net, times, Chain, stop, step}
use Rattle.flow.specs.Walk.{Walk, carried}

-- ---- sums of products

pub sum-scale : (n k : ℕ) (g : ℕ → ℕ) → sum n (λ i. k * g i) ≡ k * sum n g
unfolding sum
sum-scale zero k g = omega arith
sum-scale (suc n) k g = omega (arith, sum-scale n k g)

pub when-scale : (b : Bool) (k x : ℕ) → k * when b x ≡ when b (k * x)
when-scale true k x = refl
when-scale false k x = omega arith

-- ---- the cost of a load

module _ (G : Net) (c : ℕ → ℕ) where
  unfoldable pub cost : (ℕ → ℕ) → ℕ
  cost g = sum G.darts (λ d. c d * g d)

  -- a load that is nowhere greater costs no more
  pub cost-le : (g h : ℕ → ℕ) → ((d : ℕ) → d < G.darts → g d ≤ h d) → cost g ≤ cost h
  unfolding cost
  cost-le g h e = sum-le G.darts _ _ (λ d l. mul-le-mul_left (c d) (e d l))

  pub cost-none : cost (λ d. 0) ≡ 0
  unfolding cost
  cost-none = sum-none G.darts (λ d. c d * 0) (λ d l. omega arith)

  cost-add : (g h : ℕ → ℕ) → cost (λ d. g d + h d) ≡ cost g + cost h
  unfolding cost
  cost-add g h = sum-cong G.darts _ _ (λ d l. omega arith) ∙ sum-add G.darts (λ d. c d * g d) (λ d. c d * h d)

  -- ---- the cost of chains and walks

  -- one dart
  cost-one : (e : ℕ) → e < G.darts → cost (λ d. when (eqb e d) 1) ≡ c e
  unfolding cost
  cost-one e l =
      sum-cong G.darts _ (λ d. when (eqb e d) (c d * 1)) (λ d k. when-scale (eqb e d) (c d) 1)
      ∙ sum-pick G.darts e (λ d. c d * 1) l
      ∙ omega arith

  -- the darts of a chain
  chain-cost : {ds : List ℕ} {u v : ℕ} → Chain G ds u v → cost (times ds) ≡ total ds c
  unfolding total
  chain-cost (stop e) = cost-none
  chain-cost (step {d = d} {ds = ds} l e p) = omega (arith, cost-add (λ x. when (eqb d x) 1) (times ds), cost-one d l, chain-cost p)

  -- the walks of a family
  abbrev pub walks_cost : List (Walk G) → ℕ
  walks_cost ws = total ws (λ w. total w.darts c)

  pub family-cost : (ws : List (Walk G)) → cost (carried G ws) ≡ walks_cost ws
  unfolding total
  family-cost [] = cost-none
  family-cost (w ∷ ws) = omega (arith, cost-add (times w.darts) (carried G ws), chain-cost w.chain, family-cost ws)
