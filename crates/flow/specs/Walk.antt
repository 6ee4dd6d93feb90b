-- Families of walks. A walk is a chain of darts to the outside, and a family of walks is a load that starts one unit for each of them, so that the sum of
-- a near side bounds it. Assumes nothing.
use Rattle.std.specs.Prelude.{◌≡◌, refl, Bool, not, ℕ, ◌≤◌, ◌<◌, T, eqb, length}
use mathlib.Core.List.{List, [], ◌∷◌}
use native.Mathlib.Omega.{arith}
use Rattle.sums.specs.Counting.{when, sum, total, count}
use Rattle.sums.specs.Sums.{sum-none, sum-add, sum-pick}
use Rattle.flow.specs.Network.{Net, times, Chain}
use Rattle.flow.specs.Balance.{Balanced, balanced-none, balanced-add, walk-balanced}
use Rattle.flow.specs.Flow.{Load}
use Rattle.flow.specs.Cut.{Near, cut, load-le}

module _ (G : Net) where
  pub record Walk : Type 0 where
    pub from : ℕ
    pub to : ℕ
    pub darts : List ℕ
    pub from< : from < G.nodes
    pub chain : Chain G darts from to
    pub ends : T (G.outside to)

  -- how often the walks go along the dart d
  abbrev pub carried : List Walk → ℕ → ℕ
  carried ws d = total ws (λ w. times w.darts d)

  -- how many of them start at the node u
  abbrev pub started : List Walk → ℕ → ℕ
  started ws u = count ws (λ w. eqb w.from u)

  -- the walks keep the limit of each dart, and no more of them start at a node than are wanted there
  pub record Fits (ws : List Walk) : Type 0 where
    pub within : (d : ℕ) → d < G.darts → T (not (G.free d)) → carried ws d ≤ G.cap d
    pub wanted : (u : ℕ) → u < G.nodes → started ws u ≤ G.want u

  family-balanced : (ws : List Walk) → Balanced G (carried ws) (started ws)
  unfolding total
  family-balanced [] = balanced-none G
  family-balanced (w ∷ ws) =
      balanced-add G (times w.darts) (carried ws) (λ u. when (eqb w.from u) 1) (started ws) (walk-balanced w.chain w.ends) (family-balanced ws)

  pub sum-started : (ws : List Walk) → sum G.nodes (started ws) ≡ length ws
  unfolding total
  sum-started [] = sum-none G.nodes (λ u. 0) (λ u l. refl)
  sum-started (w ∷ ws) =
      omega (
        arith,
        sum-add G.nodes (λ u. when (eqb w.from u) 1) (started ws),
        sum-pick G.nodes w.from (λ u. 1) w.from<,
        sum-started ws,
      )

-- A family of walks within the limits is a load within them.
pub family-load : {G : Net} {ws : List (Walk G)} → Fits G ws → Load G (carried G ws) (started G ws)
family-load {G} {ws} fits = record { within = fits.within; wanted = fits.wanted; balanced = family-balanced G ws }

-- Every family of walks within the limits is at most the sum of every near side.
pub family-le : {G : Net} {ws : List (Walk G)} {S : ℕ → Bool} → Fits G ws → Near G S → length ws ≤ cut G S
family-le {G} {ws} fits near = omega (arith, load-le (family-load fits) near, sum-started G ws)
