-- A row of `shorts` holds by computed tests: routes that together exceed no limit are as many as the near side's sum, so by weak duality no routes are
-- more and no near side has less; that the near side lies inside every other of equal sum is tested on all sets of spots. Assumes nothing.
use mathlib.Core.Path.{◌≡◌}
use mathlib.Core.List.{List}
use Prim.Native.Nat.{ℕ}
use native.Mathlib.Omega.{arith}
use lib.Dec.{T}
use lib.ListN.{length}
use Rattle.sums.specs.Tests.{every}
use Rattle.model.specs.Links.{places}
use Rattle.model.specs.Route.{Route, Greatest}
use Rattle.model.specs.Near.{Near, near_sum, Smallest}
use Rattle.model.specs.Examples.{Short, among}
use Rattle.model.proofs.Bound.{routes-le-sum}
use Rattle.model.proofs.Unique.{greatest-le}
use Rattle.model.proofs.ByTest.{spot_test, limited_test, near-by-test, together_test, together-by-test}
use Rattle.model.proofs.Edges.{pin_spots, edges}
use Rattle.model.proofs.Least.{spots_test, least_test, least-by-test}

-- what a row says
abbrev pub ShortHolds : Short → Type 0
ShortHolds x = Greatest x.job x.greatest × Smallest x.job (among x.near) x.greatest

module _ (x : Short) (rs : List (Route x.job)) (spots : List ℕ) where
  -- what is tested: the routes, the near side and its sum, and every set of the spots of the job
  pub record Tests : Type 0 where
    pub number : length rs ≡ x.greatest
    pub together : T (together_test x.job rs)
    pub within : T (every x.near (spot_test x.job))
    pub limited : T (limited_test x.job (among x.near))
    pub meets : near_sum x.job (among x.near) ≡ x.greatest
    pub covered : T (spots_test x.job spots)
    pub least : T (least_test spots (pin_spots (places x.job)) (edges x.job (places x.job)) x.near x.greatest)

  pub short-by-test : Tests → ShortHolds x
  short-by-test t =
      let near : Near x.job (among x.near) = near-by-test x.job x.near t.within t.limited in
      let greatest : Greatest x.job x.greatest =
      record {
        routes = rs;
        together = together-by-test x.job rs t.together;
        size = t.number;
        most = λ qs F. omega (arith, routes-le-sum x.job (among x.near) near qs F, t.meets);
      }
      in (
        greatest,
        record {
          near = near;
          meets = t.meets;
          lowest = λ S n. greatest-le x.job x.greatest S greatest n;
          least = least-by-test x.job spots x.near x.greatest t.covered t.least;
        },
      )
