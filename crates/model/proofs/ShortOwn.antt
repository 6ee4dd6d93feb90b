-- 3 by 4, one tile open, its two inner pins chosen, D = 1, and that tile with an own D of 2. Its centre passes two wires, the rim side one: near is all of the
-- tile, as where D is 2 in the whole job. Assumes nothing.
use mathlib.Core.Path.{◌≡◌, refl}
use mathlib.Core.List.{List, [], ◌∷◌}
use Rattle.sums.specs.Counting.{each, those, total}
use Rattle.sums.specs.Tests.{every}
use Rattle.model.specs.Job.{is_open, is_chosen, is_missing, tile_d}
use Rattle.model.specs.Links.{north, west, north_side, spoke, leg, places, behind_of, ahead_of, limit_of, go, come, head, may}
use Rattle.model.specs.Route.{Route}
use Rattle.model.specs.Near.{entry_of, exit_of, near_sum}
use Rattle.model.specs.Examples.{among, job_own, short_own}
use Rattle.model.proofs.Least.{all_of, set_of, least_test}
use Rattle.model.proofs.Edges.{pin_spots, step_edges, edges}
use Rattle.model.proofs.ShortByTest.{ShortHolds, short-by-test}

-- the D of that tile, and of the tile beside it
pub own-figures : (tile_d job_own 0 1 ≡ 2) × (tile_d job_own 0 0 ≡ 1)
own-figures = (refl, refl)

abbrev routes_own : List (Route job_own)
unfolding is_chosen is_missing is_open may head ahead_of behind_of
routes_own =
    record {
      row = 1;
      column = 1;
      steps = go (leg north) 1 1 ∷ come (spoke west) 0 1 ∷ go (spoke north) 0 1 ∷ go north_side 0 1 ∷ [];
      chosen = tt;
      chain = (refl, tt, (refl, tt, (refl, tt, (refl, tt, refl))));
    }
    ∷ []

pub short_own-holds : ShortHolds short_own
unfolding least_test all_of set_of pin_spots step_edges edges every near_sum total places each those is_chosen is_missing is_open exit_of entry_of may head ahead_of
    behind_of limit_of among
short_own-holds =
    short-by-test short_own routes_own short_own.near
    (record { number = refl; together = tt; within = tt; limited = tt; meets = refl; covered = tt; least = tt })
