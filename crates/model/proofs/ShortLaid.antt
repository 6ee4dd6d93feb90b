-- 3 by 4, one tile open, its two inner pins chosen, and one wire already laid on its rim side of O = 2. One route leaves by that side. Assumes nothing.
use mathlib.Core.Path.{refl}
use mathlib.Core.List.{List, [], ◌∷◌}
use Rattle.sums.specs.Counting.{each, those, total}
use Rattle.sums.specs.Tests.{every}
use Rattle.model.specs.Job.{is_open, is_chosen, is_missing}
use Rattle.model.specs.Links.{north, west, north_side, corner, leg, places, behind_of, ahead_of, limit_of, go, head, may}
use Rattle.model.specs.Route.{Route}
use Rattle.model.specs.Near.{spot, entry_of, exit_of, near_sum}
use Rattle.model.specs.Examples.{among, job_laid, short_laid}
use Rattle.model.proofs.Least.{all_of, set_of, least_test}
use Rattle.model.proofs.Edges.{pin_spots, step_edges, edges}
use Rattle.model.proofs.ShortByTest.{ShortHolds, short-by-test}

abbrev routes_laid : List (Route job_laid)
unfolding is_chosen is_missing is_open may head ahead_of behind_of
routes_laid =
    record {
      row = 1;
      column = 1;
      steps = go (leg north) 1 1 ∷ go (corner west) 0 1 ∷ go north_side 0 1 ∷ [];
      chosen = tt;
      chain = (refl, tt, (refl, tt, (refl, tt, refl)));
    }
    ∷ []

-- the exit of the centre left out
pub short_laid-holds : ShortHolds short_laid
unfolding least_test all_of set_of pin_spots step_edges edges every near_sum total places each those is_chosen is_missing is_open exit_of entry_of may head ahead_of
    behind_of limit_of among
short_laid-holds =
    short-by-test short_laid routes_laid (spot 7 0 1 ∷ short_laid.near)
    (record { number = refl; together = tt; within = tt; limited = tt; meets = refl; covered = tt; least = tt })
