-- 3 by 4, one tile open, its two inner pins chosen. One route passes the centre and then the one rim side, each of limit 1. The near side that ends at the
-- centre is the smallest; the one with all of the tile has the same sum. Assumes nothing.
use mathlib.Core.Path.{◌≡◌, refl}
use mathlib.Core.List.{List, [], ◌∷◌}
use Prim.Native.Nat.{ℕ}
use Rattle.sums.specs.Counting.{each, those, total}
use Rattle.sums.specs.Tests.{every}
use Rattle.model.specs.Job.{is_open, is_chosen, is_missing}
use Rattle.model.specs.Links.{north, west, north_side, spoke, leg, places, behind_of, ahead_of, limit_of, go, come, head, may}
use Rattle.model.specs.Route.{Route}
use Rattle.model.specs.Near.{spot, entry_of, exit_of, Near, near_sum}
use Rattle.model.specs.Examples.{among, job34, short34}
use Rattle.model.proofs.ByTest.{near-by-test}
use Rattle.model.proofs.Least.{all_of, set_of, least_test}
use Rattle.model.proofs.Edges.{pin_spots, step_edges, edges}
use Rattle.model.proofs.ShortByTest.{ShortHolds, short-by-test}

abbrev routes34 : List (Route job34)
unfolding is_chosen is_missing is_open may head ahead_of behind_of
routes34 =
    record {
      row = 1;
      column = 1;
      steps = go (leg north) 1 1 ∷ come (spoke west) 0 1 ∷ go (spoke north) 0 1 ∷ go north_side 0 1 ∷ [];
      chosen = tt;
      chain = (refl, tt, (refl, tt, (refl, tt, (refl, tt, refl))));
    }
    ∷ []

-- all spots of the job
abbrev wide34 : List ℕ
wide34 = spot 2 0 1 ∷ spot 3 0 1 ∷ spot 7 0 1 ∷ short34.near

pub short34-holds : ShortHolds short34
unfolding least_test all_of set_of pin_spots step_edges edges every near_sum total places each those is_chosen is_missing is_open exit_of entry_of may head ahead_of
    behind_of limit_of among
short34-holds =
    short-by-test short34 routes34 wide34
    (record { number = refl; together = tt; within = tt; limited = tt; meets = refl; covered = tt; least = tt })

-- a bigger near side of the same sum
pub wide34-meets : Near job34 (among wide34) × (near_sum job34 (among wide34) ≡ 1)
unfolding every near_sum total places each those is_chosen is_missing is_open exit_of entry_of may head ahead_of behind_of limit_of among
wide34-meets = (near-by-test job34 wide34 tt tt, refl)
