-- 3 by 4, one tile open, its two inner pins chosen, and then a pin of its rim side missing besides. One route leaves by the one rim side, of limit 1. The
-- centre passes two wires and so does the missing pin, so all of the tile, and its entry and its exit, are near; where it passes none, only its entry.
-- Assumes nothing.
use mathlib.Core.Path.{refl}
use mathlib.Core.List.{List, [], ◌∷◌}
use Rattle.sums.specs.Counting.{each, those, total}
use Rattle.sums.specs.Tests.{every}
use Rattle.model.specs.Job.{is_open, is_chosen, is_missing}
use Rattle.model.specs.Links.{north, west, north_side, spoke, leg, places, behind_of, ahead_of, limit_of, go, come, head, may}
use Rattle.model.specs.Route.{Route}
use Rattle.model.specs.Near.{spot, entry_of, exit_of, near_sum}
use Rattle.model.specs.Examples.{among, job_rim, short_rim, job_missing, short_missing, job_entry, short_entry}
use Rattle.model.proofs.Least.{all_of, set_of, least_test}
use Rattle.model.proofs.Edges.{pin_spots, step_edges, edges}
use Rattle.model.proofs.ShortByTest.{ShortHolds, short-by-test}

abbrev routes_rim : List (Route job_rim)
unfolding is_chosen is_missing is_open may head ahead_of behind_of
routes_rim =
    record {
      row = 1;
      column = 1;
      steps = go (leg north) 1 1 ∷ come (spoke west) 0 1 ∷ go (spoke north) 0 1 ∷ go north_side 0 1 ∷ [];
      chosen = tt;
      chain = (refl, tt, (refl, tt, (refl, tt, (refl, tt, refl))));
    }
    ∷ []

pub short_rim-holds : ShortHolds short_rim
unfolding least_test all_of set_of pin_spots step_edges edges every near_sum total places each those is_chosen is_missing is_open exit_of entry_of may head ahead_of
    behind_of limit_of among
short_rim-holds =
    short-by-test short_rim routes_rim short_rim.near
    (record { number = refl; together = tt; within = tt; limited = tt; meets = refl; covered = tt; least = tt })

abbrev routes_missing : List (Route job_missing)
unfolding is_chosen is_missing is_open may head ahead_of behind_of
routes_missing =
    record {
      row = 1;
      column = 1;
      steps = go (leg north) 1 1 ∷ come (spoke west) 0 1 ∷ go (spoke north) 0 1 ∷ go north_side 0 1 ∷ [];
      chosen = tt;
      chain = (refl, tt, (refl, tt, (refl, tt, (refl, tt, refl))));
    }
    ∷ []

pub short_missing-holds : ShortHolds short_missing
unfolding least_test all_of set_of pin_spots step_edges edges every near_sum total places each those is_chosen is_missing is_open exit_of entry_of may head ahead_of
    behind_of limit_of among
short_missing-holds =
    short-by-test short_missing routes_missing short_missing.near
    (record { number = refl; together = tt; within = tt; limited = tt; meets = refl; covered = tt; least = tt })

-- the same route, and the exit of the missing pin left out
abbrev routes_entry : List (Route job_entry)
unfolding is_chosen is_missing is_open may head ahead_of behind_of
routes_entry =
    record {
      row = 1;
      column = 1;
      steps = go (leg north) 1 1 ∷ come (spoke west) 0 1 ∷ go (spoke north) 0 1 ∷ go north_side 0 1 ∷ [];
      chosen = tt;
      chain = (refl, tt, (refl, tt, (refl, tt, (refl, tt, refl))));
    }
    ∷ []

pub short_entry-holds : ShortHolds short_entry
unfolding least_test all_of set_of pin_spots step_edges edges every near_sum total places each those is_chosen is_missing is_open exit_of entry_of may head ahead_of
    behind_of limit_of among
short_entry-holds =
    short-by-test short_entry routes_entry (spot 1 0 1 ∷ short_entry.near)
    (record { number = refl; together = tt; within = tt; limited = tt; meets = refl; covered = tt; least = tt })
