-- 3 by 3, every tile closed, the inner pin chosen. No route leaves it, and the near side of that pin alone has the sum 0. Assumes nothing.
use mathlib.Core.Path.{refl}
use mathlib.Core.List.{[]}
use Rattle.sums.specs.Counting.{each, those, total}
use Rattle.sums.specs.Tests.{every}
use Rattle.model.specs.Job.{is_open, is_chosen, is_missing}
use Rattle.model.specs.Links.{places, behind_of, ahead_of, limit_of, head, may}
use Rattle.model.specs.Near.{entry_of, exit_of, near_sum}
use Rattle.model.specs.Examples.{among, short_shut}
use Rattle.model.proofs.Least.{all_of, set_of, least_test}
use Rattle.model.proofs.Edges.{pin_spots, step_edges, edges}
use Rattle.model.proofs.ShortByTest.{ShortHolds, short-by-test}

pub short_shut-holds : ShortHolds short_shut
unfolding least_test all_of set_of pin_spots step_edges edges every near_sum total places each those is_chosen is_missing is_open exit_of entry_of may head ahead_of
    behind_of limit_of among
short_shut-holds =
    short-by-test short_shut [] short_shut.near
    (record { number = refl; together = tt; within = tt; limited = tt; meets = refl; covered = tt; least = tt })
