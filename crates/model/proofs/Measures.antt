-- Document 01, "Length", the crossings of diagonals, and crossing wires, on examples at which each bound is met: a wire with sides and a missing pin, jobs with their
-- bounds, four wires whose length is the bound, a tile that is crossed exactly D times on each diagonal, and two pairs that cross. Assumes nothing.
use mathlib.Core.Path.{◌≡◌, refl}
use mathlib.Core.List.{List, [], ◌∷◌}
use lib.Dec.{lit<}
use Rattle.sums.specs.Counting.{each, those, total}
use Rattle.sums.specs.Tests.{every}
use Rattle.model.specs.Job.{Job, fresh, marked, is_open, is_chosen, is_missing}
use Rattle.model.specs.Links.{north, east, south, west, north_side, west_side, corner, leg, places, behind_of, ahead_of, limit_of, go, come, head, may}
use Rattle.model.specs.Route.{Route, Together}
use Rattle.model.specs.Pairing.{Crosses}
use Rattle.model.specs.Length.{wire_length, sides, length_bound, falling, rising, through_centre, crossings}
use Rattle.model.specs.Examples.{pair, job_missing}
use Rattle.model.proofs.ByTest.{together-by-test}
use Rattle.model.proofs.FourPins.{job22}

-- ---- length

-- 3 by 3, caps 1 2 1, the inner pin missing, pin (1, 0) chosen: into tile (1, 0), over its north side, past the missing pin into tile (0, 1), and out at the north
abbrev pub job-past : Job
job-past = marked (marked (fresh 3 3 1 2 1) 1 0 1) 1 1 2

abbrev pub route-past : Route job-past
unfolding is_chosen is_missing is_open may head ahead_of behind_of
route-past =
    record {
      row = 1;
      column = 0;
      steps = go (leg east) 1 0 ∷ go north_side 1 0 ∷ come (leg west) 1 1 ∷ go (leg north) 1 1 ∷ go (corner west) 0 1 ∷ go north_side 0 1 ∷ [];
      chosen = tt;
      chain = (refl, tt, (refl, tt, (refl, tt, (refl, tt, (refl, tt, (refl, tt, refl))))));
    }

-- two sides and one missing pin
pub length-past : wire_length job-past route-past.steps ≡ 34
unfolding total head ahead_of behind_of route-past
length-past = refl

-- four rim sides of limit 1; twelve sides of limit 1 and a missing pin that one wire passes; one rim side of limit 1 and a missing pin that two pass
pub bounds : (length_bound job22 ≡ 40) × (length_bound job-past ≡ 134) × (length_bound job_missing ≡ 38)
unfolding total sides places each those is_chosen is_missing is_open may head ahead_of behind_of limit_of
bounds = (refl, refl, refl)

-- the four wires of the listing are as long as may be
pub length-bound-met :
    total
    ((go (leg east) 0 0 ∷ go north_side 0 0 ∷ []) ∷ (go (leg south) 0 1 ∷ go west_side 0 1 ∷ []) ∷ (go (leg north) 1 0 ∷ come west_side 0 0 ∷ [])
    ∷ (go (leg west) 1 1 ∷ come north_side 1 0 ∷ []) ∷ []) (wire_length job22) ≡ length_bound job22
unfolding total sides places each those is_chosen is_missing is_open may head ahead_of behind_of limit_of
length-bound-met = refl

-- ---- diagonals

-- 2 by 2, caps 2 2 0, all four pins chosen: each wire goes along one corner, so that all turn the same way
abbrev pub job-round : Job
job-round = marked (marked (marked (marked (fresh 2 2 2 2 0) 0 0 1) 0 1 1) 1 0 1) 1 1 1

abbrev pub routes-round : List (Route job-round)
unfolding is_chosen is_missing is_open may head ahead_of behind_of
routes-round =
    record {
      row = 0;
      column = 0;
      steps = go (leg east) 0 0 ∷ go (corner north) 0 0 ∷ go west_side 0 1 ∷ [];
      chosen = tt;
      chain = (refl, tt, (refl, tt, (refl, tt, refl)));
    }
    ∷ record {
      row = 0;
      column = 1;
      steps = go (leg south) 0 1 ∷ go (corner east) 0 0 ∷ come north_side 1 0 ∷ [];
      chosen = tt;
      chain = (refl, tt, (refl, tt, (refl, tt, refl)));
    }
    ∷ record {
      row = 1;
      column = 1;
      steps = go (leg west) 1 1 ∷ go (corner south) 0 0 ∷ come west_side 0 0 ∷ [];
      chosen = tt;
      chain = (refl, tt, (refl, tt, (refl, tt, refl)));
    }
    ∷ record {
      row = 1;
      column = 0;
      steps = go (leg north) 1 0 ∷ go (corner west) 0 0 ∷ go north_side 0 0 ∷ [];
      chosen = tt;
      chain = (refl, tt, (refl, tt, (refl, tt, refl)));
    }
    ∷ []

pub round-together : Together job-round routes-round
unfolding every total places each those is_chosen is_missing is_open may head ahead_of behind_of limit_of
round-together = together-by-test job-round routes-round tt

-- each diagonal is crossed D times
pub diagonals-met :
    (total routes-round (λ p. crossings job-round falling 0 0 p.steps) ≡ job-round.D)
    × (total routes-round (λ p. crossings job-round rising 0 0 p.steps) ≡ job-round.D)
unfolding total through_centre head ahead_of behind_of routes-round
diagonals-met = (refl, refl)

-- ---- crossing

-- 0-2 and 1-3 interleave
pub pairs-cross : Crosses (pair 0 2) (pair 1 3)
pairs-cross = record { first = lit< tt; second = lit< tt; third = lit< tt }
