-- Document 02, K5, by examples: of two wires that leave by one rim side side by side, what a mark, a closed tile and a raised count take out, and the lane of
-- the wire that stays. K7: a tile's D takes out the wires through its centre, and none that goes round it. K9: a lower E takes out a wire past a missing pin. Assumes
-- nothing.
use mathlib.Core.Path.{◌≡◌, refl}
use mathlib.Core.List.{[], ◌∷◌}
use Prim.Native.Nat.{ℕ}
use native.Mathlib.Omega.{arith}
use Rattle.sums.specs.Counting.{sum, each, those, total}
use Rattle.sums.specs.Tests.{every}
use Rattle.model.specs.Job.{Job, marked, side_of, is_open, is_chosen, is_missing}
use Rattle.model.specs.Links.{north, east, south, west, side, places, north_side, corner, spoke, leg, behind_of, ahead_of, Step, go, come, head}
use Rattle.model.specs.Loads.{departures}
use Rattle.model.specs.Wires.{falling_ends, ends_on, arrival_at, leaving, first_loaded, hop_at, is_wired, wire_count, unwired, to, out, past_the_end, part_at}
use Rattle.model.specs.Left.{hop_count, left_loads, meets, avoids, has_lane, mark_left, close_left, laid_left, centre_left, missing_places, extra_left}
use Rattle.model.specs.Examples.{job_own}
use Rattle.model.proofs.FourPins.{wires_along}
use Rattle.model.proofs.LaneExamples.{job_pair, loads_pair}
use Rattle.model.proofs.Measures.{job-past}

-- the wire of each pin by itself
abbrev western : Step → ℕ
western = wires_along (go (leg east) 0 0 ∷ go north_side 0 0 ∷ [])

abbrev eastern : Step → ℕ
eastern = wires_along (go (leg south) 0 1 ∷ come (corner north) 0 0 ∷ go north_side 0 0 ∷ [])

-- "the wires that start at the edited pin"
pub mark-leaves-one : (s : Step) → mark_left job_pair loads_pair 0 0 s ≡ eastern s
unfolding mark_left left_loads avoids every meets hop_count sum hop_at leaving first_loaded arrival_at ends_on falling_ends each is_wired departures total places those
    is_chosen is_missing is_open head ahead_of behind_of
mark-leaves-one s = omega arith

-- "or meet a place of the tile being closed"
pub close-leaves-none : (s : Step) → close_left job_pair loads_pair 0 0 s ≡ 0
unfolding close_left left_loads avoids every meets hop_count sum hop_at leaving first_loaded arrival_at ends_on falling_ends each is_wired departures total places those
    is_chosen is_missing is_open head ahead_of behind_of
close-leaves-none s = refl

-- "takes out the highest lanes, just enough": with one wire laid on the north side the limit is 1, and lane 1 goes
pub count-leaves-one : (s : Step) → laid_left job_pair loads_pair (side_of 0 0 0) 1 s ≡ western s
unfolding laid_left left_loads has_lane hop_count sum hop_at leaving first_loaded arrival_at ends_on falling_ends each is_wired departures total places those
    is_chosen is_missing is_open head ahead_of behind_of
count-leaves-one s = omega arith

-- K7: "the wires through that tile's centre": neither is one
pub diagonal-leaves-both : (s : Step) → centre_left job_pair loads_pair 0 0 s ≡ loads_pair s
unfolding centre_left left_loads avoids every meets hop_count sum hop_at leaving first_loaded arrival_at ends_on falling_ends each is_wired departures total places those
    is_chosen is_missing is_open head ahead_of behind_of
diagonal-leaves-both s = omega arith

-- the wire that passes the centre of the one open tile of `job_own` is
abbrev through : Step → ℕ
through = wires_along (go (leg north) 1 1 ∷ come (spoke west) 0 1 ∷ go (spoke north) 0 1 ∷ go north_side 0 1 ∷ [])

pub diagonal-leaves-none : (s : Step) → centre_left job_own through 0 1 s ≡ 0
unfolding centre_left left_loads avoids every meets hop_count sum hop_at leaving first_loaded arrival_at ends_on falling_ends each is_wired departures total places those
    is_chosen is_missing is_open head ahead_of behind_of
diagonal-leaves-none s = refl

-- K9: "every wire that passes a missing pin": neither of the two does
pub extra-leaves-both : (s : Step) → extra_left job_pair loads_pair s ≡ loads_pair s
unfolding extra_left missing_places left_loads avoids every meets hop_count sum hop_at leaving first_loaded arrival_at ends_on falling_ends each is_wired departures total
    places those is_chosen is_missing is_open head ahead_of behind_of
extra-leaves-both s = omega arith

-- the wire past the missing pin of `job-past` does
abbrev past : Step → ℕ
past = wires_along (go (leg east) 1 0 ∷ go north_side 1 0 ∷ come (leg west) 1 1 ∷ go (leg north) 1 1 ∷ go (corner west) 0 1 ∷ go north_side 0 1 ∷ [])

pub extra-leaves-none : (s : Step) → extra_left job-past past s ≡ 0
unfolding extra_left missing_places left_loads avoids every meets hop_count sum hop_at leaving first_loaded arrival_at ends_on falling_ends each is_wired departures total
    places those is_chosen is_missing is_open head ahead_of behind_of
extra-leaves-none s = refl

-- "Every other wire keeps its places, though its lane numbers may shrink": the eastern wire has lane 0 at the rim, where it had lane 1.
pub lane-shrinks :
    let K : Job = marked job_pair 0 0 0 in
    (wire_count K eastern ≡ 1)
    × (part_at K eastern 0 0 0 ≡ unwired)
    × (part_at K eastern 0 1 0 ≡ to 0 0 (side east) 0)
    × (part_at K eastern 0 1 1 ≡ to 0 0 (side north) 0)
    × (part_at K eastern 0 1 2 ≡ out (side north) 0)
    × (part_at K eastern 0 1 3 ≡ past_the_end)
unfolding part_at hop_at leaving first_loaded arrival_at ends_on falling_ends each is_wired wire_count departures total places those
    is_chosen is_missing is_open head ahead_of behind_of
lane-shrinks = (refl, refl, refl, refl, refl, refl)
