-- Document 01, "Lanes and pairing", by examples: two wires straight on, two that part at n and at a missing pin, and two that leave by one rim side.
-- Assumes nothing.
use mathlib.Core.Path.{◌≡◌, refl}
use mathlib.Core.List.{List, [], ◌∷◌}
use mathlib.Core.Option.{Option, some}
use Prim.Native.Nat.{ℕ}
use Rattle.sums.specs.Counting.{each, those, total}
use Rattle.model.specs.Job.{Job, fresh, marked, is_open, is_chosen, is_missing}
use Rattle.model.specs.Links.{north, east, south, west, missing, side, at, places, north_side, west_side, corner, spoke, leg, link, behind_of, ahead_of}
use Rattle.model.specs.Links.{Step, go, come, head}
use Rattle.model.specs.Loads.{departures}
use Rattle.model.specs.Wires.{falling_ends, ends_on, Hop, arrival_at, leaving, first_loaded, hop_at, is_wired, wire_count}
use Rattle.model.specs.Wires.{Part, to, out, past_the_end, part_at}
use Rattle.model.proofs.FourPins.{wires_along}

-- ---- one place

abbrev hop : Step → ℕ → Option Hop
hop s i = some (record { step = s; lane = i })

-- eastward through w to the centre: each lane goes on as itself
pub straight :
    let f : Step → ℕ = wires_along (go west_side 0 1 ∷ go west_side 0 1 ∷ come (spoke west) 0 1 ∷ come (spoke west) 0 1 ∷ []) in
    (leaving f (at (side west) 0 1) (link west_side 0 1) 0 ≡ hop (come (spoke west) 0 1) 0)
    × (leaving f (at (side west) 0 1) (link west_side 0 1) 1 ≡ hop (come (spoke west) 0 1) 1)
unfolding leaving falling_ends ends_on arrival_at each total
straight = (refl, refl)

-- southward into n and parting: the left lane 0 goes east, lane 1 west
pub parting-at-n :
    let f : Step → ℕ = wires_along (come north_side 1 0 ∷ come north_side 1 0 ∷ go (corner north) 1 0 ∷ come (corner west) 1 0 ∷ []) in
    (leaving f (at (side north) 1 0) (link north_side 1 0) 0 ≡ hop (go (corner north) 1 0) 0)
    × (leaving f (at (side north) 1 0) (link north_side 1 0) 1 ≡ hop (come (corner west) 1 0) 0)
unfolding leaving falling_ends ends_on arrival_at each total
parting-at-n = (refl, refl)

-- southward into a missing pin and parting: the left lane 0 goes east, lane 1 west
pub parting-at-missing :
    let f : Step → ℕ = wires_along (come (leg north) 1 1 ∷ come (leg north) 1 1 ∷ go (leg east) 1 1 ∷ go (leg west) 1 1 ∷ []) in
    (leaving f (at missing 1 1) (link (leg north) 1 1) 0 ≡ hop (go (leg east) 1 1) 0)
    × (leaving f (at missing 1 1) (link (leg north) 1 1) 1 ≡ hop (go (leg west) 1 1) 0)
unfolding leaving falling_ends ends_on arrival_at each total
parting-at-missing = (refl, refl)

-- ---- side by side

-- 2 by 2, caps 2 2 0, the two northern pins chosen: the eastern one's wire goes by e to n, and both leave by the north side
abbrev pub job_pair : Job
job_pair = marked (marked (fresh 2 2 2 2 0) 0 0 1) 0 1 1

abbrev pub loads_pair : Step → ℕ
loads_pair = wires_along (go (leg east) 0 0 ∷ go north_side 0 0 ∷ go (leg south) 0 1 ∷ come (corner north) 0 0 ∷ go north_side 0 0 ∷ [])

abbrev listed_pair : ℕ → List Part
listed_pair c =
    part_at job_pair loads_pair 0 c 0 ∷ part_at job_pair loads_pair 0 c 1 ∷ part_at job_pair loads_pair 0 c 2 ∷ part_at job_pair loads_pair 0 c 3 ∷ []

-- northward the western wire is on the left: lane 0, the other lane 1
pub side_by_side :
    (wire_count job_pair loads_pair ≡ 2)
    × (listed_pair 0 ≡ to 0 0 (side north) 0 ∷ out (side north) 0 ∷ past_the_end ∷ past_the_end ∷ [])
    × (listed_pair 1 ≡ to 0 0 (side east) 0 ∷ to 0 0 (side north) 0 ∷ out (side north) 1 ∷ past_the_end ∷ [])
unfolding part_at hop_at leaving first_loaded arrival_at ends_on falling_ends each is_wired wire_count departures total places those
    is_chosen is_missing is_open head ahead_of behind_of
side_by_side = (refl, refl, refl)
