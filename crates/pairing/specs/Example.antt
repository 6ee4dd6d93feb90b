-- Document 01's worked sequences round by round; the first is Table I of source document 000. And the pairing goes along the sequence and not round it:
-- where the lanes depart, arrive, depart, arrive, arrive and depart, each is joined with its neighbour, though round a circle the first arrival would be
-- joined with the second departure. Assumes nothing.
use Rattle.std.specs.Prelude.{◌≡◌, refl, Bool, false, List, [], ◌∷◌, ℕ, get_or}
use Rattle.std.proofs.Math.Option.{Option, none, some}
use Rattle.sums.specs.Counting.{sum}
use Rattle.model.specs.Pairing.{Struck, strike, pairs_of}
use Rattle.model.specs.Examples.{pair, six_lanes, four_lanes}
use Rattle.pairing.specs.Slots.{start, arrival_pos, arrives_at}
use Rattle.pairing.specs.Answer.{lanes, partner_of}

-- a round of a worked sequence
abbrev struck : List Bool → List ℕ → Option Struck
struck w = strike (λ i. get_or w i false)

abbrev joins : ℕ → ℕ → List ℕ → Option Struck
joins a b l = some (record { pair = pair a b; rest = l })

-- A B c d e F: rows 1 to 4 of the table
pub table-one : (struck six_lanes.arrivals (0 ∷ 1 ∷ 2 ∷ 3 ∷ 4 ∷ 5 ∷ []) ≡ joins 1 2 (0 ∷ 3 ∷ 4 ∷ 5 ∷ []))
    × (struck six_lanes.arrivals (0 ∷ 3 ∷ 4 ∷ 5 ∷ []) ≡ joins 0 3 (4 ∷ 5 ∷ [])) × (struck six_lanes.arrivals (4 ∷ 5 ∷ []) ≡ joins 4 5 [])
    × (struck six_lanes.arrivals [] ≡ none)
table-one = (refl, refl, refl, refl)

-- A b C d
pub four-rounds : (struck four_lanes.arrivals (0 ∷ 1 ∷ 2 ∷ 3 ∷ []) ≡ joins 0 1 (2 ∷ 3 ∷ []))
    × (struck four_lanes.arrivals (2 ∷ 3 ∷ []) ≡ joins 2 3 []) × (struck four_lanes.arrivals [] ≡ none)
four-rounds = (refl, refl, refl)

abbrev ins : ℕ → ℕ
ins = lanes (0 ∷ 1 ∷ 2 ∷ 0 ∷ 0 ∷ [])

abbrev outs : ℕ → ℕ
outs = lanes (1 ∷ 1 ∷ 1 ∷ 0 ∷ 0 ∷ [])

pub neighbours-joined : pairs_of (arrives_at ins outs 5) (start ins outs 5) ≡ pair 0 1 ∷ pair 2 3 ∷ pair 4 5 ∷ []
unfolding arrives_at sum lanes
neighbours-joined = refl

-- the lane that arrives in slot 1 is joined with the one that departs in slot 0
pub first-joined : partner_of ins outs 5 (arrival_pos ins outs 1 0) ≡ 0
unfolding arrives_at sum lanes
first-joined = refl
