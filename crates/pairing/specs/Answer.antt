-- What the code answers: the slot and the lane of the partner of an arriving lane, or of the lane whose partner a departing one is, for a place of five slots.
-- Assumes nothing.
use Rattle.std.specs.Prelude.{◌≡◌, List, ℕ, ◌≤◌, ◌<◌, ltb, get_or}
use Rattle.std.proofs.Common.{lt-ltb, le-ltb}
use Rattle.sums.specs.Counting.{when}
use Rattle.model.specs.Pairing.{pairs_of, partner_in}
use Rattle.pairing.specs.Slots.{start, arrival_pos, departure_pos, arrives_at}

-- the numbers of lanes of five slots; none past them
unfoldable pub lanes : List ℕ → ℕ → ℕ
lanes l k = when (ltb k 5) (get_or l k 0)

pub lanes-in : (l : List ℕ) (k : ℕ) → k < 5 → lanes l k ≡ get_or l k 0
unfolding lanes
lanes-in l k h = rw (lt-ltb k 5 h)

pub lanes-past : (l : List ℕ) (k : ℕ) → 5 ≤ k → lanes l k ≡ 0
unfolding lanes
lanes-past l k h = rw (le-ltb k 5 h)

-- the partner, by document 01's rounds, of a position of the first m slots
abbrev pub partner_of : (ℕ → ℕ) → (ℕ → ℕ) → ℕ → ℕ → ℕ
partner_of a d m = partner_in (pairs_of (arrives_at a d m) (start a d m))

-- the position p is the lane i of slot k
pub data LaneAt (a d : ℕ → ℕ) (p k i : ℕ) : Type 0 where
  comes : k < 5 → i < a k → p ≡ arrival_pos a d k i → LaneAt a d p k i
  leaves : k < 5 → i < d k → p ≡ departure_pos a d k i → LaneAt a d p k i

-- the departing lane q of slot j is the partner, by document 01's rounds, of the arriving lane i of slot k
pub record Partner (a d : ℕ → ℕ) (k i j q : ℕ) : Type 0 where
  pub slot : j < 5
  pub lane : q < d j
  pub place : partner_of a d 5 (arrival_pos a d k i) ≡ departure_pos a d j q

-- the arriving lane q of slot j is the one whose partner is the departing lane i of slot k
pub record Arrival (a d : ℕ → ℕ) (k i j q : ℕ) : Type 0 where
  pub slot : j < 5
  pub lane : q < a j
  pub partner : Partner a d j q k i
