-- Document 01, "Lanes and pairing", "Runs" and "The listing": the lanes round a place, the wire from a pin, what Part gives, and the wires that loads
-- hold. f gives each step how many wires go along its link that way. Assumes nothing.
use Rattle.std.specs.Prelude.{◌≡◌, Bool, true, false, ◌&&◌, ℕ, zero, suc, ◌≤◌, T, eqb, ltb, length}
use mathlib.Core.List.{List, [], ◌∷◌, ◌++◌, map, Memᴰ}
use Rattle.std.proofs.Math.Option.{Option, none, some}
use Rattle.std.proofs.Math.ListN.{get_elem?}
use Rattle.sums.specs.Counting.{each, count}
use Rattle.model.specs.Job.{Job, is_chosen}
use Rattle.model.specs.Links.{PlaceKind, pin, missing, centre, outside, nowhere, side, Place, at, is_place, is_pin_kind, places, Link, Step, head, tail, turn, around, same_link}
use Rattle.model.specs.Route.{Route, visits}
use Rattle.model.specs.Loads.{departures}
use Rattle.model.specs.Pairing.{Pair, pairs_of, partner_in, Crosses}

-- ---- the sequence round a place

-- a lane of a link at a place; the link is given as the step that leaves the place by it
pub record End : Type 0 where
  pub step : Step
  pub arriving : Bool
  pub lane : ℕ

abbrev pub arrival : Step → ℕ → End
arrival s i = record { step = s; arriving = true; lane = i }

abbrev pub departure : Step → ℕ → End
departure s i = record { step = s; arriving = false; lane = i }

-- f (n - 1), .. f 0
unfoldable pub falling_ends : ℕ → (ℕ → End) → List End
falling_ends zero f = []
falling_ends (suc n) f = f n ∷ falling_ends n f

-- f 0, .. f (n - 1)
abbrev pub rising_ends : ℕ → (ℕ → End) → List End
rising_ends n f = each n (λ i. f i ∷ [])

-- "Within a link, arriving lanes come in falling order and departing lanes in rising order."
unfoldable pub ends_on : (Step → ℕ) → List Step → List End
ends_on f [] = []
ends_on f (s ∷ l) = falling_ends (f (turn s)) (arrival s) ++ (rising_ends (f s) (departure s) ++ ends_on f l)

abbrev pub ends : (Step → ℕ) → Place → List End
ends f x = ends_on f (around x)

abbrev pub arrives : List End → ℕ → Bool
arrives l i = elim (get_elem? l i) [ none ↦ false | some e ↦ e.arriving ]

abbrev pub pairs_at : (Step → ℕ) → Place → List Pair
pairs_at f x = pairs_of (arrives (ends f x)) (length (ends f x))

-- no two wires cross in the place
abbrev pub Uncrossed : (Step → ℕ) → Place → Type 0
Uncrossed f x = (p q : Pair) → Memᴰ p (pairs_at f x) → Memᴰ q (pairs_at f x) → Crosses p q → ⊥

-- ---- the wire from a pin

-- a step taken on a lane
pub record Hop : Type 0 where
  pub step : Step
  pub lane : ℕ

-- where in the sequence the lane i of the link l arrives
unfoldable pub arrival_at : Link → ℕ → List End → ℕ
arrival_at l i [] = 0
arrival_at l i (e ∷ es) = elim (e.arriving && (same_link l e.step.link && eqb i e.lane)) [ true ↦ 0 | false ↦ suc (arrival_at l i es) ]

abbrev pub departing : Option End → Option Hop
departing none = none
departing (some e) = elim e.arriving [ true ↦ none | false ↦ some (record { step = e.step; lane = e.lane }) ]

-- how the wire goes on from the place x, to which it came on the lane i of the link l; nothing leaves the outside
unfoldable pub leaving : (Step → ℕ) → Place → Link → ℕ → Option Hop
leaving f x l i = departing (get_elem? (ends f x) (partner_in (pairs_at f x) (arrival_at l i (ends f x))))

-- the lane 0 of the first loaded link
unfoldable pub first_loaded : (Step → ℕ) → List Step → Option Hop
first_loaded f [] = none
first_loaded f (s ∷ l) = elim (ltb 0 (f s)) [ true ↦ some (record { step = s; lane = 0 }) | false ↦ first_loaded f l ]

-- "`to` is row, column, place, lane by which it is entered; `out` is rim side and lane."
pub data Part : Type 0 where
  unwired : Part
  to : ℕ → ℕ → PlaceKind → ℕ → Part
  out : PlaceKind → ℕ → Part
  past_the_end : Part

-- what a step on the lane i from the place x to the place y is listed as
abbrev pub part_for : Place → PlaceKind → ℕ → ℕ → ℕ → Part
part_for x pin r c i = to r c pin i
part_for x missing r c i = to r c missing i
part_for x centre r c i = to r c centre i
part_for x outside r c i = out x.kind i
part_for x nowhere r c i = to r c nowhere i
part_for x (side d) r c i = to r c (side d) i

module _ (J : Job) (f : Step → ℕ) where
  abbrev pub onward : Option Hop → Option Hop
  onward none = none
  onward (some h) = leaving f (head J h.step) h.step.link h.lane

  -- the hops of the wire of the pin (r, c), by index
  unfoldable pub hop_at : ℕ → ℕ → ℕ → Option Hop
  hop_at r c zero = first_loaded f (around (at pin r c))
  hop_at r c (suc i) = onward (hop_at r c i)

  unfoldable pub is_wired : ℕ → ℕ → Bool
  is_wired r c = is_chosen J r c && ltb 0 (departures f (at pin r c))

  -- how many wires there are
  unfoldable pub wire_count : ℕ
  wire_count = count (places J) (λ x. is_pin_kind x && is_wired x.row x.column)

  abbrev pub part_of : Option Hop → Part
  part_of none = past_the_end
  part_of (some h) = part_for (tail J h.step) (head J h.step).kind (head J h.step).row (head J h.step).column h.lane

  -- "Gives unwired if the pin has no wire; else the `to` or `out` at that index, counted from 0, or past the end."
  unfoldable pub part_at : ℕ → ℕ → ℕ → Part
  part_at r c i = elim (is_wired r c) [ true ↦ part_of (hop_at r c i) | false ↦ unwired ]

  -- "A chosen pin's wire is the chain that Part lists from index 0 to its `out`."
  abbrev pub Wire : ℕ → ℕ → List Hop → Type 0
  Wire r c hs = (i : ℕ) → hop_at r c i ≡ get_elem? hs i

  -- "These are the wires that the record holds": the routes are the wires, one for each wired pin; no wire meets a place twice, and no two cross.
  pub record Holds (rs : List (Route J)) : Type 0 where
    pub wires : (p : Route J) → Memᴰ p rs → (hs : List Hop) × Wire p.row p.column hs × (p.steps ≡ map (λ h. h.step) hs)
    pub wired : (r c : ℕ) → T (is_wired r c) → (p : Route J) × Memᴰ p rs × (p.row ≡ r) × (p.column ≡ c)
    pub number : length rs ≡ wire_count
    pub once : (p : Route J) → Memᴰ p rs → (x : Place) → visits J x p.steps ≤ 1
    pub uncrossed : (x : Place) → T (is_place J x) → Uncrossed f x
