-- Document 02, K5, K7 and K9: which wires an edit takes out, and the loads of those that stay. f gives each step how many wires go along its link that way. Assumes
-- nothing.
use Rattle.std.specs.Prelude.{Bool, false, not, ◌&&◌, ◌||◌, List, [], ◌∷◌, ℕ, suc, ◌-◌, leb, ltb, length}
use Rattle.std.proofs.Math.Option.{Option, none, some}
use Rattle.sums.specs.Counting.{when, sum, those, total}
use Rattle.sums.specs.Tests.{every}
use Rattle.model.specs.Job.{Job, Side, of_north, of_west}
use Rattle.model.specs.Links.{north, east, south, west, pin, centre, side, Place, at, is_pin_kind, is_missing_kind, places, pin_at, same_place, north_side, west_side, Link, link, same_link, Step, head, same_step}
use Rattle.model.specs.Wires.{Hop, hop_at, is_wired}

-- "An open tile has five places: n, e, s, w and the centre c."
abbrev pub tile_places : ℕ → ℕ → List Place
tile_places r c = at (side north) r c ∷ at (side east) r c ∷ at (side south) r c ∷ at (side west) r c ∷ at centre r c ∷ []

-- "A missing pin is a place."
unfoldable pub missing_places : Job → List Place
missing_places J = those is_missing_kind (places J)

abbrev pub link_of : Side → Link
link_of (of_north r c) = link north_side r c
link_of (of_west r c) = link west_side r c

abbrev pub hop_passes : (Hop → Bool) → Option Hop → Bool
hop_passes p none = false
hop_passes p (some h) = p h

module _ (J : Job) (f : Step → ℕ) where
  -- no wire has more hops, since none meets a place twice
  abbrev pub hops_most : ℕ
  hops_most = suc (length (places J))

  -- how many hops of the wire of the pin (r, c) pass the test
  unfoldable pub hop_count : (Hop → Bool) → ℕ → ℕ → ℕ
  hop_count p r c = sum hops_most (λ n. when (hop_passes p (hop_at J f r c n)) 1)

  -- ---- the loads of the wires that stay

  -- how often the wire of the pin (r, c) goes by the step s
  abbrev pub wire_uses : ℕ → ℕ → Step → ℕ
  wire_uses r c s = hop_count (λ h. same_step s h.step) r c

  -- `stays` says of each pin whether its wire stays.
  unfoldable pub left_loads : (ℕ → ℕ → Bool) → Step → ℕ
  left_loads stays s =
      total (places J) (λ x. when (is_pin_kind x && (is_wired J f x.row x.column && stays x.row x.column)) (wire_uses x.row x.column s))

  -- ---- which wires meet a place

  -- the wire of the pin (r, c) starts at the place x, or comes there
  unfoldable pub meets : Place → ℕ → ℕ → Bool
  meets x r c = same_place x (at pin r c) || ltb 0 (hop_count (λ h. same_place x (head J h.step)) r c)

  -- it meets none of the places
  unfoldable pub avoids : List Place → ℕ → ℕ → Bool
  avoids xs r c = every xs (λ x. not (meets x r c))

  -- ---- what an edit leaves

  -- "An edit takes out only the wires that start at the edited pin, pass the edited missing pin, ..": no other wire meets a pin.
  unfoldable pub mark_left : ℕ → ℕ → Step → ℕ
  mark_left r c = left_loads (avoids (pin_at J r c ∷ []))

  -- ".. or meet a place of the tile being closed."
  unfoldable pub close_left : ℕ → ℕ → Step → ℕ
  close_left r c = left_loads (avoids (tile_places r c))

  -- K7: "A changed value takes out the wires through that tile's centre."
  unfoldable pub centre_left : ℕ → ℕ → Step → ℕ
  centre_left r c = left_loads (avoids (at centre r c ∷ []))

  -- the wire of the pin (r, c) has a lane of the link from the k-th on; "All wires on a link run one way."
  unfoldable pub has_lane : Link → ℕ → ℕ → ℕ → Bool
  has_lane l k r c = ltb 0 (hop_count (λ h. same_link l h.step.link && leb k h.lane) r c)

  -- "Lowering a side's limit takes out the highest lanes, just enough": with the count n the limit is O less n, and lanes count from 0.
  unfoldable pub laid_left : Side → ℕ → Step → ℕ
  laid_left s n = left_loads (λ r c. not (has_lane (link_of s) (J.O - n) r c))

  -- K9: "It takes out every wire that passes a missing pin."
  unfoldable pub extra_left : Step → ℕ
  extra_left = left_loads (avoids (missing_places J))
