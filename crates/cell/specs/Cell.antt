-- The tests of a cell (r, c): the mark of its pin, the state of its tile, the counts of its sides, its tile's own D, the bytes of its 15 links, and the loads at its places. A
-- link's byte is held against the room that each of its two ways has. Every definition of this file is shut: a crate above sees its name and the laws. Assumes nothing.
pub mod Tests
pub mod Values
pub mod Counts
pub mod Own
pub mod Links
pub mod Rooms
pub mod Sums
pub mod Places
pub mod Grid
use Rattle.std.specs.Prelude.{Bool, true, false, not, ◌&&◌, ◌||◌, List, ℕ, ◌+◌, eqb, leb, ltb}
use Rattle.std.proofs.Math.Option.{Option, none, some}
use Rattle.sums.specs.Counting.{when}
use Rattle.model.specs.Job.{Job, is_pin, is_tile, is_open, is_chosen, is_missing, has_north, has_west, own_d_fits, centre_limit, tile_d, extra_limit}
use Rattle.model.specs.Links.{Compass, north, east, south, west, pin, missing, centre, side, Place, at, LinkKind, north_side, west_side, corner, spoke, leg, direct, Step, go, come, may, limit}
use Rattle.model.specs.Loads.{arrivals, departures}
use Rattle.model.specs.Record.{load_plane, cell, job_of, load}

-- at all four points of the compass
pub all_four : (Compass → Bool) → Bool
all_four p = p north && (p east && (p south && p west))

-- a byte of a link that has room for `forth` wires its positive way and for `back` the other way
pub fits : ℕ → ℕ → ℕ → Bool
fits b forth back = leb b forth || (ltb 32 b && leb b (32 + back))

-- a byte has at most 31 wires
pub most : Option ℕ → ℕ
most none = 31
most (some k) = k

-- how many wires may go along a step at most
pub room : Job → Step → ℕ
room J s = when (may J s) (most (limit J s.link))

-- how many wires may leave a pin of the mark m by one leg
pub leaving : ℕ → ℕ
leaving m = elim (eqb m 2) [ true ↦ 31 | false ↦ when (eqb m 1) 1 ]

module _ (rec : List ℕ) where
  abbrev J : Job
  J = job_of rec

  -- ---- values

  -- the mark of the pin and the state of the tile are in range, and 0 where there is none
  pub values_fit : ℕ → ℕ → Bool
  values_fit r c = leb (J.mark r c) (when (is_pin J r c) 2) && leb (J.state r c) (when (is_tile J r c) 1)

  -- the counts of wires already laid on the sides that stand at the cell are at most O, and 0 where there is no side
  pub counts_fit : ℕ → ℕ → Bool
  counts_fit r c = leb (J.added.laid_north r c) (when (has_north J r c) J.O) && leb (J.added.laid_west r c) (when (has_west J r c) J.O)

  -- the tile's own D is one that it may have, or 0, and 0 where there is no tile
  pub own_fits : ℕ → ℕ → Bool
  own_fits r c = elim (is_tile J r c) [ true ↦ own_d_fits J (J.added.own_d r c) | false ↦ eqb (J.added.own_d r c) 0 ]

  -- ---- links

  pub link_fits : LinkKind → ℕ → ℕ → Bool
  link_fits k r c = fits (cell rec (load_plane k) r c) (room J (go k r c)) (room J (come k r c))

  pub sides_fit : ℕ → ℕ → Bool
  sides_fit r c = link_fits north_side r c && link_fits west_side r c

  pub corners_fit : ℕ → ℕ → Bool
  corners_fit r c = all_four (λ d. link_fits (corner d) r c)

  pub spokes_fit : ℕ → ℕ → Bool
  spokes_fit r c = all_four (λ d. link_fits (spoke d) r c)

  pub legs_fit : ℕ → ℕ → Bool
  legs_fit r c = all_four (λ d. link_fits (leg d) r c)

  -- no link of the cell has more wires than it may have
  pub links_fit : ℕ → ℕ → Bool
  links_fit r c = sides_fit r c && (corners_fit r c && (spokes_fit r c && (legs_fit r c && link_fits direct r c)))

  -- the bytes of four planes from p on, in an open tile with room for n wires everywhere
  pub four_fit : ℕ → ℕ → ℕ → ℕ → Bool
  four_fit p r c n = fit p && (fit (p + 1) && (fit (p + 2) && fit (p + 3)))
    where
      fit : ℕ → Bool
      fit q = fits (cell rec q r c) (when (is_open J r c) n) (when (is_open J r c) n)

  -- ---- places

  -- as many wires come as leave
  pub even_at : Place → Bool
  even_at x = eqb (arrivals (load rec) x) (departures (load rec) x)

  -- the same, and no more than n
  pub passes_at : Place → ℕ → Bool
  passes_at x n = even_at x && leb (arrivals (load rec) x) n

  pub tile_even : ℕ → ℕ → Bool
  tile_even r c = not (is_open J r c) || all_four (λ d. even_at (at (side d) r c))

  pub centre_even : ℕ → ℕ → Bool
  centre_even r c = not (is_open J r c) || passes_at (at centre r c) (centre_limit J.O (tile_d J r c))

  -- a chosen pin starts at most one wire
  pub starts_one : ℕ → ℕ → Bool
  starts_one r c = not (is_chosen J r c) || leb (departures (load rec) (at pin r c)) 1

  pub missing_even : ℕ → ℕ → Bool
  missing_even r c = not (is_missing J r c) || passes_at (at missing r c) (extra_limit J)

  pub pins_even : ℕ → ℕ → Bool
  pins_even r c = starts_one r c && missing_even r c

  -- wires end nowhere in the cell, and no place passes more than it may
  pub places_even : ℕ → ℕ → Bool
  places_even r c = tile_even r c && (centre_even r c && pins_even r c)
