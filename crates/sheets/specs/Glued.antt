-- The loads inside different tiles are independent: whatever loads each tile has inside, one family of loads has them all. So a sheet is carried exactly if
-- each tile by itself is.
-- Assumes nothing.
use Rattle.std.specs.Prelude.{◌≡◌, ◌↔◌, Bool, true, false, List, ℕ, ◌+◌, T}
use Rattle.sums.specs.Counting.{those, total}
use Rattle.model.specs.Job.{Job, is_tile}
use Rattle.model.specs.Links.{Compass, north, east, south, west, side, at, Step, turn}
use Rattle.model.specs.Loads.{arrivals, departures}
use Rattle.model.specs.Sheet.{inner_steps, Inside, brings, takes, TileFits, Carried, TileCarried}

-- on a link of the tile (r, c), the loads of that tile
abbrev pub glued : (ℕ → ℕ → Step → ℕ) → Step → ℕ
glued f s = f s.link.row s.link.column s

module _ (J : Job) (f : ℕ → ℕ → Step → ℕ) (r c : ℕ) (comes leaves : Compass → ℕ) (i : Inside J r c (f r c) comes leaves) where
  glued-sides : (d : Compass) → comes d + total (inner_steps (at (side d) r c)) (λ s. glued f (turn s)) ≡ leaves d + total (inner_steps (at (side d) r c)) (glued f)
  unfolding inner_steps those total
  glued-sides north = i.sides north
  glued-sides east = i.sides east
  glued-sides south = i.sides south
  glued-sides west = i.sides west

  pub glued-inside : Inside J r c (glued f) comes leaves
  unfolding total arrivals departures
  glued-inside = record { one_way = i.one_way; limits = i.limits; passing = i.passing; centred = i.centred; sides = glued-sides }

module _ (J : Job) (sheet : List ℕ) where
  glued-fits : (f : ℕ → ℕ → Step → ℕ) (r c : ℕ) → TileFits J sheet (f r c) r c → TileFits J sheet (glued f) r c
  glued-fits f r c t =
      record { opened = λ o. glued-inside J f r c (brings sheet r c) (takes sheet r c) (t.opened o); shut = t.shut }

  -- the loads of a tile; whatever they are where there is none
  loads_at : (r c : ℕ) → (T (is_tile J r c) → TileCarried J sheet r c) → (f : Step → ℕ) × (T (is_tile J r c) → TileFits J sheet f r c)
  loads_at r c = go (is_tile J r c)
    where
      go : (b : Bool) → (T b → TileCarried J sheet r c) → (f : Step → ℕ) × (T b → TileFits J sheet f r c)
      go true g = ((g tt).0, λ t. (g tt).1)
      go false g = (λ s. 0, λ t. absurd t)

  pub carried-tiles : Carried J sheet ↔ ((r c : ℕ) → T (is_tile J r c) → TileCarried J sheet r c)
  carried-tiles = (
    λ k r c t. (k.0, k.1 r c t),
    λ all.
        (glued (λ r c. (loads_at r c (all r c)).0), λ r c t. glued-fits (λ r c. (loads_at r c (all r c)).0) r c ((loads_at r c (all r c)).1 t)),
  )
