-- Each diagonal of an open tile is crossed inside that tile at most as often as the tile's D says, its own or the job's. A diagonal cuts two corners,
-- opposite each other, and every wire through the centre may cross it: the corners take O/2 wires each, and the centre passes what the tile's D leaves. So it
-- holds of feasible loads alone. Assumes nothing.
use Rattle.std.proofs.Math.Path.{refl}
use Rattle.std.specs.Prelude.{ℕ, ◌+◌, ◌/◌, ◌≤◌, T}
use Rattle.std.proofs.Common.{arith}
use Rattle.model.specs.Job.{Job, centre_limit, tile_d, is_open}
use Rattle.model.specs.Links.{Compass, clockwise, centre, at, corner, Step, go, come, limit_of}
use Rattle.model.specs.Loads.{arrivals, Feasible}
use Rattle.model.proofs.Own.{Capped, tile-range}

-- the wires on a link, both ways together
abbrev pub on_corner : (Step → ℕ) → Compass → ℕ → ℕ → ℕ
on_corner f d r c = f (go (corner d) r c) + f (come (corner d) r c)

-- the wires that can cross the diagonal which cuts the corner d and the one opposite: of n-e and s-w it is that from NE to SW, of e-s and w-n the other
abbrev pub crossing : (Step → ℕ) → Compass → ℕ → ℕ → ℕ
crossing f d r c = on_corner f d r c + on_corner f (clockwise (clockwise d)) r c + arrivals f (at centre r c)

module _ (J : Job) (caps : Capped J) (f : Step → ℕ) (feasible : Feasible J f) where
  corner-limit : (d : Compass) (r c : ℕ) → on_corner f d r c ≤ J.O / 2
  unfolding limit_of
  corner-limit d r c = feasible.limits (go (corner d) r c) (J.O / 2) refl

  centre-limit : (r c : ℕ) → T (is_open J r c) → arrivals f (at centre r c) ≤ centre_limit J.O (tile_d J r c)
  centre-limit r c t = feasible.passing (at centre r c) (centre_limit J.O (tile_d J r c)) t refl

  pub diagonal-crossed : (d : Compass) (r c : ℕ) → T (is_open J r c) → crossing f d r c ≤ tile_d J r c
  diagonal-crossed d r c t =
      omega (arith, corner-limit d r c, corner-limit (clockwise (clockwise d)) r c, centre-limit r c t, (tile-range J caps r c).0)
