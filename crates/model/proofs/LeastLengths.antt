-- Document 02, K8: the least lengths of rows of jobs. In the crowded one the pins have a route of length 10 each, taken alone, and the least total is 30 and not
-- 20; where a pin is missing the least wiring passes it, 24, and where it is idle goes round it, 30. Assumes nothing.
use mathlib.Core.Path.{◌≡◌, refl, sym, subst}
use mathlib.Core.Bool.{true, false, ◌&&◌}
use mathlib.Core.List.{List, [], ◌∷◌, Memᴰ}
use Prim.Native.Nat.{ℕ}
use lib.Dec.{eqb}
use Rattle.sums.specs.Counting.{when, each, those, total}
use Rattle.sums.specs.Tests.{every}
use Rattle.model.specs.Job.{is_open, is_chosen, is_missing}
use Rattle.model.specs.Links.{north, east, south, west, pin, outside, Place, at, places, place_code, is_pin_kind, north_side, west_side, spoke, leg, direct, Link, link, behind_of, ahead_of, limit_of, go, come, head, may}
use Rattle.model.specs.Route.{Route}
use Rattle.model.specs.Length.{wire_length, LeastLength}
use Rattle.model.specs.Examples.{Measured, job64, job33, job_crowded, job_corner, lengths}
use Rattle.model.proofs.Tolls.{least-by-test}

-- prices by row and column, 0 outside
abbrev by_cell : (ℕ → ℕ → ℕ) → Place → ℕ
by_cell g x = elim (eqb (place_code x.kind) (place_code outside)) [ true ↦ 0 | false ↦ g x.row x.column ]

-- so many tolls on each of the links
abbrev tolls_of : ℕ → List Link → List Link
tolls_of n ls = each n (λ i. ls)

-- ---- direct exits

abbrev routes64 : List (Route job64)
unfolding is_chosen is_missing is_open may head ahead_of behind_of
routes64 = record { row = 0; column = 0; steps = go direct 0 0 ∷ []; chosen = tt; chain = (refl, tt, refl) } ∷ []

least64 : LeastLength job64 0
unfolding every total places each those is_chosen is_missing is_open may head ahead_of behind_of limit_of
least64 =
    least-by-test job64 routes64 (λ x. 0) [] (at pin 0 0 ∷ [])
    (record { together = tt; whole = tt; meets = refl; steps = tt; outside = refl; limited = tt; chosen = tt; once = tt; worth = refl })

abbrev routes33 : List (Route job33)
unfolding is_chosen is_missing is_open may head ahead_of behind_of
routes33 =
    record { row = 0; column = 0; steps = go direct 0 0 ∷ []; chosen = tt; chain = (refl, tt, refl) }
    ∷ record { row = 1; column = 0; steps = go direct 1 0 ∷ []; chosen = tt; chain = (refl, tt, refl) }
    ∷ record {
      row = 1;
      column = 1;
      steps = go (leg west) 1 1 ∷ come (spoke south) 0 0 ∷ go (spoke north) 0 0 ∷ go north_side 0 0 ∷ [];
      chosen = tt;
      chain = (refl, tt, (refl, tt, (refl, tt, (refl, tt, refl))));
    }
    ∷ []

-- the inner pin and the open tile
abbrev price33 : Place → ℕ
price33 x = elim (is_pin_kind x) [ true ↦ when (eqb x.row 1 && eqb x.column 1) 10 | false ↦ by_cell (λ r c. 10) x ]

least33 : LeastLength job33 10
unfolding every total places each those is_chosen is_missing is_open may head ahead_of behind_of limit_of
least33 =
    least-by-test job33 routes33 price33 [] (at pin 0 0 ∷ at pin 1 0 ∷ at pin 1 1 ∷ [])
    (record { together = tt; whole = tt; meets = refl; steps = tt; outside = refl; limited = tt; chosen = tt; once = tt; worth = refl })

-- ---- one side for two

-- over the rim side of tile (0, 1)
abbrev pub first : Route job_crowded
unfolding is_chosen is_missing is_open may head ahead_of behind_of
first =
    record {
      row = 1;
      column = 1;
      steps = go (leg north) 1 1 ∷ come (spoke west) 0 1 ∷ go (spoke north) 0 1 ∷ go north_side 0 1 ∷ [];
      chosen = tt;
      chain = (refl, tt, (refl, tt, (refl, tt, (refl, tt, refl))));
    }

abbrev pub second : Route job_crowded
unfolding is_chosen is_missing is_open may head ahead_of behind_of
second =
    record {
      row = 1;
      column = 2;
      steps = go (leg west) 1 2 ∷ come (spoke south) 0 1 ∷ go (spoke north) 0 1 ∷ go north_side 0 1 ∷ [];
      chosen = tt;
      chain = (refl, tt, (refl, tt, (refl, tt, (refl, tt, refl))));
    }

-- over the side between the tiles (0, 2) and (0, 3) and the rim side of tile (0, 3)
abbrev longer : Route job_crowded
unfolding is_chosen is_missing is_open may head ahead_of behind_of
longer =
    record {
      row = 1;
      column = 2;
      steps =
          go (leg north) 1 2 ∷ come (spoke west) 0 2 ∷ go (spoke east) 0 2 ∷ go west_side 0 3 ∷ come (spoke west) 0 3 ∷ go (spoke north) 0 3 ∷ go north_side 0 3 ∷ [];
      chosen = tt;
      chain = (refl, tt, (refl, tt, (refl, tt, (refl, tt, (refl, tt, (refl, tt, (refl, tt, refl)))))));
    }

abbrev crowded_price : ℕ → ℕ → ℕ
crowded_price r c = elim (eqb c 3) [ true ↦ 10 | false ↦ 20 ]

least_crowded : LeastLength job_crowded 30
unfolding every total places each those is_chosen is_missing is_open may head ahead_of behind_of limit_of
least_crowded =
    least-by-test job_crowded (first ∷ longer ∷ []) (by_cell crowded_price) (tolls_of 10 (link north_side 0 1 ∷ link north_side 0 2 ∷ [])) (at pin 1 1 ∷ at pin 1 2 ∷ [])
    (record { together = tt; whole = tt; meets = refl; steps = tt; outside = refl; limited = tt; chosen = tt; once = tt; worth = refl })

-- Each pin alone has a route of length 10, and these two are no family: their sum is less than the least length.
pub crowded-alone : (wire_length job_crowded first.steps ≡ 10) × (wire_length job_crowded second.steps ≡ 10)
unfolding total head ahead_of behind_of first second
crowded-alone = (refl, refl)

-- ---- past a missing pin

abbrev passing : Route (job_corner 2)
unfolding is_chosen is_missing is_open may head ahead_of behind_of
passing =
    record {
      row = 1;
      column = 1;
      steps =
          go (leg north) 1 1 ∷ come (spoke west) 0 1 ∷ go (spoke south) 0 1 ∷ come (leg west) 1 2 ∷ go (leg east) 1 2 ∷ come (spoke north) 1 2 ∷ go (spoke east) 1 2
          ∷ go west_side 1 3 ∷ [];
      chosen = tt;
      chain = (refl, tt, (refl, tt, (refl, tt, (refl, tt, (refl, tt, (refl, tt, (refl, tt, (refl, tt, refl))))))));
    }

abbrev round : Route (job_corner 0)
unfolding is_chosen is_missing is_open may head ahead_of behind_of
round =
    record {
      row = 1;
      column = 1;
      steps =
          go (leg north) 1 1 ∷ come (spoke west) 0 1 ∷ go (spoke east) 0 1 ∷ go west_side 0 2 ∷ come (spoke west) 0 2 ∷ go (spoke south) 0 2 ∷ come north_side 1 2
          ∷ come (spoke north) 1 2 ∷ go (spoke east) 1 2 ∷ go west_side 1 3 ∷ [];
      chosen = tt;
      chain = (refl, tt, (refl, tt, (refl, tt, (refl, tt, (refl, tt, (refl, tt, (refl, tt, (refl, tt, (refl, tt, (refl, tt, refl))))))))));
    }

-- n in column 1, 20 for tile (0, 2), 10 for tile (1, 2) and the missing pin
abbrev corner_price : ℕ → ℕ → ℕ → ℕ
corner_price n r c = elim (eqb c 1) [ true ↦ n | false ↦ elim (eqb r 0) [ true ↦ 20 | false ↦ 10 ] ]

-- the rim sides that are full
abbrev full : List Link
full = link north_side 0 1 ∷ link north_side 0 2 ∷ link west_side 0 3 ∷ []

least_passing : LeastLength (job_corner 2) 24
unfolding every total places each those is_chosen is_missing is_open may head ahead_of behind_of limit_of
least_passing =
    least-by-test (job_corner 2) (passing ∷ []) (by_cell (corner_price 24)) (tolls_of 20 full) (at pin 1 1 ∷ [])
    (record { together = tt; whole = tt; meets = refl; steps = tt; outside = refl; limited = tt; chosen = tt; once = tt; worth = refl })

least_round : LeastLength (job_corner 0) 30
unfolding every total places each those is_chosen is_missing is_open may head ahead_of behind_of limit_of
least_round =
    least-by-test (job_corner 0) (round ∷ []) (by_cell (corner_price 30)) (tolls_of 20 full) (at pin 1 1 ∷ [])
    (record { together = tt; whole = tt; meets = refl; steps = tt; outside = refl; limited = tt; chosen = tt; once = tt; worth = refl })

-- ---- the rows

pub lengths-hold : (x : Measured) → Memᴰ x lengths → LeastLength x.job x.least
lengths-hold x (Memᴰ.head e) = subst (λ (y : Measured). LeastLength y.job y.least) (sym e) least64
lengths-hold x (Memᴰ.tail (Memᴰ.head e)) = subst (λ (y : Measured). LeastLength y.job y.least) (sym e) least33
lengths-hold x (Memᴰ.tail (Memᴰ.tail (Memᴰ.head e))) = subst (λ (y : Measured). LeastLength y.job y.least) (sym e) least_crowded
lengths-hold x (Memᴰ.tail (Memᴰ.tail (Memᴰ.tail (Memᴰ.head e)))) =
    subst (λ (y : Measured). LeastLength y.job y.least) (sym e) least_passing
lengths-hold x (mathlib.Core.List.Memᴰ.tail (mathlib.Core.List.Memᴰ.tail (mathlib.Core.List.Memᴰ.tail (mathlib.Core.List.Memᴰ.tail (mathlib.Core.List.Memᴰ.tail x21))))) = elim x21 [ ]
lengths-hold x (Memᴰ.tail (Memᴰ.tail (Memᴰ.tail (Memᴰ.tail (Memᴰ.head e))))) =
    subst (λ (y : Measured). LeastLength y.job y.least) (sym e) least_round
