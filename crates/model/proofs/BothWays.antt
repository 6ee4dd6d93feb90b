-- "A limit counts wires in both directions together": two routes that take one inner side of limit 1 in opposite directions do not go together, though
-- each goes alone, and both fit where the limit is 2. Assumes nothing.
use mathlib.Core.Path.{refl}
use mathlib.Core.List.{[], ◌∷◌}
use Prim.Native.Nat.{ℕ, ◌*◌}
use native.Mathlib.Omega.{arith}
use Rattle.sums.specs.Counting.{total}
use Rattle.sums.specs.Tests.{every}
use Rattle.model.specs.Job.{Job, fresh, marked, is_open, is_chosen}
use Rattle.model.specs.Links.{north, east, south, west, north_side, west_side, spoke, leg, link, behind_of, ahead_of, limit_of, go, come, head, may}
use Rattle.model.specs.Route.{Route, Together}
use Rattle.model.proofs.ByTest.{together-by-test}

-- 2 by 3, two open tiles side by side, pins (0, 1) and (1, 1) chosen, with the limit O on the side between the tiles
abbrev pub across : ℕ → Job
across O = marked (marked (fresh 2 3 O (2 * O) 0) 0 1 1) 1 1 1

-- (0, 1) by e of the western tile over the side to the eastern tile, and out by its n
abbrev pub eastward : (O : ℕ) → Route (across O)
unfolding is_chosen is_open may head ahead_of behind_of
eastward O =
    record {
      row = 0;
      column = 1;
      steps = go (leg south) 0 1 ∷ go west_side 0 1 ∷ come (spoke west) 0 1 ∷ go (spoke north) 0 1 ∷ go north_side 0 1 ∷ [];
      chosen = tt;
      chain = (refl, tt, (refl, tt, (refl, tt, (refl, tt, (refl, tt, refl)))));
    }

-- (1, 1) by w of the eastern tile over the same side to the western tile, and out by its n
abbrev pub westward : (O : ℕ) → Route (across O)
unfolding is_chosen is_open may head ahead_of behind_of
westward O =
    record {
      row = 1;
      column = 1;
      steps = go (leg north) 1 1 ∷ come west_side 0 1 ∷ come (spoke east) 0 0 ∷ go (spoke north) 0 0 ∷ go north_side 0 0 ∷ [];
      chosen = tt;
      chain = (refl, tt, (refl, tt, (refl, tt, (refl, tt, (refl, tt, refl)))));
    }

pub not-both-ways : Together (across 1) (eastward 1 ∷ westward 1 ∷ []) → ⊥
unfolding total is_chosen is_open may head ahead_of behind_of limit_of
not-both-ways F = omega (arith, F.links (link west_side 0 1) 1 refl)

pub each_way : Together (across 1) (eastward 1 ∷ []) × Together (across 1) (westward 1 ∷ [])
unfolding every total is_chosen is_open may head ahead_of behind_of limit_of
each_way = (together-by-test (across 1) (eastward 1 ∷ []) tt, together-by-test (across 1) (westward 1 ∷ []) tt)

pub both-ways-at-two : Together (across 2) (eastward 2 ∷ westward 2 ∷ [])
unfolding every total is_chosen is_open may head ahead_of behind_of limit_of
both-ways-at-two = together-by-test (across 2) (eastward 2 ∷ westward 2 ∷ []) tt
