-- What each turn of `row_sectors` keeps. Assumes nothing.
use mathlib.Core.Path.{◌≡◌}
use Prim.Native.Nat.{ℕ, ◌≤◌, ◌<◌}
use lib.ListN.{length, get_or}
use Rattle.model.specs.Links.{compass_code}
use Rattle.outward.specs.Outward.{Parts, sector, Middle}
use Rattle.outward.proofs.row_sectors.Given as goal

abbrev pub invariant-loop-c : goal.invariant-loop-c
invariant-loop-c l =
    (l.c ≤ 40) × (length l.line ≡ 40)
    × ((P : Parts) (r : ℕ) → l.left ≡ P.left r → l.right ≡ P.right r → Middle P r l.middle → (i : ℕ) → i < l.c → get_or l.line i 0 ≡ compass_code (sector P r i))
