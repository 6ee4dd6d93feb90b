-- What each turn of `grid::block` keeps. Assumes nothing.
use mathlib.Core.Path.{◌≡◌}
use mathlib.Core.Bool.{false, ◌&&◌}
use Prim.Native.Nat.{ℕ, ◌≤◌, ◌<◌}
use lib.Dec.{ltb}
use lib.ListN.{length, get_or}
use Rattle.channel.specs.Map.{in_grid, row_of, column_of}
use Rattle.cell.proofs.grid.block.Given as goal

abbrev pub invariant-loop-x : goal.invariant-loop-x
invariant-loop-x l =
    (41 ≤ l.x) × (l.x ≤ 1641) × (length l.map ≡ 1641) × ((i : ℕ) → i < l.x → get_or l.map i false ≡ (in_grid i && (ltb (row_of i) l.n && ltb (column_of i) l.m)))
