-- What each turn of `cells::cells` keeps. Assumes nothing.
use Prim.Native.Nat.{ℕ, ◌≤◌, ◌<◌}
use lib.Dec.{T}
use Rattle.channel.specs.Map.{row_of, column_of}
use Rattle.audit.specs.Feasible.{Decides}
use Rattle.audit.specs.Laws.{cell_fits}
use Rattle.audit.proofs.cells.cells.Given as goal

abbrev pub invariant-loop-x : goal.invariant-loop-x
invariant-loop-x l =
    (41 ≤ l.x) × (l.x ≤ 1641) × Decides ((i : ℕ) → i < l.x → 41 ≤ i → T (cell_fits l.rec (row_of i) (column_of i))) l.fit
