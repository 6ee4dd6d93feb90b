-- What each turn of `ways::lay_way` keeps. Assumes nothing.
use mathlib.Core.List.{List}
use mathlib.Core.Path.{◌≡◌}
use Prim.Native.Nat.{ℕ, ◌≤◌}
use lib.ListN.{length}
use Rattle.augment.specs.Ways.{LaidTo}
use Rattle.augment.proofs.ways.lay_way.Given as goal

abbrev pub invariant-loop-i : goal.invariant-loop-i
invariant-loop-i l =
    (l.i ≤ l.j) × (length l.loads ≡ length l.initial.loads) × ((rec : List ℕ) → LaidTo l.queue l.parent l.slot l.j l.k l.initial.i rec l.initial.loads → LaidTo l.queue l.parent l.slot l.j l.k l.i rec l.loads)

abbrev pub decreases-loop-i : goal.decreases-loop-i
decreases-loop-i l = l.i
