-- What each turn of `put_row` keeps. Assumes nothing.
use mathlib.Core.Path.{◌≡◌}
use Prim.Native.Nat.{◌+◌, ◌*◌, ◌≤◌}
use lib.ListN.{length}
use Rattle.outward.specs.Outward.{Put, line_has}
use Rattle.outward.proofs.put_row.Given as goal

abbrev pub invariant-loop-c : goal.invariant-loop-c
invariant-loop-c l =
    (l.c ≤ 40) × (length l.old ≡ length l.initial.old) × (l.at ≡ 3968 + (1600 * l.k + 40 * l.r))
    × Put l.initial.old (1600 * l.k + 40 * l.r) (1600 * l.k + 40 * l.r + l.c) (line_has l.line l.x l.y (1600 * l.k + 40 * l.r)) l.old
