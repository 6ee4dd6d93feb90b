-- What each turn of `loops::bare` keeps. Assumes nothing.
use Prim.Native.Nat.{ℕ, ◌%◌, ◌≤◌, ◌<◌}
use mathlib.Core.Path.{◌≡◌}
use lib.ListN.{get_or}
use Rattle.audit.proofs.loops.bare.Given as goal

abbrev pub invariant-loop-s : goal.invariant-loop-s
invariant-loop-s l =
    ((j : ℕ) → j < l.s-index → get_or l.s-items j 0 ≡ get_or l.initial.s-items j 0 % 8) × ((j : ℕ) → l.s-index ≤ j → get_or l.s-items j 0 ≡ get_or l.initial.s-items j 0)
