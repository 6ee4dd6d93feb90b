-- What each turn of `lead_outward` keeps. Assumes nothing.
use mathlib.Core.Path.{◌≡◌}
use lib.ListN.{length}
use Rattle.outward.specs.Outward.{Outward, parts}
use Rattle.outward.proofs.lead_outward.Given as goal

abbrev pub invariant-loop-r : goal.invariant-loop-r
invariant-loop-r l = (length l.old ≡ length l.initial.old) × Outward (parts l.rows l.columns) l.old
