-- What each turn of `count::count_groups` keeps. Assumes nothing.
use mathlib.Core.Path.{◌≡◌}
use Prim.Native.Nat.{◌*◌, ◌≤◌}
use lib.ListN.{length}
use Rattle.model.specs.Record.{job_of}
use Rattle.writing.specs.Writer.{groups_text}
use Rattle.writing.proofs.count.count_groups.Given as goal

abbrev pub invariant-loop-group : goal.invariant-loop-group
invariant-loop-group l = (l.group-index ≤ 5) × (l.n ≡ length (groups_text (job_of l.rec) l.group-index)) × (l.n ≤ 8388608 * l.group-index)
