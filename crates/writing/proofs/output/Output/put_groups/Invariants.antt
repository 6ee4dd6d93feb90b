-- What each turn of `put_groups` keeps. Assumes nothing.
use Prim.Native.Nat.{◌≤◌}
use Rattle.model.specs.Record.{job_of}
use Rattle.writing.specs.Writer.{groups_text}
use Rattle.writing.specs.Output.{Appends}
use Rattle.writing.proofs.output.Output.put_groups.Given as goal

abbrev pub invariant-loop-group : goal.invariant-loop-group
invariant-loop-group l = (l.group-index ≤ 5) × Appends (groups_text (job_of l.rec) l.group-index) l.initial.self l.self
