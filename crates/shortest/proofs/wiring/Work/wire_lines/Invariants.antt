-- What each turn of `wire_lines` keeps. Assumes nothing.
use Rattle.model.specs.Record.{job_of}
use Rattle.augment.specs.Pins.{InRows}
use Rattle.shortest.specs.Work.{LentTo, AdvancedAt}
use Rattle.shortest.proofs.wiring.Work.wire_lines.Given as goal

abbrev pub invariant-loop-i : goal.invariant-loop-i
invariant-loop-i l = record { lent : LentTo l.job l.loads l.self; advanced : AdvancedAt (job_of l.job) (InRows (job_of l.job) 0 l.i) l.initial.loads l.loads l.self }
