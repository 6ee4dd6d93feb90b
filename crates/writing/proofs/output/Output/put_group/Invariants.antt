-- What each turn of `put_group` keeps. Assumes nothing.
use Prim.Native.Nat.{◌≤◌}
use Rattle.sums.specs.Counting.{each}
use Rattle.model.specs.Record.{job_of}
use Rattle.line.specs.Groups.{text_group}
use Rattle.writing.specs.Writer.{row_text}
use Rattle.writing.specs.Output.{Appends}
use Rattle.writing.proofs.output.Output.put_group.Given as goal

abbrev pub invariant-loop-row : goal.invariant-loop-row
invariant-loop-row l =
    (l.row ≤ l.row-end) × Appends (each l.row (row_text (job_of l.rec) (text_group l.group))) l.initial.self l.self
