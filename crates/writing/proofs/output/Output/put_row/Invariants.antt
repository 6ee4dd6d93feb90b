-- What each turn of `put_row` keeps. Assumes nothing.
use Prim.Native.Nat.{◌≤◌}
use Rattle.sums.specs.Counting.{each}
use Rattle.model.specs.Record.{job_of}
use Rattle.line.specs.Groups.{text_group}
use Rattle.writing.specs.Writer.{cell_text}
use Rattle.writing.specs.Output.{Appends}
use Rattle.writing.proofs.output.Output.put_row.Given as goal

abbrev pub invariant-loop-column : goal.invariant-loop-column
invariant-loop-column l =
    (l.column ≤ l.column-end) × Appends (each l.column (cell_text (job_of l.rec) (text_group l.group) l.row)) l.initial.self l.self
