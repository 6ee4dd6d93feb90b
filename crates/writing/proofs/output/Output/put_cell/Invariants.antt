-- What each turn of `put_cell` keeps. Assumes nothing.
use Prim.Native.Nat.{◌≤◌}
use Rattle.sums.specs.Counting.{each}
use Rattle.model.specs.Record.{job_of}
use Rattle.line.specs.Groups.{text_group}
use Rattle.writing.specs.Writer.{side_text}
use Rattle.writing.specs.Output.{Appends}
use Rattle.writing.proofs.output.Output.put_cell.Given as goal

abbrev pub invariant-loop-side : goal.invariant-loop-side
invariant-loop-side l =
    (l.side ≤ 4) × Appends (each l.side (side_text (job_of l.rec) (text_group l.group) l.row l.column)) l.initial.self l.self
