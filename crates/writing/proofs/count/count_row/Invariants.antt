-- What each turn of `count::count_row` keeps. Assumes nothing.
use mathlib.Core.Path.{◌≡◌}
use Prim.Native.Nat.{◌*◌, ◌≤◌}
use lib.ListN.{length}
use Rattle.sums.specs.Counting.{each}
use Rattle.model.specs.Record.{job_of}
use Rattle.line.specs.Groups.{text_group}
use Rattle.writing.specs.Writer.{cell_text}
use Rattle.writing.proofs.count.count_row.Given as goal

abbrev pub invariant-loop-column : goal.invariant-loop-column
invariant-loop-column l =
    (l.column ≤ l.columns) × (l.n ≡ length (each l.column (cell_text (job_of l.rec) (text_group l.group) l.row))) × (l.n ≤ 128 * l.column)
