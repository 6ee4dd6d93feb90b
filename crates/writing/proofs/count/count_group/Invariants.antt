-- What each turn of `count::count_group` keeps. Assumes nothing.
use mathlib.Core.Path.{◌≡◌}
use Prim.Native.Nat.{◌*◌, ◌≤◌}
use lib.ListN.{length}
use Rattle.sums.specs.Counting.{each}
use Rattle.model.specs.Record.{job_of}
use Rattle.line.specs.Groups.{text_group}
use Rattle.writing.specs.Writer.{row_text}
use Rattle.writing.proofs.count.count_group.Given as goal

abbrev pub invariant-loop-row : goal.invariant-loop-row
invariant-loop-row l =
    (l.row ≤ l.rows) × (l.n ≡ length (each l.row (row_text (job_of l.rec) (text_group l.group)))) × (l.n ≤ 32768 * l.row)
