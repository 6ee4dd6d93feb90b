-- What each turn of `count::count_cell` keeps. Assumes nothing.
use mathlib.Core.Path.{◌≡◌}
use Prim.Native.Nat.{◌*◌, ◌≤◌}
use lib.ListN.{length}
use Rattle.sums.specs.Counting.{each}
use Rattle.model.specs.Record.{job_of}
use Rattle.line.specs.Groups.{text_group}
use Rattle.writing.specs.Writer.{side_text}
use Rattle.writing.proofs.count.count_cell.Given as goal

abbrev pub invariant-loop-side : goal.invariant-loop-side
invariant-loop-side l =
    (l.side ≤ 4) × (l.n ≡ length (each l.side (side_text (job_of l.rec) (text_group l.group) l.row l.column))) × (l.n ≤ 32 * l.side)
