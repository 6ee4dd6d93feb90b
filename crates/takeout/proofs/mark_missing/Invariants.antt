-- What each turn of `mark_missing` keeps: the pins of the wires that pass a missing pin of the cells before the i-th are marked. Assumes nothing.
use Rattle.std.specs.Prelude.{◌≡◌, [], length}
use Rattle.model.specs.Record.{job_of}
use Rattle.takeout.specs.Edited.{Marks}
use Rattle.takeout.specs.Missing.{missing_to}
use Rattle.takeout.proofs.mark_missing.Given as goal

abbrev pub invariant-loop-i : goal.invariant-loop-i
invariant-loop-i l =
    (length l.taken ≡ length l.initial.taken) × (Marks l.was l.initial.taken [] → Marks l.was l.taken (missing_to (job_of l.was) l.i))
