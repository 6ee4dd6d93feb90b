-- What each turn of `into::write_job` keeps. Assumes nothing.
use mathlib.Core.Path.{◌≡◌}
use Prim.Native.Nat.{◌-◌, ◌≤◌}
use lib.ListN.{length}
use Rattle.model.specs.Job.{Job}
use Rattle.model.specs.Record.{record_size}
use Rattle.model.specs.Text.{reads, Reading}
use Rattle.text.proofs.Writing.{Writing}
use Rattle.text.proofs.into.write_job.Given as goal

abbrev pub invariant-loop-line : goal.invariant-loop-line
invariant-loop-line l =
    (record_size ≤ length l.initial.rec) × (length l.rec ≡ length l.initial.rec) × (l.at ≤ length l.text) × ((K : Job) → Reading l.text (reads K) → Writing l.text l.initial.rec K l.at l.rec)

abbrev pub decreases-loop-line : goal.decreases-loop-line
decreases-loop-line l = length l.text - l.at
