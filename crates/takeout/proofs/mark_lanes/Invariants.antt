-- What each turn of `mark_lanes` keeps: the pins of the wires on the lanes before this one are marked. Assumes nothing.
use Rattle.std.specs.Prelude.{◌≡◌, length}
use Rattle.model.specs.Record.{load}
use Rattle.channel.specs.Map.{step_of}
use Rattle.takeout.specs.Marks.{Adds, Between}
use Rattle.takeout.proofs.mark_lanes.Given as goal

abbrev pub invariant-loop-lane : goal.invariant-loop-lane
invariant-loop-lane l = (length l.taken ≡ length l.initial.taken) × (l.n ≡ load l.was (step_of l.dart)) × Adds l.was (Between l.dart l.from l.lane) l.initial.taken l.taken
