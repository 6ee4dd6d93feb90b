-- What each turn of `wire_parts` keeps: the hop is the wire's last of n so far, and carries a wire. Assumes nothing.
use Rattle.std.specs.Prelude.{◌≡◌, ◌-◌, ◌≤◌}
use Rattle.std.proofs.Math.Option.{some}
use Rattle.model.specs.Record.{job_of, load}
use Rattle.model.specs.Wires.{hop_at}
use Rattle.wire.specs.Hops.{hop_of, Runs}
use Rattle.wire.proofs.wire_parts.Given as goal

abbrev pub invariant-loop-next : goal.invariant-loop-next
invariant-loop-next l =
    (1 ≤ l.n) × (l.n ≤ 11201) × Runs l.rec l.hop.dart l.hop.lane
    × (hop_at (job_of l.rec) (load l.rec) l.row l.column (l.n - 1) ≡ some (hop_of l.hop))

abbrev pub decreases-loop-next : goal.decreases-loop-next
decreases-loop-next l = 11202 - l.n
